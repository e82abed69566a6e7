use Rattle.std.proofs.Common.{rules}
use Rattle.page.specs.Image.{parse_page}
use Rattle.page_view.proofs.view.PageView.level.Goals as goal

pub returns : goal.returns
unfolding parse_page
returns c = search rules
