use Rattle.std.proofs.Common.{sym, ◌∙◌}
use Rattle.page.specs.Image.{parse_page}
use Rattle.page.proofs.Rises.{keys-count}
use Rattle.page_view.proofs.row.PageViewKeyRow.count.Goals as goal

pub returns : goal.returns
returns c = c.count.ensures.value ∙ sym (keys-count (parse_page c.args.self.now.image.now))
