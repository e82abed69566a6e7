use Rattle.page.specs.Image.{parse_page}
use Rattle.page_view.proofs.view.PageView.lsn.Goals as goal

pub returns : goal.returns
unfolding parse_page
returns c = c.word_at.ensures
