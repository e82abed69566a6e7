use Rattle.std.proofs.Common.{sym, ◌∙◌}
use Rattle.page.proofs.Parsed.{entries-count}
use Rattle.page_view.proofs.view.PageView.count.Goals as goal

pub returns : goal.returns
returns c = record { value = c.half_at.ensures.value ∙ sym (entries-count c.args.self.now.image.now); few = c.half_at.ensures.fits }
