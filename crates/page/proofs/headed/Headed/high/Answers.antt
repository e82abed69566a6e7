use Rattle.std.proofs.Common.{ℕ, List, Some, ap, ◌∙◌}
use Rattle.order.specs.Fences.{Bound}
use Rattle.page.specs.Image.{parse_page}
use Rattle.page.proofs.Heads.{bound-none, bound_some}
use Rattle.page.proofs.headed.Headed.high.Goals as goal

pub returns-then-b : goal.returns-then-b
unfolding parse_page
returns-then-b c = bound-none c.args.self.now.image.now 37 c.if-b.true

pub returns-else-b : goal.returns-else-b
unfolding parse_page
returns-else-b c = ap {B = Bound} (λ (k : List ℕ). Some k) c.field_at.ensures ∙ bound_some c.args.self.now.image.now 37 c.if-b.false
