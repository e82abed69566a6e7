use Rattle.std.proofs.Common.{ℕ, List, Some, ap, ◌∙◌, arith}
use Rattle.order.specs.Fences.{Bound}
use Rattle.page.proofs.Heads.{head, upper-high, upper-foster}
use Rattle.page.proofs.headed.Headed.upper.Goals as goal

pub field_at-requires : goal.field_at-requires
field_at-requires c = let n = c.args.self.now.size in let h = (head c.args.self.now.image.now c.args.self.now.size c.args.self.now.passed).fkey in omega arith

pub returns-then-word_at-eq0 : goal.returns-then-word_at-eq0
returns-then-word_at-eq0 c = c.high.ensures ∙ upper-high c.args.self.now.image.now c.word_at.result c.word_at.ensures c.if-word_at-eq0.true

pub returns-else-word_at-eq0 : goal.returns-else-word_at-eq0
returns-else-word_at-eq0 c =
    ap {B = Bound} (λ (k : List ℕ). Some k) c.field_at.ensures
    ∙ upper-foster c.args.self.now.image.now c.word_at.result c.word_at.ensures c.if-word_at-eq0.false
