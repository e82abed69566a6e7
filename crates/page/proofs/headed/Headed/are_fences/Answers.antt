use Rattle.std.proofs.Common.{ℕ, Bool, ◌&&◌, List, ◌∙◌, ap₂, arith}
use Rattle.std.specs.Ordering.{is_lt}
use Rattle.order.specs.Fences.{is_below}
use Rattle.page.proofs.Heads.{head, fences_crossed, fences-alone, fences-foster}
use Rattle.page.proofs.headed.Headed.are_fences.Goals as goal

pub returns-then-not-below : goal.returns-then-not-below
returns-then-not-below g c =
    fences_crossed g.O.KeyOrder.says c.args.self.now.image.now c.below.result
    (c.below.ensures ∙ ap₂ {C = Bool} (is_below g.O.KeyOrder.says) c.low-low.ensures c.high-high.ensures) c.if-not-below.true

pub returns-then-word_at-eq0 : goal.returns-then-word_at-eq0
returns-then-word_at-eq0 g c =
    fences-alone g.O.KeyOrder.says c.args.self.now.image.now c.below.result
    (c.below.ensures ∙ ap₂ {C = Bool} (is_below g.O.KeyOrder.says) c.low-low.ensures c.high-high.ensures) c.if-not-below.false
    c.word_at.result c.word_at.ensures c.if-word_at-eq0.true

pub field_at-key-requires : goal.field_at-key-requires
field_at-key-requires g c = let n = c.args.self.now.size in let h = (head c.args.self.now.image.now c.args.self.now.size c.args.self.now.passed).fkey in omega arith

pub returns : goal.returns
returns g c =
    ap₂ {C = Bool} (λ (x y : Bool). x && y)
    (c.below-2.ensures ∙ ap₂ {C = Bool} (λ (k l : List ℕ). is_lt (g.O.KeyOrder.says k l)) c.low-low.ensures c.field_at-key.ensures)
    (c.below-3.ensures ∙ ap₂ {C = Bool} (is_below g.O.KeyOrder.says) c.field_at-key.ensures c.high-high.ensures)
    ∙ fences-foster g.O.KeyOrder.says c.args.self.now.image.now c.below.result
    (c.below.ensures ∙ ap₂ {C = Bool} (is_below g.O.KeyOrder.says) c.low-low.ensures c.high-high.ensures) c.if-not-below.false
    c.word_at.result c.word_at.ensures c.if-word_at-eq0.false
