use Rattle.std.proofs.Common.{ℕ, ◌<◌, ◌≤◌, List, get_or, ◌∙◌, arith}
use Rattle.field.specs.Fields.{half}
use Rattle.order.specs.Fences.{lent}
use Rattle.page.specs.Content.{upper}
use Rattle.page.specs.Image.{parse_page}
use Rattle.page.proofs.Heads.{head}
use Rattle.page.proofs.Sizes.{key_of}
use Rattle.page.proofs.Going.{go-start, go_unfit, go_unmet, go_on, go-end}
use Rattle.page.proofs.headed.Headed.walks_all.Goals as goal

pub loop-i-init : goal.loop-i-init
loop-i-init g c =
    (omega arith, go-start g.O.KeyOrder.says c.args.self.now.image.now c.word_at-own.result c.low-previous.result.now c.word_at-own.ensures c.low-previous.ensures)

pub half_at-at-requires : goal.half_at-at-requires
half_at-at-requires g c =
    let n = c.args.self.now.size in
    let h = head c.args.self.now.image.now n c.args.self.now.passed in
    omega (arith, c.half_at-count.ensures.value)

pub returns-then-not-ends_at : goal.returns-then-not-ends_at
returns-then-not-ends_at g c =
    let b : List ℕ = c.args.self.now.image.now in
    let more : c.loop-i.i < half b 10 = omega (arith, c.half_at-count.ensures.value) in
    go_unfit g.O.KeyOrder.says b c.word_at-own.result (get_or b 8 0) (upper (parse_page b)) (half b 10) c.loop-i.i c.loop-i.end c.loop-i.previous.now more
    c.half_at-at.result c.half_at-at.ensures.value c.ends_at.result c.ends_at.ensures c.if-not-ends_at.true
    ∙ c.loop-i.invariant.1

pub field_at-key-requires : goal.field_at-key-requires
field_at-key-requires g c =
    let b : List ℕ = c.args.self.now.image.now in
    let k = key_of b c.args.self.now.size c.word_at-own.result (get_or b 8 0) c.half_at-at.result c.loop-i.end c.loop-i.invariant.0
    c.ends_at.result c.ends_at.ensures c.if-not-ends_at.false in
    omega (arith, c.args.self.now.size, c.loop-i.invariant.0, k.0)

pub returns-then-not-is_next : goal.returns-then-not-is_next
returns-then-not-is_next g c =
    let b : List ℕ = c.args.self.now.image.now in
    let at : ℕ = c.half_at-at.result in
    let n = c.args.self.now.size in
    let more : c.loop-i.i < half b 10 = omega (arith, c.half_at-count.ensures.value) in
    let k = key_of b n c.word_at-own.result (get_or b 8 0) at c.loop-i.end c.loop-i.invariant.0 c.ends_at.result c.ends_at.ensures c.if-not-ends_at.false in
    go_unmet g.O.KeyOrder.says b c.word_at-own.result (get_or b 8 0) (upper (parse_page b)) (half b 10) c.loop-i.i c.loop-i.end c.loop-i.previous.now more
    at c.half_at-at.ensures.value c.ends_at.result c.ends_at.ensures c.if-not-ends_at.false
    c.field_at-key.result.now (c.field_at-key.ensures ∙ k.1)
    c.is_next.result c.is_next.ensures c.if-not-is_next.true
    ∙ c.loop-i.invariant.1

pub loop-i-preserved : goal.loop-i-preserved
loop-i-preserved g c =
    let b : List ℕ = c.args.self.now.image.now in
    let at : ℕ = c.half_at-at.result in
    let n = c.args.self.now.size in
    let more : c.loop-i.i < half b 10 = omega (arith, c.half_at-count.ensures.value) in
    let k = key_of b n c.word_at-own.result (get_or b 8 0) at c.loop-i.end c.loop-i.invariant.0 c.ends_at.result c.ends_at.ensures c.if-not-ends_at.false in (
      omega (arith, c.loop-i.invariant.0, k.0),
      go_on g.O.KeyOrder.says b c.word_at-own.result (get_or b 8 0) (upper (parse_page b)) (half b 10) c.loop-i.i c.loop-i.end c.loop-i.previous.now more
          at c.half_at-at.ensures.value c.ends_at.result c.ends_at.ensures c.if-not-ends_at.false
          c.field_at-key.result.now (c.field_at-key.ensures ∙ k.1)
          c.is_next.result c.is_next.ensures c.if-not-is_next.false
          ∙ c.loop-i.invariant.1,
    )

pub returns : goal.returns
returns g c =
    let b : List ℕ = c.args.self.now.image.now in
    let done : half b 10 ≤ c.loop-i.i = omega (arith, c.half_at-count.ensures.value) in
    go-end g.O.KeyOrder.says b c.word_at-own.result (get_or b 8 0) (upper (parse_page b)) (half b 10) c.loop-i.i c.loop-i.end c.loop-i.previous.now done
    c.half_at.result c.half_at.ensures.value (lent c.upper.result) c.upper.ensures c.below.result c.below.ensures
    ∙ c.loop-i.invariant.1
