use Rattle.std.proofs.Common.{◌≡◌, ℕ, ◌+◌, ◌<◌, length, sym, ap, ◌∙◌, arith}
use Rattle.page.specs.Content.{value_in, entry_at}
use Rattle.page.specs.Image.{parse_page}
use Rattle.page_view.specs.Places.{place_of, behind_key}
use Rattle.page_view.proofs.Stands.{key-room, leaf-ends, branch-ends, ends_at}
use Rattle.page_view.proofs.view.EntryView.end_of.Goals as goal

pub overflow_add-result : goal.overflow_add-result
unfolding behind_key
overflow_add-result c =
    let v = c.args.self.now.page in
    let r = key-room v.image.now v.bytes v.laid c.args.self.now.slot c.args.self.now.within in
    omega (arith, v.size, c.behind_key-second.ensures)

pub overflow_add-result-then-level-eq0 : goal.overflow_add-result-then-level-eq0
overflow_add-result-then-level-eq0 c =
    let v = c.args.self.now.page in
    let f = (leaf-ends v.image.now v.bytes v.laid c.args.self.now.slot c.args.self.now.within (sym c.level.ensures ∙ c.if-level-eq0.true)).within in
    let l = ap length c.value.ensures in
    omega (arith, v.size, c.behind_key-second.ensures)

-- a level that is not 0 is above it
above : (n m : ℕ) → n ≡ m → (n ≡ 0 → ⊥) → 0 < m
above n m e h = grind arith

pub overflow_add-result-else-level-eq0 : goal.overflow_add-result-else-level-eq0
overflow_add-result-else-level-eq0 c =
    let v = c.args.self.now.page in
    let z = above c.level.result (parse_page v.image.now).level c.level.ensures c.if-level-eq0.false in
    let f = (branch-ends v.image.now v.bytes v.laid c.args.self.now.slot c.args.self.now.within z).within in
    omega (arith, v.size, c.behind_key-second.ensures)

pub returns-then-level-eq0 : goal.returns-then-level-eq0
returns-then-level-eq0 c =
    let v = c.args.self.now.page in
    let b = v.image.now in
    let f = leaf-ends b v.bytes v.laid c.args.self.now.slot c.args.self.now.within (sym c.level.ensures ∙ c.if-level-eq0.true) in
    let l = ap length c.value.ensures in
    let x : c.behind_key-second.result + 1 + length c.value.result.now ≡ behind_key b c.args.self.now.slot + 1 + length (value_in (entry_at (parse_page b) c.args.self.now.slot)) =
    omega (arith, c.behind_key-second.ensures) in
    let w = ends_at b (place_of b c.args.self.now.slot) (behind_key b c.args.self.now.slot + 1 + length (value_in (entry_at (parse_page b) c.args.self.now.slot)))
    (c.behind_key-second.result + 1 + length c.value.result.now) (entry_at (parse_page b) c.args.self.now.slot) v.size x f in
    record { within = w.0; ordered = w.1; bytes = w.2 }

pub returns-else-level-eq0 : goal.returns-else-level-eq0
returns-else-level-eq0 c =
    let v = c.args.self.now.page in
    let b = v.image.now in
    let z = above c.level.result (parse_page b).level c.level.ensures c.if-level-eq0.false in
    let f = branch-ends b v.bytes v.laid c.args.self.now.slot c.args.self.now.within z in
    let x : c.behind_key-second.result + 4 ≡ behind_key b c.args.self.now.slot + 4 = omega (arith, c.behind_key-second.ensures) in
    let w = ends_at b (place_of b c.args.self.now.slot) (behind_key b c.args.self.now.slot + 4) (c.behind_key-second.result + 4) (entry_at (parse_page b) c.args.self.now.slot) v.size x f in
    record { within = w.0; ordered = w.1; bytes = w.2 }
