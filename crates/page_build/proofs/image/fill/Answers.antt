use Rattle.std.proofs.Common.{◌≡◌, ℕ, ◌+◌, ◌*◌, ◌<◌, ◌≤◌, List, [], ◌∷◌, ◌++◌, length, get_or, take, drop, sym, subst, arith}
use Rattle.field.specs.Fields.{le2}
use Rattle.page.specs.Content.{Entry}
use Rattle.page.specs.Content.Entry.{leaf}
use Rattle.page.specs.Image.{places, last_or}
use Rattle.page_build.proofs.Filling.{Filled, filled_more, filled-all, fits, left-more, left-none}
use Rattle.page_build.proofs.image.fill.Goals as goal

-- the invariant at a turn, with the entry that the turn writes in front
turn : (all : List Entry) (i : ℕ) (out : List ℕ) (slot at : ℕ) → i < length all → Filled all (drop i all) out slot at
    → Filled all (get_or all i (leaf [] []) ∷ drop (i + 1) all) out slot at
turn all i out slot at h f = subst (λ (l : List Entry). Filled all l out slot at) (left-more all i h) f

pub put_before-at-requires : goal.put_before-at-requires
put_before-at-requires g c =
    let all : List Entry = g.R.EntryRow.entries c.args.row.now in
    let h : c.loop-i.i < length all = omega arith in
    let f = turn all c.loop-i.i c.loop-i.out (72 + 2 * c.loop-i.i) c.loop-i.at h c.loop-i.invariant in
    let w = fits all (drop (c.loop-i.i + 1) all) (get_or all c.loop-i.i (leaf [] [])) c.loop-i.out (72 + 2 * c.loop-i.i) c.loop-i.at f in
    record { room = subst (λ (x : List ℕ). length x ≤ c.loop-i.at) (sym c.entry.ensures) w.0; within = w.1 }

pub loop-i-preserved : goal.loop-i-preserved
unfolding le2
loop-i-preserved g c =
    let all : List Entry = g.R.EntryRow.entries c.args.row.now in
    let h : c.loop-i.i < length all = omega arith in
    let f = turn all c.loop-i.i c.loop-i.out (72 + 2 * c.loop-i.i) c.loop-i.at h c.loop-i.invariant in
    let e : Entry = get_or all c.loop-i.i (leaf [] []) in
    let p = c.put_before-at.ensures in
    let is = c.entry.ensures in
    let place = subst (λ (x : List ℕ). c.put_before-at.result + length x ≡ c.loop-i.at) is p.place in
    let below = subst (λ (x : List ℕ). drop c.put_before-at.result c.put_before-at.new.out ≡ x ++ drop c.loop-i.at c.loop-i.out) is p.written in
    let b = c.to_le_bytes.ensures in
    let w = subst (λ (x : List ℕ). take ((72 + 2 * c.loop-i.i) + length x) c.put.new.out ≡ take (72 + 2 * c.loop-i.i) c.put_before-at.new.out ++ x) b c.put.ensures.written in
    let r = subst (λ (x : List ℕ). drop ((72 + 2 * c.loop-i.i) + length x) c.put.new.out ≡ drop ((72 + 2 * c.loop-i.i) + length x) c.put_before-at.new.out) b c.put.ensures.rest in
    let n : length c.put.new.out ≡ 512 = omega (arith, f.size, c.put.auto.out, c.put_before-at.auto.out) in
    let next : 72 + 2 * c.loop-i.i + 2 ≡ 72 + 2 * (c.loop-i.i + 1) = omega arith in
    subst (λ (slot : ℕ). Filled all (drop (c.loop-i.i + 1) all) c.put.new.out slot c.put_before-at.result) next
    (filled_more all e (drop (c.loop-i.i + 1) all) c.loop-i.out c.put_before-at.new.out c.put.new.out (72 + 2 * c.loop-i.i)
    c.loop-i.at c.put_before-at.result f place below p.before w r n)

pub returns : goal.returns
unfolding last_or places
returns g c =
    let all : List Entry = g.R.EntryRow.entries c.args.row.now in
    let i : c.loop-i.i ≡ length all = omega arith in
    let f : Filled all [] c.loop-i.out (72 + 2 * c.loop-i.i) c.loop-i.at =
    subst (λ (l : List Entry). Filled all l c.loop-i.out (72 + 2 * c.loop-i.i) c.loop-i.at) (left-none all c.loop-i.i (omega arith)) c.loop-i.invariant in
    let s : 72 + 2 * c.loop-i.i ≡ 72 + 2 * length all = omega arith in
    record { start = f.begins; after = filled-all all c.loop-i.out (72 + 2 * c.loop-i.i) c.loop-i.at s f }
