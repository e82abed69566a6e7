use Rattle.std.proofs.Common.{◌≡◌, ℕ, false, List, subst, arith}
use Rattle.page.specs.Image.{parse_page}
use Rattle.page_edit.proofs.Keeping.{bytes-short, keys_ascend}
use Rattle.edits.specs.Suits.{divides}
use Rattle.redo.specs.Slots.{DividesAt}
use Rattle.redo.proofs.Parting.{divides_at, first-not, absent_not}
use Rattle.redo.proofs.halves.dividing_slot.Goals as goal

pub find-requires : goal.find-requires
find-requires g c = record { short = bytes-short c.args.key.now _ c.bytes.ensures }

pub returns-in-Ok : goal.returns-in-Ok
returns-in-Ok g c =
    let p = parse_page c.args.image.view.image.now in
    let s = bytes-short c.args.key.now _ c.bytes.ensures in
    let rising = keys_ascend g.met.O.KeyOrder.lawful.chain c.args.image.view.image.now c.args.image.view.laid c.args.image.ordered in
    subst (λ (k : List ℕ). DividesAt g.O.KeyOrder.says k p c.in-Ok.slot) c.bytes.ensures
    (divides_at g.met.O.KeyOrder.lawful.itself g.met.O.KeyOrder.lawful.turned c.bytes.result.now s p rising c.in-Ok.slot c.in-Ok.ensures c.if-slot-gt0.true)

pub returns-in_default : goal.returns-in_default
returns-in_default g c =
    let p = parse_page c.args.image.view.image.now in
    let s = bytes-short c.args.key.now _ c.bytes.ensures in
    let rising = keys_ascend g.met.O.KeyOrder.lawful.chain c.args.image.view.image.now c.args.image.view.laid c.args.image.ordered in
    subst (λ (k : List ℕ). divides g.O.KeyOrder.says k p.entries ≡ false) c.bytes.ensures
    (first-not g.met.O.KeyOrder.lawful.itself g.met.O.KeyOrder.lawful.turned c.bytes.result.now s p rising c.in-Ok.slot c.in-Ok.ensures (omega arith))

pub returns-in_default-2 : goal.returns-in_default-2
returns-in_default-2 g c =
    let p = parse_page c.args.image.view.image.now in
    let s = bytes-short c.args.key.now _ c.bytes.ensures in
    let rising = keys_ascend g.met.O.KeyOrder.lawful.chain c.args.image.view.image.now c.args.image.view.laid c.args.image.ordered in
    subst (λ (k : List ℕ). divides g.O.KeyOrder.says k p.entries ≡ false) c.bytes.ensures
    (absent_not g.met.O.KeyOrder.lawful.itself g.met.O.KeyOrder.lawful.turned c.bytes.result.now s p rising _ c.in_default.ensures)
