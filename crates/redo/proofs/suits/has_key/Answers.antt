use Rattle.std.proofs.Common.{◌≡◌, ℕ, ◌≤◌, List, length, Ok, Err, Result, sym, ap, ◌∙◌}
use Rattle.std.specs.Result.{is_ok}
use Rattle.order.specs.Lawful.{Says, Itself, Turned}
use Rattle.order.specs.Slots.{Ascending, Found}
use Rattle.page.specs.Content.{Entry, keys_in}
use Rattle.page.specs.Image.{parse_page}
use Rattle.page_edit.specs.Edits.{has}
use Rattle.page_edit.proofs.Keeping.{bytes-short, keys_ascend}
use Rattle.page_edit.proofs.Placing.{has-ok, has_err}
use Rattle.redo.proofs.suits.has_key.Goals as goal

pub find-requires : goal.find-requires
find-requires g c = record { short = bytes-short c.args.key.now _ c.bytes.ensures }

found-has : {says : Says} → Itself says → Turned says → (key : List ℕ) → length key ≤ 16 → (es : List Entry) → Ascending says (keys_in es)
    → (r : Result ℕ ℕ) → Found says (keys_in es) key r → is_ok r ≡ has says key es
found-has itself turned key short es rising (Ok i) f = sym (has-ok itself turned key short es rising i f)
found-has itself turned key short es rising (Err i) f = sym (has_err itself turned key short es rising i f)

pub returns : goal.returns
returns g c =
    let v = c.args.image.view in
    let p = parse_page v.image.now in
    let s = bytes-short c.args.key.now _ c.bytes.ensures in
    c.is_ok.ensures.value
    ∙ found-has g.met.O.KeyOrder.lawful.itself g.met.O.KeyOrder.lawful.turned c.bytes.result.now s p.entries
    (keys_ascend g.met.O.KeyOrder.lawful.chain v.image.now v.laid c.args.image.ordered) c.find.result c.find.ensures
    ∙ ap (λ (k : List ℕ). has g.O.KeyOrder.says k p.entries) c.bytes.ensures
