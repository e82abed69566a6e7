use Rattle.std.proofs.Common.{ℕ, ◌+◌, Bool, List, [], Some, sym, ap, ◌∙◌, arith}
use Rattle.page.specs.Content.{Entry, Content}
use Rattle.page.specs.Image.{encode_page, parse_page}
use Rattle.page_build.specs.Spliced.{spliced}
use Rattle.page_edit.specs.Edits.{image_if, after_remove, with_entries, has}
use Rattle.page_edit.proofs.Keeping.{bytes-short, few, headed, keys_ascend}
use Rattle.page_edit.proofs.Placing.{keys_length, without-ok, has-ok, has_err}
use Rattle.page_edit.proofs.place.remove.Goals as goal

pub find-requires : goal.find-requires
find-requires g c = record { short = bytes-short c.args.key.now _ c.bytes.ensures }

pub overflow_add-slot : goal.overflow_add-slot
overflow_add-slot g c =
    let f = few c.args.page.view.image.now c.args.page.view.laid in
    let l = keys_length (parse_page c.args.page.view.image.now).entries in
    omega (arith, c.in-Ok.ensures.0)

pub returns : goal.returns
returns g c =
    let b = c.args.page.view.image.now in
    let p : Content = parse_page b in
    let key : List ℕ = c.bytes.result.now in
    let s = bytes-short c.args.key.now _ c.bytes.ensures in
    let rising = keys_ascend g.met.O.KeyOrder.lawful.chain b c.args.page.view.laid c.args.page.ordered in
    let w = without-ok g.met.O.KeyOrder.lawful.itself g.met.O.KeyOrder.lawful.turned key s p.entries rising c.in-Ok.slot c.in-Ok.ensures in
    let t = has-ok g.met.O.KeyOrder.lawful.itself g.met.O.KeyOrder.lawful.turned key s p.entries rising c.in-Ok.slot c.in-Ok.ensures in
    ap (λ (q : List ℕ). Some q)
    (c.kept.ensures
    ∙ ap encode_page (headed c.of-h.result c.args.lsn p (spliced p.entries c.in-Ok.slot [] (c.in-Ok.slot + 1)) c.of-h.ensures)
    ∙ ap (λ (x : List Entry). encode_page (with_entries c.args.lsn x p)) (sym w))
    ∙ ap (λ (t : Bool). image_if t (after_remove g.O.KeyOrder.says c.args.lsn key p)) (sym t)
    ∙ ap (λ (k : List ℕ). image_if (has g.O.KeyOrder.says k p.entries) (after_remove g.O.KeyOrder.says c.args.lsn k p)) c.bytes.ensures

pub returns-in_default : goal.returns-in_default
returns-in_default g c =
    let b = c.args.page.view.image.now in
    let p : Content = parse_page b in
    let key : List ℕ = c.bytes.result.now in
    let s = bytes-short c.args.key.now _ c.bytes.ensures in
    let rising = keys_ascend g.met.O.KeyOrder.lawful.chain b c.args.page.view.laid c.args.page.ordered in
    let t = has_err g.met.O.KeyOrder.lawful.itself g.met.O.KeyOrder.lawful.turned key s p.entries rising _ c.in_default.ensures in
    ap (λ (t : Bool). image_if t (after_remove g.O.KeyOrder.says c.args.lsn key p)) (sym t)
    ∙ ap (λ (k : List ℕ). image_if (has g.O.KeyOrder.says k p.entries) (after_remove g.O.KeyOrder.says c.args.lsn k p)) c.bytes.ensures
