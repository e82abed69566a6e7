use Rattle.std.proofs.Common.{sym, ◌∙◌, arith}
use Rattle.page.specs.Image.{parse_page}
use Rattle.page_edit.proofs.Keeping.{bytes-short, few, keys_ascend}
use Rattle.page_edit.proofs.Placing.{keys_length, parts-ok, parts_err}
use Rattle.page_edit.proofs.place.room_for.Goals as goal

pub find-requires : goal.find-requires
find-requires g c = record { short = bytes-short c.args.key.now _ c.bytes.ensures }

pub overflow_add-result : goal.overflow_add-result
overflow_add-result g c =
    let f = few c.args.page.view.image.now c.args.page.view.laid in
    let l = keys_length (parse_page c.args.page.view.image.now).entries in
    omega (arith, c.in-Ok.ensures.0)

pub returns-in-Ok : goal.returns-in-Ok
returns-in-Ok g c e k =
    let b = c.args.page.view.image.now in
    let s = bytes-short c.args.key.now _ c.bytes.ensures in
    parts-ok g.met.O.KeyOrder.lawful.itself g.met.O.KeyOrder.lawful.turned c.bytes.result.now s (parse_page b).entries
    (keys_ascend g.met.O.KeyOrder.lawful.chain b c.args.page.view.laid c.args.page.ordered) c.in-Ok.i c.in-Ok.ensures e (k ∙ sym c.bytes.ensures)

pub returns-in-Err : goal.returns-in-Err
returns-in-Err g c e k =
    let b = c.args.page.view.image.now in
    let s = bytes-short c.args.key.now _ c.bytes.ensures in
    parts_err g.met.O.KeyOrder.lawful.itself g.met.O.KeyOrder.lawful.turned c.bytes.result.now s (parse_page b).entries
    (keys_ascend g.met.O.KeyOrder.lawful.chain b c.args.page.view.laid c.args.page.ordered) c.in-Err.i c.in-Err.ensures e (k ∙ sym c.bytes.ensures)
