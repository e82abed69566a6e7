use Rattle.std.proofs.Common.{Ordering, sym, ◌∙◌, ap₂}
use Rattle.order.specs.Orders.{by_number}
use Rattle.order.proofs.Numbers.{all_bytes, by_wide}
use Rattle.order.proofs.byte_order.by_eight.Goals as goal

pub returns : goal.returns
returns c =
    let p = c.args.p.now in
    let q = c.args.q.now in
    let alike = c.told-p ∙ sym c.told-q in
    let told = c.cmp.ensures in
    let bytes = by_wide p q alike (all_bytes p c.fits-p) (all_bytes q c.fits-q) in
    record { is = told ∙ ap₂ {C = Ordering} by_number c.number.ensures c.number-2.ensures ∙ sym bytes; alike = alike }
