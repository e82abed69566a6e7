use Rattle.std.proofs.Common.{arith, refl}
use Rattle.page_view.proofs.Stands.{few}
use Rattle.page_view.proofs.view.EntryView.slot.Goals as goal

pub returns : goal.returns
returns c =
    let v = c.args.self.now in
    let h = few v.page.image.now v.page.bytes v.page.laid v.slot v.within in
    record { value = refl; few = omega (arith, h) }
