use Rattle.device.proofs.Repairs.{left-intact, replaced_done, replaced_off}
use Rattle.device.proofs.repair.repair_page.Goals as goal

pub returns-then-gives_sealed : goal.returns-then-gives_sealed
returns-then-gives_sealed g c = left-intact _ _ _ _ _ c.if-not-powered.ensures c.read.ensures.value c.if-gives_sealed.ensures c.read.ensures.same

pub returns : goal.returns
returns g c = replaced_done _ _ _ _ _ _ c.if-not-powered.ensures c.read.ensures.value c.if-gives_sealed.ensures c.read.ensures.same c.in_ok-write.ensures

pub returns-in_err-write : goal.returns-in_err-write
returns-in_err-write g c = replaced_off _ _ _ _ _ _ c.if-not-powered.ensures c.read.ensures.value c.if-gives_sealed.ensures c.read.ensures.same c.from_residual.result c.from_residual.ensures.0 c.in_err-write.ensures
