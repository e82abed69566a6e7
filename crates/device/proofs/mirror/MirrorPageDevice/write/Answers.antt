use Rattle.std.proofs.Common.{sym, ◌∙◌, arith}
use Rattle.device.proofs.Mirrors.{second-failed, first_wrote, order_both}
use Rattle.device.proofs.mirror.MirrorPageDevice.write.Goals as goal

pub returns : goal.returns
returns g c =
    let a = g.F.PageDevice.disk c.args.self.now.first in
    let b = g.S.PageDevice.disk c.args.self.now.second in
    let on = sym c.if-not-both_on.false ∙ c.powered-both_on.ensures in
    record {
      wrote = first_wrote a b _ _ _ _ _ on (omega (arith, c.count.ensures)) c.in_ok-write.ensures c.write-2.ensures;
      order = order_both a b _ _ _ _ _ on (omega (arith, c.count.ensures)) c.in_ok-write.ensures c.write-2.ensures;
    }

pub returns-in_err-write-clause-wrote : goal.returns-in_err-write-clause-wrote
returns-in_err-write-clause-wrote g c =
    let a = g.F.PageDevice.disk c.args.self.now.first in
    let b = g.S.PageDevice.disk c.args.self.now.second in
    let on = sym c.if-not-both_on.false ∙ c.powered-both_on.ensures in
    second-failed a b _ _ _ _ c.from_residual.ensures.0 on (omega (arith, c.count.ensures)) c.in_err-write.ensures
