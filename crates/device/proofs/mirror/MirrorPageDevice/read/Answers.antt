use Rattle.std.proofs.Common.{arith}
use Rattle.device.proofs.Mirrors.{read_first, read-second}
use Rattle.device.proofs.mirror.MirrorPageDevice.read.Goals as goal

pub returns-then-gives_sealed-clause-value : goal.returns-then-gives_sealed-clause-value
returns-then-gives_sealed-clause-value g c =
    let a = g.F.PageDevice.disk c.args.self.now.first in
    let b = g.S.PageDevice.disk c.args.self.now.second in
    read_first a b c.args.page _ c.if-not-powered.ensures (omega (arith, c.count.ensures)) c.read-first.ensures.value c.if-gives_sealed.ensures

pub returns-clause-value : goal.returns-clause-value
returns-clause-value g c =
    let a = g.F.PageDevice.disk c.args.self.now.first in
    let b = g.S.PageDevice.disk c.args.self.now.second in
    read-second a b c.args.page _ _ c.if-not-powered.ensures (omega (arith, c.count.ensures)) c.read-first.ensures.value c.if-gives_sealed.ensures c.read.ensures.value
