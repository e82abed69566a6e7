use Rattle.std.proofs.Common.{arith}
use Rattle.door_tests.proofs.Cuts.{cut-image, cut-old}
use Rattle.door_tests.proofs.failing.FailingPageDevice.write.Goals as goal

pub returns-in-Some : goal.returns-in-Some
returns-in-Some g c =
    cut-image _ (g.D.PageDevice.disk c.args.self.now.inner) _ _ _ _ _ c.if-not-powered.ensures (omega (arith, c.count.ensures)) c.in-Some.ensures c.write-in-Some.ensures

pub returns-in_default : goal.returns-in_default
returns-in_default g c = cut-old _ (g.D.PageDevice.disk c.args.self.now.inner) _ _ c.if-not-powered.ensures (omega (arith, c.count.ensures))
