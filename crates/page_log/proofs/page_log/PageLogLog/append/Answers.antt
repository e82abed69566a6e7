use Rattle.std.proofs.Common.{arith}
use Rattle.page_log.proofs.Pages.{append-full, append-done, ends-done, append-cut, ends-cut}
use Rattle.page_log.proofs.page_log.PageLogLog.append.Goals as goal

pub returns-then-self-capacity-clause-appended : goal.returns-then-self-capacity-clause-appended
returns-then-self-capacity-clause-appended g c =
    let log = c.args.self.now in
    append-full (g.D.PageDevice.disk log.device) log.used log.last c.args.bytes.now c.if-not-powered.ensures (omega (arith, c.capacity.ensures.value))

pub returns-clause-appended : goal.returns-clause-appended
returns-clause-appended g c =
    let log = c.args.self.now in
    let d = g.D.PageDevice.disk log.device in
    append-done d _ log.used log.last c.args.bytes.now _ _ c.if-not-powered.ensures (omega (arith, c.capacity.ensures.value)) c.told-bytes c.fits-bytes c.stamp-self.ensures c.page_of.ensures c.in_ok-write.ensures

pub invariant_of-self-2 : goal.invariant_of-self-2
invariant_of-self-2 g c =
    let log = c.args.self.now in
    let d = g.D.PageDevice.disk log.device in
    record { ends = ends-done d _ log.used log.last c.args.bytes.now _ _ c.if-not-powered.ensures (omega (arith, c.capacity.ensures.value)) c.told-bytes c.fits-bytes c.stamp-self.ensures c.page_of.ensures c.in_ok-write.ensures log.ends }

pub returns-in_err-write-clause-appended : goal.returns-in_err-write-clause-appended
returns-in_err-write-clause-appended g c =
    let log = c.args.self.now in
    let d = g.D.PageDevice.disk log.device in
    append-cut d _ log.used log.last c.args.bytes.now _ _ c.if-not-powered.ensures (omega (arith, c.capacity.ensures.value)) c.told-bytes c.fits-bytes c.stamp-self.ensures c.page_of.ensures c.in_err-write.ensures c.from_residual.result c.from_residual.ensures.1

pub invariant_of-self-in-Break-1 : goal.invariant_of-self-in-Break-1
invariant_of-self-in-Break-1 g c =
    let log = c.args.self.now in
    let d = g.D.PageDevice.disk log.device in
    record { ends = ends-cut d _ log.used log.last c.args.bytes.now _ _ c.if-not-powered.ensures (omega (arith, c.capacity.ensures.value)) c.told-bytes c.fits-bytes c.stamp-self.ensures c.page_of.ensures c.in_err-write.ensures log.ends }
