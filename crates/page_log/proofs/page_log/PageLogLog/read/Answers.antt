use Rattle.std.proofs.Common.{◌∙◌, arith}
use Rattle.page_log.proofs.Pages.{read-inside, used-fits}
use Rattle.page_log.proofs.page_log.PageLogLog.read.Goals as goal

pub returns-clause-value : goal.returns-clause-value
returns-clause-value g c =
    let log = c.args.self.now in
    let d = g.D.PageDevice.disk log.device in
    let on = c.if-not-powered.ensures in
    c.record_at.ensures.value ∙ read-inside d log.used c.args.position log.last on c.if-position-eq0.false (omega arith) (omega (arith, used-fits d log.used log.last on log.ends))
