use Rattle.page_log.proofs.Pages.{length-told}
use Rattle.page_log.proofs.page_log.PageLogLog.len.Goals as goal

pub returns-clause-value : goal.returns-clause-value
returns-clause-value g c =
    let log = c.args.self.now in
    length-told (g.D.PageDevice.disk log.device) log.used log.last c.if-not-powered.ensures log.ends
