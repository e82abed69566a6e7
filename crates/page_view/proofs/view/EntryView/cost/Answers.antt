use Rattle.std.proofs.Common.{length, ap, arith}
use Rattle.page.proofs.Entries.{cost-is}
use Rattle.page_view.specs.Lent.{entry_lent}
use Rattle.page_view.proofs.view.EntryView.cost.Goals as goal

pub returns : goal.returns
returns c =
    let e = cost-is (entry_lent c.args.self.now) in
    let l = ap length c.bytes.ensures in
    omega arith
