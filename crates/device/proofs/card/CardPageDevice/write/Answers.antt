use Rattle.std.proofs.Common.{arith}
use Rattle.device.proofs.Cards.{page-written, nothing_written}
use Rattle.device.proofs.card.CardPageDevice.write.Goals as goal

pub returns-then-page-self-clause-wrote : goal.returns-then-page-self-clause-wrote
returns-then-page-self-clause-wrote c =
    rw c.copy_from_slice.ensures.after (page-written c.args.self.now.bytes.now c.args.bytes.now c.args.page _ c.if-page-self.true c.told-bytes (omega arith))

pub returns-else-page-self-clause-wrote : goal.returns-else-page-self-clause-wrote
returns-else-page-self-clause-wrote c =
    nothing_written c.args.self.now.bytes.now c.args.bytes.now c.args.page c.if-page-self.false
