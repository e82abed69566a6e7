use Rattle.std.proofs.Common.{arith}
use Rattle.wal.proofs.Memories.{read-inside, used-fits}
use Rattle.wal.proofs.slot_log.SlotLog.look.Goals as goal

pub slot-requires-clause-within : goal.slot-requires-clause-within
slot-requires-clause-within c = omega (arith, used-fits c.args.self.now.memory.now c.args.self.now.used c.args.self.now.ends)

pub returns : goal.returns
returns c =
    read-inside c.args.self.now.memory.now _ c.args.self.now.used c.args.position _ c.if-position-eq0.false (omega arith) (omega (arith, used-fits c.args.self.now.memory.now c.args.self.now.used c.args.self.now.ends))
    c.slot.ensures.value c.record_in.ensures
