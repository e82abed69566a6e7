use Rattle.std.proofs.Common.{arith}
use Rattle.wal.proofs.Memories.{memory-full, memory-added, memory-ends}
use Rattle.wal.proofs.slot_log.SlotLogLog.append.Goals as goal

pub returns-then-self-capacity-clause-appended : goal.returns-then-self-capacity-clause-appended
returns-then-self-capacity-clause-appended c =
    memory-full c.args.self.now.memory.now c.args.bytes.now c.args.self.now.used (omega (arith, c.capacity.ensures.value))

pub invariant_of-self : goal.invariant_of-self
invariant_of-self c =
    record { ends = memory-ends c.args.self.now.memory.now _ c.args.bytes.now c.args.self.now.used (omega (arith, c.capacity.ensures.value)) c.put.ensures.room c.put.ensures.slots c.args.self.now.ends }

pub returns-clause-appended : goal.returns-clause-appended
returns-clause-appended c =
    memory-added c.args.self.now.memory.now _ c.args.bytes.now c.args.self.now.used (omega (arith, c.capacity.ensures.value)) c.put.ensures.room c.put.ensures.slots
