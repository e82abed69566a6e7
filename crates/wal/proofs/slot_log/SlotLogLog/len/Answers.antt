use Rattle.std.proofs.Common.{Ok, sym, ap}
use Rattle.wal.proofs.Memories.{memory-used}
use Rattle.wal.proofs.slot_log.SlotLogLog.len.Goals as goal

pub returns-clause-value : goal.returns-clause-value
returns-clause-value c = ap Ok (sym (memory-used c.args.self.now.memory.now c.args.self.now.used c.args.self.now.ends))
