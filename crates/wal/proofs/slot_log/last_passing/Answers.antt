use Rattle.std.proofs.Common.{arith}
use Rattle.std.proofs.lemmas.List.{get_or_past}
use Rattle.wal.specs.Journal.{lost}
use Rattle.wal.specs.Slots.{memory_slots}
use Rattle.wal.proofs.Memories.{length-memory, slot_fails, slot-passes}
use Rattle.wal.proofs.Rows.{beyond-down, last-at}
use Rattle.wal.proofs.slot_log.last_passing.Goals as goal

pub loop-position-init : goal.loop-position-init
loop-position-init c =
    let bs = c.args.memory.now in
    λ i h. get_or_past (memory_slots bs) i lost (omega (arith, length-memory bs, c.room_in-position.ensures))

pub loop-position-preserved : goal.loop-position-preserved
loop-position-preserved c =
    let bs = c.args.memory.now in
    let n = c.loop-position.position in
    let gone = slot_fails bs _ n (omega arith) (omega (arith, c.room_in-position.ensures)) c.slot.ensures.value c.if-passes.ensures in
    beyond-down (memory_slots bs) n (omega arith) gone c.loop-position.invariant

pub returns-then-passes : goal.returns-then-passes
returns-then-passes c =
    let bs = c.args.memory.now in
    let n = c.loop-position.position in
    last-at (memory_slots bs) n (slot-passes bs _ n (omega arith) (omega (arith, c.room_in-position.ensures)) c.slot.ensures.value c.if-passes.ensures) c.loop-position.invariant
