use Rattle.std.proofs.Common.{◌≡◌, ℕ, ◌≤◌, get_or}
use Rattle.wal.specs.Journal.{lost}
use Rattle.wal.specs.Slots.{memory_slots}
use Rattle.wal.proofs.slot_log.last_passing.Given as goal

-- nothing behind this position passes
abbrev pub invariant-loop-position : goal.invariant-loop-position
invariant-loop-position l = (i : ℕ) → l.position ≤ i → get_or (memory_slots l.memory) i lost ≡ lost
