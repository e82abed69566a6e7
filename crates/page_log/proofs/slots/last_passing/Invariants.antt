use Rattle.std.proofs.Common.{◌≡◌, ℕ, ◌≤◌, get_or}
use Rattle.wal.specs.Journal.{lost}
use Rattle.page_log.specs.Pages.{page_slots}
use Rattle.page_log.proofs.slots.last_passing.Given as goal

-- the device is as it was, and nothing behind this position passes
abbrev pub invariant-loop-position : goal.invariant-loop-position
invariant-loop-position g l =
    record {
      same : g.D.PageDevice.disk l.device ≡ g.D.PageDevice.disk l.initial.device;
      beyond : (i : ℕ) → l.position ≤ i → get_or (page_slots (g.D.PageDevice.disk l.initial.device)) i lost ≡ lost;
    }
