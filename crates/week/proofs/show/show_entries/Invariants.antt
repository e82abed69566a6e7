use Rattle.std.proofs.Common.{◌≡◌}
use Rattle.week.proofs.show.show_entries.Given as goal

abbrev pub invariant-loop-entry : goal.invariant-loop-entry
invariant-loop-entry g l = l.entry-iterator.page ≡ l.fn.page
