use Rattle.std.proofs.Common.{◌≡◌}
use Rattle.page_vectors.proofs.are_entries_told.Given as goal

abbrev pub invariant-loop-entry : goal.invariant-loop-entry
invariant-loop-entry l = l.entry-iterator.page ≡ l.page
