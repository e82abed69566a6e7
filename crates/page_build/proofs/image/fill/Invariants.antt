use Rattle.std.proofs.Common.{◌+◌, ◌*◌, drop}
use Rattle.page_build.proofs.Filling.{Filled}
use Rattle.page_build.proofs.image.fill.Given as goal

abbrev pub invariant-loop-i : goal.invariant-loop-i
invariant-loop-i g l = Filled (g.R.EntryRow.entries l.row) (drop l.i (g.R.EntryRow.entries l.row)) l.out (72 + 2 * l.i) l.at
