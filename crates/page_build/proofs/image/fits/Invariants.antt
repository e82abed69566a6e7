use Rattle.std.proofs.Common.{◌≡◌, ◌+◌, ◌≤◌, drop}
use Rattle.page.specs.Content.{costs}
use Rattle.page_build.proofs.image.fits.Given as goal

abbrev pub invariant-loop-i : goal.invariant-loop-i
invariant-loop-i g l =
    (l.spent ≤ 436) × (l.spent + costs (drop l.i (g.R.EntryRow.entries l.row)) ≡ costs (g.R.EntryRow.entries l.row))
