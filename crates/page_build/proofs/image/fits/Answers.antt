use Rattle.std.proofs.Common.{◌<◌, ◌≤◌, List, length, sym, arith}
use Rattle.std.proofs.lemmas.Bool.{le-leb, lt-leb}
use Rattle.page.specs.Content.{Entry, costs}
use Rattle.page_build.proofs.Filling.{costs-more, costs-none}
use Rattle.page_build.proofs.image.fits.Goals as goal

pub loop-i-preserved : goal.loop-i-preserved
loop-i-preserved g c =
    let es : List Entry = g.R.EntryRow.entries c.args.row.now in
    let h : c.loop-i.i < length es = omega arith in
    let m = costs-more es c.loop-i.i c.entry.result.now h c.entry.ensures in
    let i = c.loop-i.invariant.1 in
    (omega arith, omega arith)

pub returns-then-spent-gt-ROOM : goal.returns-then-spent-gt-ROOM
returns-then-spent-gt-ROOM g c =
    let es : List Entry = g.R.EntryRow.entries c.args.row.now in
    let h : c.loop-i.i < length es = omega arith in
    let m = costs-more es c.loop-i.i c.entry.result.now h c.entry.ensures in
    let i = c.loop-i.invariant.1 in
    sym (lt-leb (costs es) 436 (omega arith))

pub returns : goal.returns
returns g c =
    let es : List Entry = g.R.EntryRow.entries c.args.row.now in
    let h : length es ≤ c.loop-i.i = omega arith in
    let m = costs-none es c.loop-i.i h in
    let i = c.loop-i.invariant in
    sym (le-leb (costs es) 436 (omega arith))
