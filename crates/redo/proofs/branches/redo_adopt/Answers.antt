use Rattle.std.proofs.Common.{rules}
use Rattle.redo.proofs.Fitting.{fitting}
use Rattle.redo.proofs.branches.redo_adopt.Goals as goal

pub returns : goal.returns
returns g c = search (rules, fitting)
