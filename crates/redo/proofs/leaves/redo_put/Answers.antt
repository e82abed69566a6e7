use Rattle.std.proofs.Common.{rules}
use Rattle.redo.proofs.Fitting.{fitting}
use Rattle.redo.proofs.leaves.redo_put.Goals as goal

pub returns : goal.returns
returns g c = search (rules, fitting)
