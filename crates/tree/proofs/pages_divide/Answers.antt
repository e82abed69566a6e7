use Rattle.tree.proofs.Halves.{divides}
use Rattle.tree.proofs.pages_divide.Goals as goal

pub returns : goal.returns
returns c = λ rank cost m a b es asc cheap h. divides rank cost m a b es asc cheap h
