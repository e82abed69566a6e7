use Rattle.tree.proofs.Way.{key-found}
use Rattle.tree.proofs.ways_end.Goals as goal

pub returns : goal.returns
returns c = λ rank top least ranked s sound k. key-found rank top least ranked s sound k
