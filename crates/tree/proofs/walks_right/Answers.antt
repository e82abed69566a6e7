use Rattle.tree.proofs.Walk.{way-walked}
use Rattle.tree.proofs.walks_right.Goals as goal

pub returns : goal.returns
returns c = λ rank top least ranked s sound fetch honest k. way-walked rank top least ranked s sound fetch honest k
