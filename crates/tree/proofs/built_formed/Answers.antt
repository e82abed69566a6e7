use Rattle.tree.proofs.Form.{built_formed}
use Rattle.tree.proofs.built_formed.Goals as goal

pub returns : goal.returns
returns c = λ rank top least ranked pair_cost kid_cost read f p n x e. built_formed rank top least ranked pair_cost kid_cost read f p n x e
