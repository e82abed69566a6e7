use Rattle.tree.proofs.Chain.{chains_rebuild}
use Rattle.tree.proofs.chains_rebuild.Goals as goal

pub returns : goal.returns
returns c = λ cmp least suits recs link read less p some. chains_rebuild cmp least suits recs link read less p some
