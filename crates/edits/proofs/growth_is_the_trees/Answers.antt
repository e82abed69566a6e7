use Rattle.edits.proofs.Contents.{growth_is_the_trees}
use Rattle.edits.proofs.growth_is_the_trees.Goals as goal

pub returns : goal.returns
returns c = growth_is_the_trees
