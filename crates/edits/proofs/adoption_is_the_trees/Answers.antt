use Rattle.edits.proofs.Contents.{adoption_is_the_trees}
use Rattle.edits.proofs.adoption_is_the_trees.Goals as goal

pub returns : goal.returns
returns c = adoption_is_the_trees
