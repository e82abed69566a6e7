use Rattle.edits.proofs.Contents.{has_is_the_trees}
use Rattle.edits.proofs.has_is_the_trees.Goals as goal

pub returns : goal.returns
returns c = has_is_the_trees
