use Rattle.edits.proofs.Contents.{remove_is_the_trees}
use Rattle.edits.proofs.remove_is_the_trees.Goals as goal

pub returns : goal.returns
returns c = remove_is_the_trees
