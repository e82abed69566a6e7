use Rattle.edits.proofs.Contents.{dividers_are_the_trees}
use Rattle.edits.proofs.dividers_are_the_trees.Goals as goal

pub returns : goal.returns
returns c = dividers_are_the_trees
