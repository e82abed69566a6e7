use Rattle.edits.proofs.Contents.{halves_are_the_trees}
use Rattle.edits.proofs.halves_are_the_trees.Goals as goal

pub returns : goal.returns
returns c = halves_are_the_trees
