use Rattle.edits.proofs.Contents.{costs_are_the_trees}
use Rattle.edits.proofs.costs_are_the_trees.Goals as goal

pub returns : goal.returns
returns c = costs_are_the_trees
