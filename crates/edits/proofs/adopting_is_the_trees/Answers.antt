use Rattle.edits.proofs.Contents.{adopting_is_the_trees}
use Rattle.edits.proofs.adopting_is_the_trees.Goals as goal

pub returns : goal.returns
returns c = adopting_is_the_trees
