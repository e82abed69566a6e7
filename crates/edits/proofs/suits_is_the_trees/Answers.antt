use Rattle.edits.proofs.Suited.{suits_is_the_trees}
use Rattle.edits.proofs.suits_is_the_trees.Goals as goal

pub returns : goal.returns
returns c = suits_is_the_trees
