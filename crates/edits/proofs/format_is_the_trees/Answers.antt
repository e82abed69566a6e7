use Rattle.edits.proofs.Contents.{format_is_the_trees}
use Rattle.edits.proofs.format_is_the_trees.Goals as goal

pub returns : goal.returns
returns c = format_is_the_trees
