use Rattle.edits.proofs.Contents.{put_is_the_trees}
use Rattle.edits.proofs.put_is_the_trees.Goals as goal

pub returns : goal.returns
returns c = put_is_the_trees
