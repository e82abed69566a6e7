use Rattle.std.proofs.Common.{rules}
use Rattle.page.specs.Walk.{are_fillers}
use Rattle.page.proofs.header.are_fillers.Goals as goal

pub returns : goal.returns
unfolding are_fillers
returns c = search rules
