use Rattle.std.proofs.Common.{rules}
use Rattle.page.specs.Walk.{is_header}
use Rattle.page.proofs.header.is_header.Goals as goal

pub returns : goal.returns
unfolding is_header
returns c = search rules
