use Rattle.std.proofs.Common.{rules}
use Rattle.page.specs.Walk.{are_fields}
use Rattle.page.proofs.header.are_fields.Goals as goal

pub returns : goal.returns
unfolding are_fields
returns c = search rules
