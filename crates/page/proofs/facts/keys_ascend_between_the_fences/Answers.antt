use Rattle.page.proofs.Rises.{keys_ascend, keys_held}
use Rattle.page.proofs.facts.keys_ascend_between_the_fences.Goals as goal

pub returns : goal.returns
returns c = record { ascend = keys_ascend; held = keys_held }
