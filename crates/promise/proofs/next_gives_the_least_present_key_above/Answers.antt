use Rattle.promise.proofs.Promised.{next_gives_the_least_present_key_above}
use Rattle.promise.proofs.next_gives_the_least_present_key_above.Goals as goal

pub returns : goal.returns
returns c = next_gives_the_least_present_key_above
