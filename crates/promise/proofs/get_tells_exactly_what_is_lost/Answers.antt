use Rattle.promise.proofs.Promised.{get_tells_exactly_what_is_lost}
use Rattle.promise.proofs.get_tells_exactly_what_is_lost.Goals as goal

pub returns : goal.returns
returns c = get_tells_exactly_what_is_lost
