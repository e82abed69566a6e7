use Rattle.promise.proofs.Promised.{get_answers_the_last_standing_put}
use Rattle.promise.proofs.get_answers_the_last_standing_put.Goals as goal

pub returns : goal.returns
returns c = get_answers_the_last_standing_put
