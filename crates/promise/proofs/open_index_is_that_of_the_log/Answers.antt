use Rattle.promise.proofs.Promised.{open_index_is_that_of_the_log}
use Rattle.promise.proofs.open_index_is_that_of_the_log.Goals as goal

pub returns : goal.returns
returns c = open_index_is_that_of_the_log
