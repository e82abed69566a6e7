use Rattle.promise.proofs.Promised.{open_refuses_exactly_a_log_with_a_gap}
use Rattle.promise.proofs.open_refuses_exactly_a_log_with_a_gap.Goals as goal

pub returns : goal.returns
returns c = open_refuses_exactly_a_log_with_a_gap
