use Rattle.images.proofs.Recorded.{records_keep_their_stamp}
use Rattle.images.proofs.records_keep_their_stamp.Goals as goal

pub returns : goal.returns
returns c = records_keep_their_stamp
