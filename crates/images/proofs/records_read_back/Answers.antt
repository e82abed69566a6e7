use Rattle.images.proofs.Recorded.{records_read_back}
use Rattle.images.proofs.records_read_back.Goals as goal

pub returns : goal.returns
returns c = records_read_back
