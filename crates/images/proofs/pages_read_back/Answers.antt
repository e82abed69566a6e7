use Rattle.images.proofs.Stored.{pages_read_back}
use Rattle.images.proofs.pages_read_back.Goals as goal

pub returns : goal.returns
returns c = pages_read_back
