use Rattle.images.proofs.Recorded.{records_have_one_image}
use Rattle.images.proofs.records_have_one_image.Goals as goal

pub returns : goal.returns
returns c = records_have_one_image
