use Rattle.images.proofs.Stored.{torn_pages_fail}
use Rattle.images.proofs.torn_pages_fail.Goals as goal

pub returns : goal.returns
returns c = torn_pages_fail
