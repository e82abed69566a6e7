use Rattle.page.proofs.Images.{decoded_is}
use Rattle.page.proofs.facts.what_decodes_is_an_image.Goals as goal

pub returns : goal.returns
returns c = decoded_is
