use Rattle.record.proofs.Decodes.{decoded_fits}
use Rattle.record.proofs.laws.decoded_content_fits.Goals as goal

pub returns : goal.returns
returns c = decoded_fits
