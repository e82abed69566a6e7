use Rattle.record.proofs.Decodes.{image_has_128_bytes, image_is_sealed}
use Rattle.record.proofs.laws.image_is_a_sealed_block.Goals as goal

pub returns : goal.returns
returns c = record { length = image_has_128_bytes; sealed = image_is_sealed }
