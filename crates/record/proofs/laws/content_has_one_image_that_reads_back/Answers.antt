use Rattle.record.proofs.Decodes as decodes
use Rattle.record.proofs.laws.content_has_one_image_that_reads_back.Goals as goal

pub returns : goal.returns
returns c = record { image_reads_back = decodes.image_reads_back; one_image = decodes.one_image }
