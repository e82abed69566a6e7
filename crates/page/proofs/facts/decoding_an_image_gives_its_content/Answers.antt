use Rattle.page.proofs.Images.{image-size, image-gives}
use Rattle.page.proofs.facts.decoding_an_image_gives_its_content.Goals as goal

pub returns : goal.returns
returns c = record { size = image-size; content = image-gives }
