use Rattle.neat.proofs.Written.{page_writable}
use Rattle.neat.proofs.pages_are_writable.Goals as goal

pub returns : goal.returns
returns c = λ rank top least ranked s sound tidy p b. page_writable rank top least ranked s sound tidy p b
