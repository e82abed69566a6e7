use Rattle.tree.proofs.Kept.{kept-sound}
use Rattle.tree.proofs.logs_sound.Goals as goal

pub returns : goal.returns
returns c = λ rank top least ranked r rs k e. kept-sound rank top least ranked r rs k e
