use Rattle.neat.proofs.Tidy.{changed-tidy}
use Rattle.neat.proofs.tidy_stays.Goals as goal

pub returns : goal.returns
returns c = λ rank top least s tidy sound change may named. changed-tidy rank top least s tidy sound change may named
