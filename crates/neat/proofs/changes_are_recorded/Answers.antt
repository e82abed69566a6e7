use Rattle.neat.proofs.Recorded.{change-recorded}
use Rattle.neat.proofs.changes_are_recorded.Goals as goal

pub returns : goal.returns
returns c = λ rank top least ranked s sound ch may named. change-recorded rank top least ranked s sound ch may named
