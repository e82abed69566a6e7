use Rattle.examples.proofs.Witnessed.{runs_exist}
use Rattle.examples.proofs.runs_with_cuts_harm_and_loss_exist.Goals as goal

pub returns : goal.returns
returns c = runs_exist
