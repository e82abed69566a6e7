use Rattle.run_vectors.proofs.Computed.{runs_made_elsewhere_agree}
use Rattle.run_vectors.proofs.runs_made_elsewhere_agree.Goals as goal

pub returns : goal.returns
returns c = runs_made_elsewhere_agree
