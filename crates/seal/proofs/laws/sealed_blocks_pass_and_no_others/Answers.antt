use Rattle.seal.proofs.Seals as seals
use Rattle.seal.proofs.laws.sealed_blocks_pass_and_no_others.Goals as goal

pub returns : goal.returns
returns c = record { sealed_passes = seals.sealed_passes; passing_is_sealed = seals.passing_is_sealed }
