use Rattle.std.proofs.Common.{refl}
use Rattle.seal.specs.Crc.{bit_step, steps, byte_step, run}
use Rattle.seal.proofs.laws.check_value_is_e3069283.Goals as goal

pub returns : goal.returns
unfolding run byte_step steps bit_step
returns c = refl
