use Rattle.std.proofs.Common.{◌∙◌, arith}
use Rattle.field.proofs.Fielded.{zeros-more, zeros-all}
use Rattle.field.proofs.reads.are_zeros.Goals as goal

pub loop-x-preserved : goal.loop-x-preserved
loop-x-preserved c = zeros-more c.args.s.now c.loop-x.all c.loop-x.x-index (omega arith) ∙ c.loop-x.invariant

pub returns : goal.returns
returns c = zeros-all c.args.s.now c.loop-x.all c.loop-x.x-index (omega arith) ∙ c.loop-x.invariant
