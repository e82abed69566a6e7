use Rattle.std.proofs.Common.{◌≡◌, ◌&&◌, eqb, drop}
use Rattle.field.specs.Fields.{are_zeros}
use Rattle.field.proofs.reads.are_zeros.Given as goal

abbrev pub invariant-loop-x : goal.invariant-loop-x
invariant-loop-x l = (eqb l.all 0 && are_zeros (drop l.x-index l.s)) ≡ are_zeros l.s
