use Rattle.std.proofs.Common.{◌-◌}
use Rattle.order.specs.Slots.{Parted}
use Rattle.order.proofs.slots.find.Given as goal

abbrev pub invariant-loop-low : goal.invariant-loop-low
invariant-loop-low g l = Parted g.O.KeyOrder.says (g.R.KeyRow.keys l.row) l.key l.low l.high

abbrev pub decreases-loop-low : goal.decreases-loop-low
decreases-loop-low g l = l.high - l.low
