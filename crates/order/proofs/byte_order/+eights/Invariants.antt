use Rattle.std.proofs.Common.{length, ◌+◌, ◌*◌}
use Rattle.order.proofs.byte_order.+eights.Given as goal

abbrev pub decreases-by_byte : goal.decreases-by_byte
decreases-by_byte l = 2 * length l.a.now

abbrev pub decreases-by_rest : goal.decreases-by_rest
decreases-by_rest l = 2 * length l.x.now + 1
