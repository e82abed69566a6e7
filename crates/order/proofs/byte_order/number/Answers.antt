use Rattle.std.proofs.Common.{◌∙◌}
use Rattle.order.proofs.Numbers.{wide-eight}
use Rattle.order.proofs.byte_order.number.Goals as goal

pub returns : goal.returns
returns c = c.from_be_bytes.ensures ∙ wide-eight c.args.p.now c.told-p
