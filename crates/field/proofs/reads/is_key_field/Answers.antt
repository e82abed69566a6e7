use Rattle.std.proofs.Common.{◌∙◌, arith}
use Rattle.field.proofs.Fielded.{field-tested, field-long}
use Rattle.field.proofs.reads.is_key_field.Goals as goal

pub returns-then-n-le16 : goal.returns-then-n-le16
returns-then-n-le16 c = c.are_zeros.ensures ∙ field-tested 16 c.args.f.now c.from-n.result c.from-n.ensures (omega arith)

pub returns-else-n-le16 : goal.returns-else-n-le16
returns-else-n-le16 c = field-long 16 c.args.f.now c.from-n.result c.from-n.ensures (omega arith)
