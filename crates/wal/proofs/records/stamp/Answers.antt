use Rattle.std.proofs.Common.{◌∙◌}
use Rattle.wal.proofs.Stamps.{stamp_is}
use Rattle.wal.proofs.records.stamp.Goals as goal

pub returns : goal.returns
returns c = c.seal_array.ensures ∙ stamp_is c.args.position c.args.bytes.now _ _ c.to_le_bytes.ensures c.put.ensures.written c.put.ensures.rest
