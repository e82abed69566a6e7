use Rattle.std.proofs.Common.{◌∙◌, arith}
use Rattle.wal.proofs.Memories.{put-slots}
use Rattle.wal.proofs.slot_log.put.Goals as goal

pub returns-clause-slots : goal.returns-clause-slots
returns-clause-slots c =
    put-slots c.args.memory.now c.args.bytes.now _ c.args.position _ c.requires.from_one c.requires.within c.told-bytes c.fits-bytes (c.copy_from_slice.ensures.after ∙ c.stamp.ensures) (omega arith)
