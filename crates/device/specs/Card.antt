-- What a card means: the whole 512-byte parts of some bytes, always on.
use Rattle.std.specs.Prelude.{ℕ, ◌/◌, true, List, map, length}
use Rattle.device.specs.Disk.{Disk, holds}
use Rattle.std.specs.Simd.{first_chunks}

abbrev pub card_disk : List ℕ → Disk
card_disk bs = record { pages = map holds (first_chunks 512 (length bs / 512) bs); on = true }
