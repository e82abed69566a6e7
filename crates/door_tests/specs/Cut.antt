-- A device whose power can be cut from outside, and what a cut write leaves.
use Rattle.std.specs.Prelude.{◌≡◌, ℕ, Bool, false, ◌&&◌, ◌⊎◌, List}
use Rattle.seal.specs.Seal.{is_sealed}
use Rattle.device.specs.Disk.{Disk}

abbrev pub cut_disk : Bool → Disk → Disk
cut_disk power d = record { pages = d.pages; on = power && d.on }

-- an image that a write of bs may leave: the bytes, or none that is sealed
abbrev pub Leaves : List ℕ → List ℕ → Type 0
Leaves bs image = (image ≡ bs) ⊎ (is_sealed image ≡ false)
