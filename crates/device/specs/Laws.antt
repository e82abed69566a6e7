-- What the answer of a write tells of it, whatever the device.
use Rattle.std.specs.Prelude.{◌≡◌, ℕ, true, false, List, length, ◌≢◌, Result, Err}
use Rattle.device.specs.Disk.{Disk}
use Rattle.device.specs.Writes.{Wrote, lasts, power_off, written}
use Rattle.device.specs.declared.errors.PowerOff.{PowerOff}

-- a write that did not fail finished
abbrev pub FinishedUnlessOff : Type 0
FinishedUnlessOff = (d e : Disk) (p : ℕ) (bs : List ℕ) (r : Result Unit PowerOff) → Wrote d p bs r e → (r ≢ Err power_off) → e ≡ written lasts d p bs

-- and power is on now
abbrev pub OnUnlessOff : Type 0
OnUnlessOff = (d e : Disk) (p : ℕ) (bs : List ℕ) (r : Result Unit PowerOff) → Wrote d p bs r e → (r ≢ Err power_off) → e.on ≡ true

abbrev pub OffMeansOff : Type 0
OffMeansOff = (d e : Disk) (p : ℕ) (bs : List ℕ) → Wrote d p bs (Err power_off) e → e.on ≡ false

abbrev pub CountStays : Type 0
CountStays = (d e : Disk) (p : ℕ) (bs : List ℕ) (r : Result Unit PowerOff) → Wrote d p bs r e → length e.pages ≡ length d.pages
