-- A page that is not intact is replaced.
use Rattle.std.specs.Prelude.{◌≡◌, ℕ, Bool, cond, List, Result, Ok, Err}
use Rattle.device.specs.Disk.{Disk, intact, page_at}
use Rattle.device.specs.Writes.{Fate, power_off, written}
use Rattle.device.specs.declared.errors.PowerOff.{PowerOff}
use Rattle.device.specs.declared.repair.Repair.{Repair}
use Rattle.device.specs.declared.repair.Repair.TheVariants.{Intact, Replaced}

abbrev pub repaired : Fate → Disk → ℕ → List ℕ → Disk
repaired f d p bs = cond (intact (page_at d p)) d (written f d p bs)

abbrev pub told : Disk → ℕ → Bool → Result Repair PowerOff
told d p power = cond power (Ok (cond (intact (page_at d p)) Intact Replaced)) (Err power_off)

-- a repair of page p by bs took d to e and answered r
pub record Repaired (d : Disk) (p : ℕ) (bs : List ℕ) (r : Result Repair PowerOff) (e : Disk) : Type 0 where
  pub fate : Fate
  pub leaves : e ≡ repaired fate d p bs
  pub answers : r ≡ told d p e.on
