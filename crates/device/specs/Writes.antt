-- What may become of a write.
use Rattle.std.specs.Prelude.{◌≡◌, ℕ, Bool, true, false, cond, List, slice_set, Result, Ok, Err}
use Rattle.device.specs.Disk.{Disk, Page, holds, intact, page_at, reaches}
use Rattle.device.specs.declared.errors.PowerOff.{PowerOff}

-- power lasts through the write, or goes off in it and leaves the page old, new or torn
pub data Fate : Type 0 where
  lasts : Fate
  keeps_old : Fate
  leaves_new : Fate
  tears : (q : Page) → intact q ≡ false → Fate

abbrev pub left_by : Fate → Page → Page → Page
left_by lasts old new = new
left_by keeps_old old new = old
left_by leaves_new old new = new
left_by (tears q torn) old new = q

abbrev pub power_after : Fate → Bool
power_after lasts = true
power_after keeps_old = false
power_after leaves_new = false
power_after (tears q torn) = false

-- the disk after a write of bs to page p: while off, and beyond the count, nothing changes
abbrev pub written : Fate → Disk → ℕ → List ℕ → Disk
written f d p bs = cond (reaches d p) (record { pages = slice_set d.pages p (left_by f (page_at d p) (holds bs)); on = power_after f }) d

abbrev pub power_off : PowerOff
power_off = record {}

-- what a write answers, by the power that is left
abbrev pub answer : Bool → Result Unit PowerOff
answer power = cond power (Ok tt) (Err power_off)

-- a write of bs to page p took d to e and answered r
pub record Wrote (d : Disk) (p : ℕ) (bs : List ℕ) (r : Result Unit PowerOff) (e : Disk) : Type 0 where
  pub fate : Fate
  pub leaves : e ≡ written fate d p bs
  pub answers : r ≡ answer e.on
