-- A write in which power was cut.
use Rattle.std.proofs.Common.{◌≡◌, ℕ, ◌<◌, Bool, true, false, ◌&&◌, List, Result, Err, length, set, sym, refl, ap, ◌∙◌, ap₂, inl, inr}
use Rattle.std.proofs.lemmas.List.{set-get_or}
use Rattle.std.proofs.lemmas.Bool.{false≢true}
use Rattle.device.specs.Disk.{Disk, Page, holds, unreadable, page_at}
use Rattle.device.specs.Writes.{Fate, lasts, keeps_old, leaves_new, tears, left_by, power_after, power_off, Wrote}
use Rattle.device.specs.declared.errors.PowerOff.{PowerOff}
use Rattle.device.proofs.Outcomes.{changed, written-within}
use Rattle.door_tests.specs.Cut.{cut_disk, Leaves}

abbrev disk_of : List Page → Bool → Disk
disk_of ps x = record { pages = ps; on = x }

-- the fate that a page shows when an image was put in place of the bytes
pub record Shows (bs image : List ℕ) (old : Page) (f : Fate) : Type 0 where
  pub fate : Fate
  pub page : left_by f old (holds image) ≡ left_by fate old (holds bs)
  pub off : power_after fate ≡ false

shows-image : (bs image : List ℕ) (old : Page) → Leaves bs image → Shows bs image old lasts
shows-image bs image old (inl is) = record { fate = leaves_new; page = ap holds is; off = refl }
shows-image bs image old (inr torn) = record { fate = tears (holds image) torn; page = refl; off = refl }

shows : (bs image : List ℕ) (old : Page) → Leaves bs image → (f : Fate) → Shows bs image old f
shows bs image old l lasts = shows-image bs image old l
shows bs image old l keeps_old = record { fate = keeps_old; page = refl; off = refl }
shows bs image old l leaves_new = let s = shows-image bs image old l in record { fate = s.fate; page = s.page; off = s.off }
shows bs image old l (tears q torn) = record { fate = tears q torn; page = refl; off = refl }

pub cut-image : (x : Bool) (d e : Disk) (p : ℕ) (bs image : List ℕ) (r : Result Unit PowerOff) → true ≡ (x && d.on) → p < length d.pages → Leaves bs image → Wrote d p image r e → Wrote (cut_disk x d) p bs (Err power_off) (cut_disk false e)
cut-image x d e p bs image r = go d.pages x d.on
  where
    go : (ps : List Page) (x y : Bool) → true ≡ (x && y) → p < length ps → Leaves bs image → Wrote (disk_of ps y) p image r e → Wrote (cut_disk x (disk_of ps y)) p bs (Err power_off) (cut_disk false e)
    go ps true true on near l w =
        let d : Disk = disk_of ps true in
        let s = shows bs image (page_at d p) l w.fate in
        let left : e ≡ changed w.fate d p image = w.leaves ∙ written-within w.fate d p image refl near in
        record {
          fate = s.fate;
          leaves = ap (cut_disk false) left
              ∙ ap₂ (λ (q : Page) (b : Bool). disk_of (set ps p q) b) s.page (sym s.off)
              ∙ sym (written-within s.fate d p bs refl near);
          answers = refl;
        }
    go ps true false on near l w = absurd (false≢true (sym on))
    go ps false y on near l w = absurd (false≢true (sym on))

pub cut-old : (x : Bool) (d : Disk) (p : ℕ) (bs : List ℕ) → true ≡ (x && d.on) → p < length d.pages → Wrote (cut_disk x d) p bs (Err power_off) (cut_disk false d)
cut-old x d p bs = go d.pages x d.on
  where
    go : (ps : List Page) (x y : Bool) → true ≡ (x && y) → p < length ps → Wrote (cut_disk x (disk_of ps y)) p bs (Err power_off) (cut_disk false (disk_of ps y))
    go ps true true on near =
        let d : Disk = disk_of ps true in
        record {
          fate = keeps_old;
          leaves = sym (written-within keeps_old d p bs refl near ∙ ap (λ (l : List Page). disk_of l false) (set-get_or ps p unreadable));
          answers = refl;
        }
    go ps true false on near = absurd (false≢true (sym on))
    go ps false y on near = absurd (false≢true (sym on))
