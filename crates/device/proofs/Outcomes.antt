-- What the answer of a write tells of it.
use Rattle.std.proofs.Common.{◌≡◌, ℕ, ◌<◌, Bool, true, false, cond, List, length, set, sym, refl, ap, ◌∙◌, Result, Ok, Err, IsErr}
use Rattle.std.proofs.lemmas.Bool.{and_from, cond-true, lt-ltb, false≢true}
use Rattle.device.specs.Disk.{Disk, holds, page_at, reaches}
use Rattle.device.specs.Writes.{Fate, lasts, keeps_old, leaves_new, tears, left_by, power_after, power_off, written, answer}
use Rattle.device.specs.declared.errors.PowerOff.{PowerOff}
use Rattle.device.specs.Laws.{FinishedUnlessOff, OnUnlessOff, OffMeansOff}

-- the disk after a write that does something
abbrev pub changed : Fate → Disk → ℕ → List ℕ → Disk
changed f d p bs = record { pages = set d.pages p (left_by f (page_at d p) (holds bs)); on = power_after f }

pub written-within : (f : Fate) (d : Disk) (p : ℕ) (bs : List ℕ) → true ≡ d.on → p < length d.pages → written f d p bs ≡ changed f d p bs
written-within f d p bs on near = cond-true (reaches d p) (changed f d p bs) d (and_from _ _ (sym on) (lt-ltb p (length d.pages) near))

pub done-not-off : ◌≡◌ {A = Result Unit PowerOff} (Ok tt) (Err power_off) → ⊥
done-not-off e = cc

-- the power is the only thing that a write can fail by
pub only-off : {T : Type 0} (r : Result T PowerOff) → IsErr r → r ≡ Err power_off
only-off (Ok x) failed = absurd (false≢true failed)
only-off (Err e) failed = refl

pub finished_unless_off : FinishedUnlessOff
finished_unless_off d e p bs r w on = go (reaches d p) w.fate w.leaves
  where
    go : (x : Bool) (f : Fate) → e ≡ cond x (changed f d p bs) d → e ≡ cond x (changed lasts d p bs) d
    go true lasts is = is
    go true keeps_old is = absurd (on (w.answers ∙ ap (λ (x : Disk). answer x.on) is))
    go true leaves_new is = absurd (on (w.answers ∙ ap (λ (x : Disk). answer x.on) is))
    go true (tears q torn) is = absurd (on (w.answers ∙ ap (λ (x : Disk). answer x.on) is))
    go false f is = is

pub on_unless_off : OnUnlessOff
on_unless_off d e p bs r w on = go e.on w.answers
  where
    go : (x : Bool) → r ≡ answer x → x ≡ true
    go true is = refl
    go false is = absurd (on is)

pub off_means_off : OffMeansOff
off_means_off d e p bs w = go e.on w.answers
  where
    go : (x : Bool) → Err power_off ≡ answer x → x ≡ false
    go true is = cc
    go false is = refl
