-- What a repair comes to.
use Rattle.std.proofs.Common.{◌≡◌, ℕ, Bool, true, false, List, Result, Ok, Err, IsErr, sym, refl, ap, ◌∙◌}
use Rattle.std.proofs.lemmas.Bool.{cond-true, cond-false}
use Rattle.device.specs.Disk.{Disk, Page, holds, unreadable, intact, page_at, shown, gives_sealed, reading}
use Rattle.device.specs.Writes.{lasts, power_off, written, Wrote}
use Rattle.device.specs.Repair.{Repaired}
use Rattle.device.specs.declared.errors.ReadError.{ReadError}
use Rattle.device.specs.declared.errors.ReadError.TheVariants.{Off}
use Rattle.device.specs.declared.errors.PowerOff.{PowerOff}
use Rattle.device.specs.declared.repair.Repair.{Repair}
use Rattle.device.specs.declared.repair.Repair.TheVariants.{Intact, Replaced}
use Rattle.device.proofs.Outcomes.{on_unless_off, off_means_off, done-not-off, only-off}

shown-intact : (q : Page) → gives_sealed (shown q) ≡ intact q
shown-intact (holds bs) = refl
shown-intact unreadable = refl

-- a read tells whether the page is intact
read-tells : (d : Disk) (p : ℕ) (r : Result (List ℕ) ReadError) (x : Bool) → true ≡ d.on → r ≡ reading d p → x ≡ gives_sealed r → intact (page_at d p) ≡ x
read-tells d p r x on is sees =
    sym (sees ∙ ap gives_sealed (is ∙ cond-true d.on (shown (page_at d p)) (Err Off) (sym on)) ∙ shown-intact (page_at d p))

pub left-intact : (d e : Disk) (p : ℕ) (bs : List ℕ) (r : Result (List ℕ) ReadError) → true ≡ d.on → r ≡ reading d p → true ≡ gives_sealed r → e ≡ d → Repaired d p bs (Ok Intact) e
left-intact d e p bs r on is sees same =
    let good : intact (page_at d p) ≡ true = read-tells d p r true on is sees in
    let still : e.on ≡ true = ap (λ (x : Disk). x.on) same ∙ sym on in
    record { fate = lasts; leaves = same ∙ sym (cond-true _ _ _ good); answers = sym (cond-true _ _ _ still ∙ ap Ok (cond-true _ _ _ good)) }

module _ (d m e : Disk) (p : ℕ) (bs : List ℕ) (r : Result (List ℕ) ReadError) (on : true ≡ d.on) (is : r ≡ reading d p) (sees : false ≡ gives_sealed r) (same : m ≡ d) where
  bad : intact (page_at d p) ≡ false
  bad = read-tells d p r false on is sees

  pub replaced_done : Wrote m p bs (Ok tt) e → Repaired d p bs (Ok Replaced) e
  replaced_done w =
      record {
        fate = w.fate;
        leaves = w.leaves ∙ ap (λ (x : Disk). written w.fate x p bs) same ∙ sym (cond-false _ _ _ bad);
        answers = sym (cond-true _ _ _ (on_unless_off m e p bs (Ok tt) w done-not-off) ∙ ap Ok (cond-false _ _ _ bad));
      }

  pub replaced_off : (q : Result Repair PowerOff) → IsErr q → Wrote m p bs (Err power_off) e → Repaired d p bs q e
  replaced_off q failed w =
      record {
        fate = w.fate;
        leaves = w.leaves ∙ ap (λ (x : Disk). written w.fate x p bs) same ∙ sym (cond-false _ _ _ bad);
        answers = only-off q failed ∙ sym (cond-false _ _ _ (off_means_off m e p bs w));
      }
