-- The row of slots of a log, and what one record more leaves.
use Rattle.std.proofs.Common.{◌≡◌, ℕ, zero, suc, ◌+◌, ◌-◌, ◌<◌, ◌≤◌, min, Bool, true, false, ◌≢◌, List, [], ◌∷◌, ◌++◌, Result, Ok, Err, length, get_or, take, set, sym, refl, ap, ◌∙◌, ⊎_elim, arith, length-take}
use Rattle.std.proofs.lemmas.List.{get_or_past, get_or-take, get_or-set_same, get_or-set_other, take_more_set, length-take-le}
use Rattle.std.proofs.lemmas.Bool.{cases_eq, cases_lt, lt-leb, le-leb, cond-false}
use Rattle.device.specs.Disk.{Page, holds, unreadable}
use Rattle.wal.specs.Journal.{Journal, Entry, entry, lost}
use Rattle.wal.specs.Records.{stamped, passes}
use Rattle.wal.specs.Appends.{Fate, lasts, full, longer, row_after, power_after, appended, answer, Appended}
use Rattle.wal.specs.declared.errors.AppendError.{AppendError}
use Rattle.wal.specs.declared.errors.AppendError.TheVariants.{Full}
use Rattle.wal.specs.Laws.{NewIsEmpty}
use Rattle.wal.specs.Slots.{slot, slots, LastPassing}

pub length-slots : (n : ℕ) (qs : List Page) → length (slots n qs) ≡ length qs
length-slots n [] = refl
length-slots n (q ∷ qs) = ap suc (length-slots (suc n) qs)

pub slot_at : (n i : ℕ) (qs : List Page) → get_or (slots n qs) i lost ≡ slot (n + i) (get_or qs i unreadable)
slot_at n i [] = refl
slot_at n zero (q ∷ qs) = let e : n ≡ n + 0 = omega arith in ap (λ (m : ℕ). slot m q) e
slot_at n (suc i) (q ∷ qs) =
    let e : suc n + i ≡ n + suc i = omega arith in
    slot_at (suc n) i qs ∙ ap (λ (m : ℕ). slot m (get_or qs i unreadable)) e

pub slots_set : (n i : ℕ) (qs : List Page) (q : Page) → slots n (set qs i q) ≡ set (slots n qs) i (slot (n + i) q)
slots_set n i [] q = refl
slots_set n zero (p ∷ qs) q = let e : n ≡ n + 0 = omega arith in ap (λ (m : ℕ). slot m q ∷ slots (suc n) qs) e
slots_set n (suc i) (p ∷ qs) q =
    let e : suc n + i ≡ n + suc i = omega arith in
    ap (λ (r : List Entry). slot n p ∷ r) (slots_set (suc n) i qs q ∙ ap (λ (m : ℕ). set (slots (suc n) qs) i (slot m q)) e)

-- the slot of a position, from 1 on
pub slot_of : (n : ℕ) (qs : List Page) → 0 < n → get_or (slots 1 qs) (n - 1) lost ≡ slot n (get_or qs (n - 1) unreadable)
slot_of n qs h = let e : 1 + (n - 1) ≡ n = omega arith in slot_at 1 (n - 1) qs ∙ ap (λ (m : ℕ). slot m (get_or qs (n - 1) unreadable)) e

-- a position of a row, and what lies outside
pub entry-within : (es : List Entry) (n u : ℕ) → (n ≡ 0 → ⊥) → n ≤ u → get_or (lost ∷ take u es) n lost ≡ get_or es (n - 1) lost
entry-within es zero u z h = absurd (z refl)
entry-within es (suc m) u z h = let e : m ≡ suc m - 1 = omega arith in get_or-take u es m lost h ∙ ap (λ (i : ℕ). get_or es i lost) e

-- a stamped record is what its slot holds, if the block passes and begins with it
pub slot-stands : (n : ℕ) (bs block : List ℕ) → passes n block ≡ true → take 128 block ≡ stamped n bs → slot n (holds block) ≡ entry (stamped n bs)
slot-stands n bs block p e = rw p (ap entry e)

module _ (es : List Entry) (u : ℕ) (bs : List ℕ) where
  -- one slot more, behind the last of a row
  pub row_more : u < length es → take (u + 1) (set es u (entry (stamped (u + 1) bs))) ≡ longer (take u es) bs
  row_more h =
      let size : length (take u es) ≡ u = length-take-le u es (omega arith) in
      take_more_set es u (entry (stamped (u + 1) bs)) h ∙ ap (λ (n : ℕ). take u es ++ (entry (stamped (n + 1) bs) ∷ [])) (sym size)

  pub last_more : (r : List ℕ) → u < length es → ((i : ℕ) → u ≤ i → get_or es i lost ≡ lost) → LastPassing (set es u (entry r)) (u + 1)
  last_more r h none =
      record {
        stands = λ i e gone.
            let same : i ≡ u = omega arith in
            let found : get_or (set es u (entry r)) i lost ≡ entry r = ap (λ (j : ℕ). get_or (set es u (entry r)) j lost) same ∙ get_or-set_same es u (entry r) lost h in
            let clash : entry r ≡ lost = sym found ∙ gone in
            let z : ◌≡◌ {A = ℕ} 0 1 = cc in
            omega arith;
        beyond = λ i e.
            let other : i ≢ u = λ same. omega arith in
            get_or-set_other es u i (entry r) lost other ∙ none i (omega arith);
      }

pub last-fits : (es : List Entry) (n : ℕ) → LastPassing es n → n ≤ length es
last-fits es zero last = omega arith
last-fits es (suc i) last =
    ⊎_elim (λ (h : i < length es). h) (λ (h : length es ≤ i). absurd (last.stands i refl (get_or_past es i lost h))) (cases_lt i (length es))

pub new_is_empty : NewIsEmpty
new_is_empty es zero last none = refl
new_is_empty es (suc i) last none = absurd (last.stands i refl (none i))

-- going down from a position that does not pass
pub beyond-down : (es : List Entry) (n : ℕ) → 0 < n → get_or es (n - 1) lost ≡ lost → ((i : ℕ) → n ≤ i → get_or es i lost ≡ lost) → (i : ℕ) → n - 1 ≤ i → get_or es i lost ≡ lost
beyond-down es n h gone none i l =
    ⊎_elim (λ (e : i ≡ n - 1). ap (λ (j : ℕ). get_or es j lost) e ∙ gone) (λ (e : i ≡ n - 1 → ⊥). none i (omega arith)) (cases_eq i (n - 1))

pub last-at : (es : List Entry) (n : ℕ) → (get_or es (n - 1) lost ≡ lost → ⊥) → ((i : ℕ) → n ≤ i → get_or es i lost ≡ lost) → LastPassing es n
last-at es n held none =
    record {
      stands = λ i e gone.
          let same : n - 1 ≡ i = omega arith in
          held (ap (λ (j : ℕ). get_or es j lost) same ∙ gone);
      beyond = none;
    }

-- a log that is on, with u of the slots es in its row
abbrev pub going : ℕ → List Entry → ℕ → Bool → Journal
going cap es u power = record { capacity = cap; records = take u es; on = power }

module _ (cap : ℕ) (es : List Entry) (u : ℕ) (bs : List ℕ) (size : length es ≡ cap) where
  pub row-length : length (take u es) ≡ min u cap
  row-length = length-take u es ∙ ap (min u) size

  pub not_full : (x : Bool) → u < cap → full (going cap es u x) ≡ false
  not_full x h = lt-leb cap (length (take u es)) (omega (arith, row-length))

  pub full-append : cap ≤ u → Appended (going cap es u true) bs (Err Full) (going cap es u true)
  full-append h =
      let is_full : full (going cap es u true) ≡ true = le-leb cap (length (take u es)) (omega (arith, row-length)) in
      record { fate = lasts; leaves = rw is_full; answers = rw is_full }

  -- an append while there is room, by what became of it
  pub grows : (f : Fate) → u < cap → appended f (going cap es u true) bs ≡ record { capacity = cap; records = row_after f (take u es) bs; on = power_after f }
  grows f h = rw (not_full true h)

  abbrev answered : ℕ → Result ℕ AppendError
  answered n = Ok n

  pub answers-added : u < cap → Ok (u + 1) ≡ answer (going cap es u true) true
  answers-added h =
      let long : u ≡ length (take u es) = omega (arith, row-length) in
      ap (λ (n : ℕ). answered (n + 1)) long ∙ sym (cond-false _ _ _ (not_full true h))
