-- Keys that ascend step by step ascend. Assumes nothing.
use Rattle.std.proofs.Common.{◌≡◌, ℕ, zero, suc, get_or, ◌+◌, ◌-◌, ◌<◌, List, length, Bool, true, false, Decides, MatchBool, Less, refl, sym, subst, inl, inr, arith, below_more}
use Rattle.std.proofs.lemmas.Bool.{cases_eq}
use Rattle.std.specs.List.{range_with_len, AllWithin, HoldsAt}
use Rattle.std.proofs.lemmas.List.FromFn.{length-range_with_len, get_or-range_with_len}
use Rattle.order.specs.Lawful.{Says, Chain}
use Rattle.order.specs.Slots.{key_at, Rising, Follows}

module _ {says : Says}
    (chain : Chain says)
    (keys : List (List ℕ)) (n : ℕ) (up : Rising says keys n) (next : Follows says keys n) where
  last-above : (i : ℕ) → i < n → says (key_at keys i) (key_at keys n) ≡ Less
  last-above i h = elim (cases_eq i (n - 1)) [
    | inl e ↦ subst (λ (m : ℕ). says (key_at keys m) (key_at keys n) ≡ Less) (sym e) (next.above (omega arith))
    | inr e ↦
        let lt : i < n - 1 = omega arith in
        chain (key_at keys i) (key_at keys (n - 1)) (key_at keys n) (up.short i h) (up.short (n - 1) (omega arith)) next.short
        (up.less i (n - 1) lt (omega arith)) (next.above (omega arith))
  ]

  pub rising-more : Rising says keys (n + 1)
  rising-more = record {
    short = below_more _ n up.short next.short;
    less = λ i j l h. elim (cases_eq j n) [
      | inl e ↦ subst (λ (m : ℕ). says (key_at keys i) (key_at keys m) ≡ Less) (sym e) (last-above i (omega arith))
      | inr e ↦ up.less i j l (omega arith)
    ];
  }

pub all_follow : {says : Says} → Chain says → (keys : List (List ℕ)) (n : ℕ) → ((i : ℕ) → i < n → Follows says keys i) → Rising says keys n
all_follow chain keys zero h = record { short = λ i l. absurd (omega arith); less = λ i j l m. absurd (omega arith) }
all_follow chain keys (suc n) h =
    let e : suc n ≡ n + 1 = omega arith in
    let up = all_follow chain keys n (λ i l. h i (omega arith)) in
    rw e (rising-more chain keys n up (h n (omega arith)))

pub each_follows : {says : Says} (keys : List (List ℕ)) (n i : ℕ) → Rising says keys n → i < n → Follows says keys i
each_follows keys n i up h = record { short = up.short i h; above = λ p. up.less (i - 1) i (omega arith) h }

slot_at : (n i : ℕ) → i < n → get_or (range_with_len 0 n) i 0 ≡ i
slot_at n i h = let e = get_or-range_with_len 0 n i 0 h in omega arith

-- what is told of each slot, told of the row
pub told_of_all : {says : Says} → Chain says → (keys : List (List ℕ)) (n : ℕ) (r : Bool)
    → MatchBool r (AllWithin (Follows says keys) (range_with_len 0 n) 0 (length (range_with_len 0 n)))
    ((k : ℕ) × (k < length (range_with_len 0 n)) × HoldsAt (λ i. Follows says keys i → ⊥) (range_with_len 0 n) k)
    → Decides r (Rising says keys n)
told_of_all {says} chain keys n true h =
    let l = length-range_with_len 0 n in (
      λ e. all_follow chain keys n (λ i m. subst (Follows says keys) (slot_at n i m) (h i 0 (omega arith) (omega arith))),
      λ up. refl,
    )
told_of_all {says} chain keys n false (k, m, h) =
    let l = length-range_with_len 0 n in
    let m' : k < n = omega arith in (
      λ e. cc,
      λ up. absurd (h 0 (subst (Follows says keys) (sym (slot_at n k m')) (each_follows keys n k up m'))),
    )
