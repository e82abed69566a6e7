-- A change that may be made has a record, and it is read back at its position.
use Rattle.std.proofs.Common.{◌≡◌, ℕ, suc, ◌^◌, ◌<◌, ◌≤◌, Bool, true, cond, not, eqb, List, [], ◌∷◌, length, sym, refl, ap, ◌∙◌, arith}
use Rattle.order.specs.Lawful.{Says}
use Rattle.neat.specs.Neat.{Recorded}
use Rattle.tree.specs.Log.{Change, Rec, Logged}
use Rattle.tree.specs.Log.Change.{Format, Put, Remove, Foster, Adopt, Grow}
use Rattle.tree.specs.Plan.{linked, linked_by}
use Rattle.images.specs.Keys.{Key, Value, empty_key}
use Rattle.images.specs.Records.{encode_rec, names_well, misfit, or_misfit, chain_rec}
use Rattle.images.specs.Laws.{Ranked, Recordable, Spelt}
use Rattle.images.proofs.Strings.{same_key}
use Rattle.images.proofs.Recorded.{records_read_back}
use Rattle.std.proofs.lemmas.Bool.{and_from, lt-ltb, ne_eqb, not_from_false}

-- what is written of a record is what walking back meets
pub chain-is : (n : ℕ) (q : Rec Key Value) → Recordable n q → names_well n q ≡ true → chain_rec n (encode_rec n q) ≡ q
unfolding chain_rec or_misfit
chain-is n q h w = ap (or_misfit n) (records_read_back n q h) ∙ ap {B = Rec Key Value} (λ (t : Bool). cond t q (misfit n)) w

pub linked-change : (newest : ℕ → ℕ) (c : Change Key Value) → (linked_by newest c).change ≡ c
linked-change newest Format = refl
linked-change newest (Put p k v) = refl
linked-change newest (Remove p k) = refl
linked-change newest (Foster p o d) = refl
linked-change newest (Adopt p o k c) = refl
linked-change newest (Grow o) = refl

pub apart : (a b : ℕ) → (a ≡ b → ⊥) → not (eqb a b) ≡ true
apart a b h = not_from_false (eqb a b) (ne_eqb a b h)

module _ (says : Says) (r : Ranked says) where
  -- a key above the empty one has a byte
  pub named-length : (k : Key) → r.rank empty_key < r.rank k → 0 < length k.bytes
  named-length k h = go k.bytes refl
    where
      go : (s : List ℕ) → k.bytes ≡ s → 0 < length s
      go [] e = let t : r.rank k ≡ r.rank empty_key = ap r.rank (same_key k empty_key e) in absurd (omega arith)
      go (x ∷ xs) e = omega arith

  module _ (s : Logged Key Value) (few : s.born ≤ 256) (within : (p : ℕ) → s.newest p ≤ s.count) where
    is-spelt : (c : Change Key Value) → Recorded r.rank r.top empty_key s.born c
        → Spelt (linked s c).change (linked s c).prev (linked s c).prev_other
    is-spelt Format h = (refl, refl)
    is-spelt (Put p k v) h = (omega (arith, h.0), named-length k h.1, refl)
    is-spelt (Remove p k) h = (omega (arith, h.0), named-length k h.1, refl)
    is-spelt (Foster p o d) h = (omega (arith, h.0), omega (arith, h.1), named-length d h.2, refl)
    is-spelt (Adopt p o k c) h = (omega (arith, h.0), omega (arith, h.1.is_born), omega (arith, h.2.is_born), named-length k h.4)
    is-spelt (Grow o) h = (omega (arith, h.0), refl)

    prev-within : (c : Change Key Value) → (linked s c).prev ≤ s.count
    prev-within Format = omega arith
    prev-within (Put p k v) = within p
    prev-within (Remove p k) = within p
    prev-within (Foster p o d) = within p
    prev-within (Adopt p o k c) = within p
    prev-within (Grow o) = within 0

    other-within : (c : Change Key Value) → (linked s c).prev_other ≤ s.count
    other-within Format = omega arith
    other-within (Put p k v) = omega arith
    other-within (Remove p k) = omega arith
    other-within (Foster p o d) = omega arith
    other-within (Adopt p o k c) = within o
    other-within (Grow o) = omega arith

    pub is-recordable : (c : Change Key Value) → Recorded r.rank r.top empty_key s.born c
        → (n : ℕ) → n < 2 ^ 32 → n ≡ suc s.count → Recordable n (linked s c)
    is-recordable c h n small e = record {
      position = small;
      prev = omega (arith, prev-within c);
      prev_other = omega (arith, other-within c);
      spelt = is-spelt c h;
    }

    pub names-well : (c : Change Key Value) → Recorded r.rank r.top empty_key s.born c
        → (n : ℕ) → n ≡ suc s.count → names_well n (linked s c) ≡ true
    unfolding names_well
    names-well Format h n e = refl
    names-well (Put p k v) h n e = lt-ltb (s.newest p) n (omega (arith, within p))
    names-well (Remove p k) h n e = lt-ltb (s.newest p) n (omega (arith, within p))
    names-well (Foster p o d) h n e = and_from _ _ (lt-ltb (s.newest p) n (omega (arith, within p)))
        (and_from _ _ (apart p o (λ i. omega (arith, h.0, h.1))) (apart o 0 (λ i. omega (arith, h.0, h.1))))
    names-well (Adopt p o k c) h n e = and_from _ _
        (and_from _ _ (lt-ltb (s.newest p) n (omega (arith, within p))) (lt-ltb (s.newest o) n (omega (arith, within o))))
        (and_from _ _ (and_from _ _ (apart p o (λ i. h.1.other (sym i))) (apart p c (λ i. h.2.other (sym i))))
        (and_from _ _ (apart o c (λ i. h.3.other (sym i)))
        (and_from _ _ (apart o 0 h.1.inner) (apart c 0 h.2.inner))))
    names-well (Grow o) h n e = and_from _ _ (lt-ltb (s.newest 0) n (omega (arith, within 0))) (apart o 0 (λ i. omega (arith, h.0, h.1)))
