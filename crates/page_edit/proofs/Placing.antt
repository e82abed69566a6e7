-- Edits of entries by the slot at which a key was found.
use Rattle.std.proofs.Common.{◌≡◌, ℕ, zero, suc, ◌+◌, ◌<◌, ◌≤◌, true, false, cond, ◌||◌, ◌⊎◌, List, [], ◌∷◌, ◌++◌, length, get_or, take, drop, Ordering, Less, Equal, Greater, sym, refl, ap, ◌∙◌, subst, inl, inr, suc-le-suc, zero-le, add-one, arith}
use Rattle.std.specs.Ordering.{is_eq}
use Rattle.std.proofs.lemmas.Bool.{cases_lt}
use Rattle.order.specs.Lawful.{Says, Itself, Turned}
use Rattle.order.specs.Slots.{key_at, Ascending, Parted}
use Rattle.page.specs.Content.{Entry, entry_key, keys_in}
use Rattle.page_edit.specs.Edits.{placed_at, placed, without, has}
use Rattle.page_edit.specs.Parts.{Parts}
use Rattle.page_build.specs.Spliced.{spliced}

-- how a key stands to the entries: above those before a slot, and to the one in it as given, if there is one
pub record Stands (says : Says) (key : List ℕ) (es : List Entry) (i : ℕ) (o : Ordering) : Type 0 where
  pub within : i ≤ length es
  pub above : (j : ℕ) → j < i → says key (get_or (keys_in es) j []) ≡ Greater
  pub at : i < length es → says key (get_or (keys_in es) i []) ≡ o

behind : (says : Says) (key : List ℕ) (x : Entry) (es : List Entry) (i : ℕ) (o : Ordering) → Stands says key (x ∷ es) (suc i) o → Stands says key es i o
unfolding keys_in
behind says key x es i o s = record {
  within = (let h = s.within in omega arith);
  above = λ j h. s.above (suc j) (suc-le-suc h);
  at = λ h. s.at (suc-le-suc h);
}

-- a new entry goes in between
pub placed-new : (says : Says) (e : Entry) (es : List Entry) (i : ℕ) → Stands says (entry_key e) es i Less → placed says e es ≡ take i es ++ (e ∷ drop i es)
unfolding placed placed_at keys_in
placed-new says e [] zero s = refl
placed-new says e [] (suc i) s = let h = s.within in absurd (omega arith)
placed-new says e (x ∷ es) zero s = ap (λ (o : Ordering). placed_at o e x es (placed says e es)) (s.at (suc-le-suc zero-le))
placed-new says e (x ∷ es) (suc i) s =
    ap (λ (o : Ordering). placed_at o e x es (placed says e es)) (s.above 0 (suc-le-suc zero-le))
    ∙ ap (λ (l : List Entry). x ∷ l) (placed-new says e es i (behind says (entry_key e) x es i Less s))

-- an entry with the key of an old one takes its place
pub placed-over : (says : Says) (e : Entry) (es : List Entry) (i : ℕ) → i < length es → Stands says (entry_key e) es i Equal
    → placed says e es ≡ take i es ++ (e ∷ drop (suc i) es)
unfolding placed placed_at keys_in
placed-over says e [] i h s = absurd (omega arith)
placed-over says e (x ∷ es) zero h s = ap (λ (o : Ordering). placed_at o e x es (placed says e es)) (s.at h)
placed-over says e (x ∷ es) (suc i) h s =
    ap (λ (o : Ordering). placed_at o e x es (placed says e es)) (s.above 0 (suc-le-suc zero-le))
    ∙ ap (λ (l : List Entry). x ∷ l) (placed-over says e es i (omega arith) (behind says (entry_key e) x es i Equal s))

pub without_at : (says : Says) (key : List ℕ) (es : List Entry) (i : ℕ) → i < length es → Stands says key es i Equal
    → without says key es ≡ take i es ++ drop (suc i) es
unfolding without keys_in
without_at says key [] i h s = absurd (omega arith)
without_at says key (x ∷ es) zero h s = ap (λ (o : Ordering). cond (is_eq o) es (x ∷ without says key es)) (s.at h)
without_at says key (x ∷ es) (suc i) h s =
    ap (λ (o : Ordering). cond (is_eq o) es (x ∷ without says key es)) (s.above 0 (suc-le-suc zero-le))
    ∙ ap (λ (l : List Entry). x ∷ l) (without_at says key es i (omega arith) (behind says key x es i Equal s))

has-at : (says : Says) (key : List ℕ) (es : List Entry) (i : ℕ) → i < length es → Stands says key es i Equal → has says key es ≡ true
unfolding has keys_in
has-at says key [] i h s = absurd (omega arith)
has-at says key (x ∷ es) zero h s = ap (λ (o : Ordering). is_eq o || has says key es) (s.at h)
has-at says key (x ∷ es) (suc i) h s =
    ap (λ (o : Ordering). is_eq o || has says key es) (s.above 0 (suc-le-suc zero-le))
    ∙ has-at says key es i (omega arith) (behind says key x es i Equal s)

has-none : (says : Says) (key : List ℕ) (es : List Entry)
    → ((j : ℕ) → j < length es → (says key (get_or (keys_in es) j []) ≡ Less) ⊎ (says key (get_or (keys_in es) j []) ≡ Greater)) → has says key es ≡ false
unfolding has keys_in
has-none says key [] f = refl
has-none says key (x ∷ es) f =
    let rest = has-none says key es (λ j h. f (suc j) (suc-le-suc h)) in
    elim (f 0 (suc-le-suc zero-le)) [
      | inl a ↦ ap (λ (o : Ordering). is_eq o || has says key es) a ∙ rest
      | inr b ↦ ap (λ (o : Ordering). is_eq o || has says key es) b ∙ rest
    ]

-- ---- from where a key was found

pub keys_length : (es : List Entry) → length (keys_in es) ≡ length es
unfolding keys_in
keys_length [] = refl
keys_length (e ∷ es) = ap suc (keys_length es)

module _ {says : Says} (itself : Itself says) (turned : Turned says) (key : List ℕ) (short : length key ≤ 16) (es : List Entry)
    (rising : Ascending says (keys_in es)) where
  ok-stands : (i : ℕ) → (i < length (keys_in es)) × (key_at (keys_in es) i ≡ key) → Stands says key es i Equal
  ok-stands i f =
      let l = keys_length es in
      record {
        within = omega (arith, f.0);
        above = λ j h.
            let sj : length (key_at (keys_in es) j) ≤ 16 = rising.short j (omega (arith, f.0)) in
            let less = rising.less j i h f.0 in
            (turned (key_at (keys_in es) j) key sj short).0 (subst (λ (k : List ℕ). says (key_at (keys_in es) j) k ≡ Less) f.1 less);
        at = λ h. ap (says key) f.1 ∙ itself key short;
      }

  err_stands : (i : ℕ) → Parted says (keys_in es) key i i → Stands says key es i Less
  err_stands i p =
      let l = keys_length es in
      record {
        within = omega (arith, p.within);
        above = λ j h.
            let w = p.within in
            (turned (key_at (keys_in es) j) key (rising.short j (omega arith)) short).0 (p.less j h);
        at = λ h.
            let w : i < length (keys_in es) = omega arith in
            (turned key (key_at (keys_in es) i) short (rising.short i w)).1 (p.greater i (omega arith) w);
      }

  pub parts-ok : (i : ℕ) → (i < length (keys_in es)) × (key_at (keys_in es) i ≡ key) → Parts says key es i (i + 1)
  unfolding spliced
  parts-ok i f e k =
      let l = keys_length es in
      let s = subst (λ (x : List ℕ). Stands says x es i Equal) (sym k) (ok-stands i f) in
      placed-over says e es i (omega (arith, f.0)) s ∙ ap (λ (j : ℕ). take i es ++ (e ∷ drop j es)) (sym (add-one i))

  pub parts_err : (i : ℕ) → Parted says (keys_in es) key i i → Parts says key es i i
  unfolding spliced
  parts_err i p e k = placed-new says e es i (subst (λ (x : List ℕ). Stands says x es i Less) (sym k) (err_stands i p))

  pub without-ok : (i : ℕ) → (i < length (keys_in es)) × (key_at (keys_in es) i ≡ key) → without says key es ≡ spliced es i [] (i + 1)
  unfolding spliced
  without-ok i f =
      let l = keys_length es in
      without_at says key es i (omega (arith, f.0)) (ok-stands i f) ∙ ap (λ (j : ℕ). take i es ++ drop j es) (sym (add-one i))

  pub has-ok : (i : ℕ) → (i < length (keys_in es)) × (key_at (keys_in es) i ≡ key) → has says key es ≡ true
  has-ok i f = let l = keys_length es in has-at says key es i (omega (arith, f.0)) (ok-stands i f)

  pub has_err : (i : ℕ) → Parted says (keys_in es) key i i → has says key es ≡ false
  has_err i p =
      has-none says key es (λ j h.
      let l = keys_length es in
      let w : j < length (keys_in es) = omega arith in
      elim (cases_lt j i) [
        | inl a ↦ inr ((turned (key_at (keys_in es) j) key (rising.short j w) short).0 (p.less j a))
        | inr b ↦ inl ((turned key (key_at (keys_in es) j) short (rising.short j w)).1 (p.greater j b w))
      ])
