-- Whether a key divides a page, by the slot at which it was found.
use Rattle.std.proofs.Common.{◌≡◌, ℕ, zero, suc, ◌<◌, ◌≤◌, Bool, false, not, ◌&&◌, List, [], ◌∷◌, length, get_or, Less, sym, refl, ap, ◌∙◌, subst, ap₂, arith}
use Rattle.std.specs.Ordering.{is_eq}
use Rattle.order.specs.Lawful.{Says, Itself, Turned}
use Rattle.order.specs.Slots.{key_at, Ascending, Parted}
use Rattle.page.specs.Content.{Entry, Content, entry_key, keys_in, entry_at}
use Rattle.page.specs.Content.Entry.{leaf}
use Rattle.page_edit.proofs.Placing.{keys_length, has-ok, has_err}
use Rattle.edits.specs.Suits.{is_first_key, divides}
use Rattle.redo.specs.Slots.{DividesAt}

first_key : (says : Says) (key : List ℕ) (es : List Entry) → 0 < length es → is_first_key says key es ≡ is_eq (says key (key_at (keys_in es) 0))
unfolding is_first_key keys_in
first_key says key [] h = absurd (omega arith)
first_key says key (e ∷ es) h = refl

key_in : (es : List Entry) (i : ℕ) → entry_key (get_or es i (leaf [] [])) ≡ key_at (keys_in es) i
unfolding keys_in entry_key
key_in [] i = refl
key_in (e ∷ es) zero = refl
key_in (e ∷ es) (suc i) = key_in es i

module _ {says : Says} (itself : Itself says) (turned : Turned says) (key : List ℕ) (short : length key ≤ 16) (c : Content)
    (rising : Ascending says (keys_in c.entries)) where
  pub divides_at : (i : ℕ) → (i < length (keys_in c.entries)) × (key_at (keys_in c.entries) i ≡ key) → 0 < i → DividesAt says key c i
  unfolding entry_at
  divides_at i f h =
      let es = c.entries in
      let l = keys_length es in
      let some : 0 < length es = omega (arith, f.0) in
      let first : length (key_at (keys_in es) 0) ≤ 16 = rising.short 0 (omega arith) in
      let less : says (key_at (keys_in es) 0) key ≡ Less = subst (λ (k : List ℕ). says (key_at (keys_in es) 0) k ≡ Less) f.1 (rising.less 0 i h f.0) in
      record {
        parts = ap₂ (λ (a b : Bool). a && not b) (has-ok itself turned key short es rising i f)
            (first_key says key es some ∙ ap is_eq ((turned (key_at (keys_in es) 0) key first short).0 less));
        within = omega (arith, f.0);
        has = key_in es i ∙ f.1;
      }

  pub first-not : (i : ℕ) → (i < length (keys_in c.entries)) × (key_at (keys_in c.entries) i ≡ key) → i ≡ 0 → divides says key c.entries ≡ false
  first-not i f z =
      let es = c.entries in
      let l = keys_length es in
      let some : 0 < length es = omega (arith, f.0) in
      let is : key_at (keys_in es) 0 ≡ key = ap (key_at (keys_in es)) (sym z) ∙ f.1 in
      ap₂ (λ (a b : Bool). a && not b) (has-ok itself turned key short es rising i f) (first_key says key es some ∙ ap is_eq (ap (says key) is ∙ itself key short))

  pub absent_not : (i : ℕ) → Parted says (keys_in c.entries) key i i → divides says key c.entries ≡ false
  absent_not i p = ap (λ (a : Bool). a && not (is_first_key says key c.entries)) (has_err itself turned key short c.entries rising i p)
