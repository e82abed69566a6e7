-- What is written of a change's pages is what it makes of them.
use Rattle.std.proofs.Common.{◌≡◌, ℕ, suc, ◌<◌, Bool, true, false, cond, eqb, sym, refl, ap, ◌∙◌, arith}
use Rattle.std.proofs.lemmas.Bool.{cond_both, cond-true, cond-false, eq-eqb, ne_eqb}
use Rattle.order.specs.Lawful.{Says}
use Rattle.ranks.specs.Lists.{All}
use Rattle.tree.specs.Tree.{Image}
use Rattle.tree.specs.Log.{Change, Rec, Source, source, touched, make, Logged, append}
use Rattle.tree.specs.Log as log
use Rattle.tree.specs.Log.Change.{Format, Put, Remove, Foster, Adopt, Grow}
use Rattle.tree.specs.Log.Source.{Out, Earlier}
use Rattle.tree.specs.Plan.{linked, changed}
use Rattle.images.specs.Keys.{Key, Value, empty_key, keyed}
use Rattle.model.specs.Changes.{changed_pages}
use Rattle.media.proofs.Growth.{Taken}

-- the images that a change's pages are made of
abbrev pub OldIs : Logged Key Value → Change Key Value → (ℕ → Image Key Value) → Type 0
OldIs s c old = (p q n : ℕ) → source (linked s c) p ≡ Earlier q n → old p ≡ s.page q

-- those of each kind of change, as the store takes them
module _ (s : Logged Key Value) where
  -- a format makes its page of none
  pub format-alone : (p q n : ℕ) → source (linked s Format) p ≡ Earlier q n → ⊥
  format-alone p q n e = grind arith

  pub put-old : (p : ℕ) (k : Key) (v : Value) → OldIs s (Put p k v) (λ _. s.page p)
  put-old p k v q t n e = cond_both (eqb q p) _ Out (λ (y : Source). y ≡ Earlier t n → s.page p ≡ s.page t)
      (λ _ i. ap s.page (let u : p ≡ t = cc in u)) (λ _ i. let z : ◌≡◌ {A = ℕ} 0 1 = cc in absurd (omega arith)) e

  pub remove-old : (p : ℕ) (k : Key) → OldIs s (Remove p k) (λ _. s.page p)
  remove-old p k q t n e = cond_both (eqb q p) _ Out (λ (y : Source). y ≡ Earlier t n → s.page p ≡ s.page t)
      (λ _ i. ap s.page (let u : p ≡ t = cc in u)) (λ _ i. let z : ◌≡◌ {A = ℕ} 0 1 = cc in absurd (omega arith)) e

  pub foster-old : (p n : ℕ) (d : Key) → OldIs s (Foster p n d) (λ _. s.page p)
  foster-old p n d q t m e = cond_both (eqb q n) _ _ (λ (y : Source). y ≡ Earlier t m → s.page p ≡ s.page t)
      (λ _ i. ap s.page (let u : p ≡ t = cc in u))
      (λ _. cond_both (eqb q p) _ Out (λ (y : Source). y ≡ Earlier t m → s.page p ≡ s.page t)
      (λ _ i. ap s.page (let u : p ≡ t = cc in u)) (λ _ i. let z : ◌≡◌ {A = ℕ} 0 1 = cc in absurd (omega arith))) e

  pub adopt-old : (p q : ℕ) (k : Key) (c : ℕ) → OldIs s (Adopt p q k c) (λ t. cond (eqb t q) (s.page q) (s.page p))
  adopt-old p q k c t a n e = go (eqb t q) (eqb t p) e
    where
      go : (x y : Bool) → cond x (Earlier q (s.newest q)) (cond y (Earlier p (s.newest p)) Out) ≡ Earlier a n → cond x (s.page q) (s.page p) ≡ s.page a
      go true y i = ap s.page (let u : q ≡ a = cc in u)
      go false true i = ap s.page (let u : p ≡ a = cc in u)
      go false false i = let z : ◌≡◌ {A = ℕ} 0 1 = cc in absurd (omega arith)

  pub grow-old : (m : ℕ) → OldIs s (Grow m) (λ _. s.page 0)
  grow-old m t a n e = go (eqb t 0) (eqb t m) e
    where
      go : (x y : Bool) → cond x (Earlier 0 (s.newest 0)) (cond y (Earlier 0 (s.newest 0)) Out) ≡ Earlier a n → s.page 0 ≡ s.page a
      go true y i = ap s.page (let u : 0 ≡ a = cc in u)
      go false true i = ap s.page (let u : 0 ≡ a = cc in u)
      go false false i = let z : ◌≡◌ {A = ℕ} 0 1 = cc in absurd (omega arith)

-- what is written of a page is what the change makes of it
pub record WrittenWell (says : Says) (s : Logged Key Value) (c : Change Key Value) (x : Image Key Value) (p : ℕ) : Type 0 where
  pub is_born : p < (changed (keyed says) empty_key s c).born
  pub newest_is : (changed (keyed says) empty_key s c).newest p ≡ suc s.count
  pub page_is : make (keyed says) empty_key c p x ≡ (changed (keyed says) empty_key s c).page p

module _ (says : Says) (s : Logged Key Value) where
  -- for a record whose change is c
  earlier : (y : Rec Key Value) (p q n : ℕ) (x : Image Key Value) → source y p ≡ Earlier q n → x ≡ s.page q
      → ((append (keyed says) empty_key y s).newest p ≡ suc s.count) × (make (keyed says) empty_key y.change p x ≡ (append (keyed says) empty_key y s).page p)
  earlier y p q n x e o = (
    ap (λ z. touched z (suc s.count) (s.newest p)) e,
    ap (make (keyed says) empty_key y.change p) o ∙ sym (ap (log.made (keyed says) empty_key y.change p s.page) e),
  )

  at_one : (p q a : ℕ) → p ≡ q → cond (eqb p q) (Earlier q a) Out ≡ Earlier q a
  at_one p q a e = cond-true (eqb p q) (Earlier q a) Out (eq-eqb p q e)

  at_second : (p o q : ℕ) (x y : Source) → (p ≡ o → ⊥) → p ≡ q → cond (eqb p o) x (cond (eqb p q) y Out) ≡ y
  at_second p o q x y n e = cond-false (eqb p o) x (cond (eqb p q) y Out) (ne_eqb p o n) ∙ cond-true (eqb p q) y Out (eq-eqb p q e)

  pub changed-pages : (c : Change Key Value) (old : ℕ → Image Key Value) → Taken s.born c → OldIs s c old
      → All (λ p. WrittenWell says s c (old p) p) (changed_pages c)
  changed-pages Format old h was = (record { is_born = omega arith; newest_is = refl; page_is = refl }, tt)
  changed-pages (Put p k v) old h was =
      let f : source (linked s (Put p k v)) p ≡ Earlier p (s.newest p) = at_one p p (s.newest p) refl in
      let g = earlier (linked s (Put p k v)) p p (s.newest p) (old p) f (was p p (s.newest p) f) in
      (record { is_born = h; newest_is = g.0; page_is = g.1 }, tt)
  changed-pages (Remove p k) old h was =
      let f : source (linked {V = Value} s (Remove p k)) p ≡ Earlier p (s.newest p) = at_one p p (s.newest p) refl in
      let g = earlier (linked s (Remove p k)) p p (s.newest p) (old p) f (was p p (s.newest p) f) in
      (record { is_born = h; newest_is = g.0; page_is = g.1 }, tt)
  changed-pages (Foster p o d) old h was =
      let f : source (linked {V = Value} s (Foster p o d)) p ≡ Earlier p (s.newest p) = at_second p o p (Earlier p (s.newest p)) (Earlier p (s.newest p)) (λ e. omega (arith, h.0, h.1)) refl in
      let f' : source (linked {V = Value} s (Foster p o d)) o ≡ Earlier p (s.newest p) = cond-true (eqb o o) (Earlier p (s.newest p)) (cond (eqb o p) (Earlier p (s.newest p)) Out) (eq-eqb o o refl) in
      let g = earlier (linked s (Foster p o d)) p p (s.newest p) (old p) f (was p p (s.newest p) f) in
      let g' = earlier (linked s (Foster p o d)) o p (s.newest p) (old o) f' (was o p (s.newest p) f') in
      (record { is_born = omega (arith, h.0); newest_is = g.0; page_is = g.1 }, (record { is_born = omega (arith, h.1); newest_is = g'.0; page_is = g'.1 }, tt))
  changed-pages (Adopt p o k c) old h was =
      let f : source (linked {V = Value} s (Adopt p o k c)) p ≡ Earlier p (s.newest p) = at_second p o p (Earlier o (s.newest o)) (Earlier p (s.newest p)) h.3 refl in
      let f' : source (linked {V = Value} s (Adopt p o k c)) o ≡ Earlier o (s.newest o) = cond-true (eqb o o) (Earlier o (s.newest o)) (cond (eqb o p) (Earlier p (s.newest p)) Out) (eq-eqb o o refl) in
      let g = earlier (linked s (Adopt p o k c)) p p (s.newest p) (old p) f (was p p (s.newest p) f) in
      let g' = earlier (linked s (Adopt p o k c)) o o (s.newest o) (old o) f' (was o o (s.newest o) f') in
      (record { is_born = h.0; newest_is = g.0; page_is = g.1 }, (record { is_born = h.1; newest_is = g'.0; page_is = g'.1 }, tt))
  changed-pages (Grow o) old h was =
      let f : source (linked {K = Key} {V = Value} s (Grow o)) 0 ≡ Earlier 0 (s.newest 0) = refl in
      let f' : source (linked {K = Key} {V = Value} s (Grow o)) o ≡ Earlier 0 (s.newest 0) = at_second o 0 o (Earlier 0 (s.newest 0)) (Earlier 0 (s.newest 0)) (λ e. omega (arith, h.0, h.1)) refl in
      let g = earlier (linked s (Grow o)) 0 0 (s.newest 0) (old 0) f (was 0 0 (s.newest 0) f) in
      let g' = earlier (linked s (Grow o)) o 0 (s.newest 0) (old o) f' (was o 0 (s.newest 0) f') in
      (record { is_born = omega arith; newest_is = g.0; page_is = g.1 }, (record { is_born = omega (arith, h.1); newest_is = g'.0; page_is = g'.1 }, tt))
