-- The index after a change: how many pages are born, and each page's newest position.
use Rattle.std.proofs.Common.{◌≡◌, ℕ, zero, suc, ◌<◌, ◌≤◌, Bool, true, false, cond, eqb, ltb, List, [], ◌∷◌, ◌++◌, length, set, sym, refl, ap, ◌∙◌, subst, arith}
use Rattle.std.proofs.lemmas.List.{length-set, length_push, get_or-set_same, get_or-set_other}
use Rattle.std.proofs.lemmas.Bool.{cond_both, cond-true, cond-false, ltb-true, ltb-false, lt-ltb, eqb-true, eqb-false, ne_eqb}
use Rattle.std.proofs.lemmas.Bool.Decides.{nat_tests}
use Rattle.order.specs.Lawful.{Says}
use Rattle.tree.specs.Log.{Change, Source, touched, Logged}
use Rattle.tree.specs.Log.Change.{Format, Put, Remove, Foster, Adopt, Grow}
use Rattle.tree.specs.Log.Source.{Out, Fresh, Earlier}
use Rattle.tree.specs.Plan.{changed}
use Rattle.images.specs.Keys.{Key, Value, empty_key, keyed}
use Rattle.model.specs.Worlds.{newest, raise, raised}
use Rattle.model.specs.Changes.{changed_pages}
use Rattle.media.proofs.Growth.{Taken}

-- A page of the index, or the one behind it, is raised.

raise-in : (n p : ℕ) (ix : List ℕ) → p < length ix → raise n p ix ≡ set ix p n
raise-in n p ix h = cond-true (ltb p (length ix)) (set ix p n) (ix ++ (n ∷ [])) (lt-ltb p (length ix) h)

raise_out : (n p : ℕ) (ix : List ℕ) → p ≡ length ix → raise n p ix ≡ ix ++ (n ∷ [])
raise_out n p ix h = cond-false (ltb p (length ix)) (set ix p n) (ix ++ (n ∷ [])) (grind (arith, nat_tests))

pub raise-length : (n p : ℕ) (ix : List ℕ) → p < length ix → length (raise n p ix) ≡ length ix
raise-length n p ix h = ap length (raise-in n p ix h) ∙ length-set ix p n

pub raise-length-born : (n p : ℕ) (ix : List ℕ) → p ≡ length ix → length (raise n p ix) ≡ suc (length ix)
raise-length-born n p ix h = ap length (raise_out n p ix h) ∙ omega (arith, length_push ix n)

set-newest : (n p : ℕ) (ix : List ℕ) → p < length ix → (q : ℕ) → newest (set ix p n) q ≡ cond (eqb q p) n (newest ix q)
set-newest n p ix h q = cond_both (eqb q p) n (newest ix q) (λ x. newest (set ix p n) q ≡ x)
    (λ t. subst (λ m. newest (set ix p n) m ≡ n) (sym (eqb-true q p t)) (get_or-set_same ix p n 0 h))
    (λ t. get_or-set_other ix p q n 0 (eqb-false q p t))

push_newest : (n : ℕ) (ix : List ℕ) (q : ℕ) → newest (ix ++ (n ∷ [])) q ≡ cond (eqb q (length ix)) n (newest ix q)
push_newest n [] zero = refl
push_newest n [] (suc q) = sym (cond-false (eqb (suc q) 0) n 0 (ne_eqb (suc q) 0 (λ e. omega arith)))
push_newest n (m ∷ ix) zero = sym (cond-false (eqb 0 (suc (length ix))) n m (ne_eqb 0 (suc (length ix)) (λ e. omega arith)))
push_newest n (m ∷ ix) (suc q) = push_newest n ix q ∙ ap (λ t. cond t n (newest ix q)) same
  where
    same : eqb q (length ix) ≡ eqb (suc q) (suc (length ix))
    same = grind (arith, nat_tests)

pub raise-newest : (n p : ℕ) (ix : List ℕ) → p ≤ length ix → (q : ℕ) → newest (raise n p ix) q ≡ cond (eqb q p) n (newest ix q)
raise-newest n p ix h q = go (ltb p (length ix)) refl
  where
    go : (t : Bool) → ltb p (length ix) ≡ t → newest (raise n p ix) q ≡ cond (eqb q p) n (newest ix q)
    go true e = let lt = ltb-true p (length ix) e in ap (λ l. newest l q) (raise-in n p ix lt) ∙ set-newest n p ix lt q
    go false e =
        let at : p ≡ length ix = omega (arith, ltb-false p (length ix) e) in
        ap (λ l. newest l q) (raise_out n p ix at) ∙ push_newest n ix q ∙ ap (λ m. cond (eqb q m) n (newest ix q)) (sym at)

-- one page is raised, or two
one : (t : Bool) (x : Source) (n old : ℕ) → touched x n old ≡ n → cond t n old ≡ touched (cond t x Out) n old
one true x n old e = sym e
one false x n old e = refl

two : (t u : Bool) (x y : Source) (n old : ℕ) → touched x n old ≡ n → touched y n old ≡ n → cond t n (cond u n old) ≡ touched (cond t x (cond u y Out)) n old
two true u x y n old e f = sym e
two false true x y n old e f = sym f
two false false x y n old e f = refl

two-turned : (t u : Bool) (x y : Source) (n old : ℕ) → touched x n old ≡ n → touched y n old ≡ n → cond t n (cond u n old) ≡ touched (cond u x (cond t y Out)) n old
two-turned true true x y n old e f = sym e
two-turned true false x y n old e f = sym f
two-turned false true x y n old e f = sym e
two-turned false false x y n old e f = refl

pair_newest : (n p o : ℕ) (ix : List ℕ) → p < length ix → o ≤ length ix → (q : ℕ)
    → newest (raised n (p ∷ o ∷ []) ix) q ≡ cond (eqb q o) n (cond (eqb q p) n (newest ix q))
pair_newest n p o ix h g q =
    let m : o ≤ length (raise n p ix) = omega (arith, raise-length n p ix h) in
    raise-newest n o (raise n p ix) m q ∙ ap (λ x. cond (eqb q o) n x) (raise-newest n p ix (omega arith) q)

pair_length : (n p o : ℕ) (ix : List ℕ) → p < length ix → o < length ix → length (raised n (p ∷ o ∷ []) ix) ≡ length ix
pair_length n p o ix h g = raise-length n o (raise n p ix) (omega (arith, raise-length n p ix h)) ∙ raise-length n p ix h

pair_length_born : (n p o : ℕ) (ix : List ℕ) → p < length ix → o ≡ length ix → length (raised n (p ∷ o ∷ []) ix) ≡ suc (length ix)
pair_length_born n p o ix h g = raise-length-born n o (raise n p ix) (omega (arith, raise-length n p ix h)) ∙ ap suc (raise-length n p ix h)

module _ (says : Says) where
  -- the index after a change, and the log's
  pub index-after : (s : Logged Key Value) (c : Change Key Value) (ix : List ℕ) → Taken s.born c → length ix ≡ s.born
      → ((p : ℕ) → newest ix p ≡ s.newest p)
      → (length (raised (suc s.count) (changed_pages c) ix) ≡ (changed (keyed says) empty_key s c).born)
      × ((p : ℕ) → newest (raised (suc s.count) (changed_pages c) ix) p ≡ (changed (keyed says) empty_key s c).newest p)
  index-after s Format ix turn long new = (
    raise-length-born (suc s.count) 0 ix (omega arith) ∙ ap suc long,
    λ q. raise-newest (suc s.count) 0 ix (omega arith) q
        ∙ ap (λ x. cond (eqb q 0) (suc s.count) x) (new q) ∙ one (eqb q 0) Fresh (suc s.count) (s.newest q) refl,
  )
  index-after s (Put p k v) ix turn long new = (
    raise-length (suc s.count) p ix (omega arith) ∙ long,
    λ q. raise-newest (suc s.count) p ix (omega arith) q
        ∙ ap (λ x. cond (eqb q p) (suc s.count) x) (new q) ∙ one (eqb q p) (Earlier p (s.newest p)) (suc s.count) (s.newest q) refl,
  )
  index-after s (Remove p k) ix turn long new = (
    raise-length (suc s.count) p ix (omega arith) ∙ long,
    λ q. raise-newest (suc s.count) p ix (omega arith) q
        ∙ ap (λ x. cond (eqb q p) (suc s.count) x) (new q) ∙ one (eqb q p) (Earlier p (s.newest p)) (suc s.count) (s.newest q) refl,
  )
  index-after s (Foster p o d) ix turn long new = (
    pair_length_born (suc s.count) p o ix (omega (arith, turn.0)) (omega (arith, turn.1)) ∙ ap suc long,
    λ q. pair_newest (suc s.count) p o ix (omega (arith, turn.0)) (omega (arith, turn.1)) q
        ∙ ap (λ x. cond (eqb q o) (suc s.count) (cond (eqb q p) (suc s.count) x)) (new q)
        ∙ two (eqb q o) (eqb q p) (Earlier p (s.newest p)) (Earlier p (s.newest p)) (suc s.count) (s.newest q) refl refl,
  )
  index-after s (Adopt p o k c) ix turn long new = (
    pair_length (suc s.count) p o ix (omega (arith, turn.0)) (omega (arith, turn.1)) ∙ long,
    λ q. pair_newest (suc s.count) p o ix (omega (arith, turn.0)) (omega (arith, turn.1)) q
        ∙ ap (λ x. cond (eqb q o) (suc s.count) (cond (eqb q p) (suc s.count) x)) (new q)
        ∙ two (eqb q o) (eqb q p) (Earlier o (s.newest o)) (Earlier p (s.newest p)) (suc s.count) (s.newest q) refl refl,
  )
  index-after s (Grow o) ix turn long new = (
    pair_length_born (suc s.count) 0 o ix (omega (arith, turn.0)) (omega (arith, turn.1)) ∙ ap suc long,
    λ q. pair_newest (suc s.count) 0 o ix (omega (arith, turn.0)) (omega (arith, turn.1)) q
        ∙ ap (λ x. cond (eqb q o) (suc s.count) (cond (eqb q 0) (suc s.count) x)) (new q)
        ∙ two-turned (eqb q o) (eqb q 0) (Earlier 0 (s.newest 0)) (Earlier 0 (s.newest 0)) (suc s.count) (s.newest q) refl refl,
  )
