-- What holds of all entries of a row, and what a row costs, after a change; by any order at all.
use Rattle.std.proofs.Common.{ℕ, ◌+◌, ◌≤◌, List, [], ◌∷◌, arith}
use Prim.Native.Nat.{Ordering}
use Rattle.std.proofs.Math.Dec.{compare_is_eq}
use Rattle.std.proofs.lemmas.Bool.{cond_both}
use Rattle.ranks.specs.Lists.{All}
use Rattle.tree.specs.Rows.{set, without, upto, from, is_less}
use Rattle.tree.specs.Halves.{total}

module _ {K A : Type 0} (cmp : K → K → Ordering) (P : K × A → Type 0) where
  pub all_set : (k : K) (a : A) (es : List (K × A)) → P (k, a) → All P es → All P (set cmp k a es)
  all_set k a [] p h = (p, tt)
  all_set k a (e ∷ es) p h =
      let r = all_set k a es p h.1 in
      cond_both (is_less (cmp e.0 k)) (e ∷ set cmp k a es) _ (All P)
      (λ _. (h.0, r))
      (λ _. cond_both (compare_is_eq (cmp k e.0)) ((k, a) ∷ es) ((k, a) ∷ e ∷ es) (All P) (λ _. (p, h.1)) (λ _. (p, h)))

  pub all_without : (k : K) (es : List (K × A)) → All P es → All P (without cmp k es)
  all_without k [] h = tt
  all_without k (e ∷ es) h =
      let r = all_without k es h.1 in
      cond_both (compare_is_eq (cmp k e.0)) (without cmp k es) (e ∷ without cmp k es) (All P) (λ _. r) (λ _. (h.0, r))

  pub all-upto : (d : K) (es : List (K × A)) → All P es → All P (upto cmp d es)
  all-upto d [] h = tt
  all-upto d (e ∷ es) h =
      let r = all-upto d es h.1 in
      cond_both (is_less (cmp e.0 d)) (e ∷ upto cmp d es) (upto cmp d es) (All P) (λ _. (h.0, r)) (λ _. r)

  pub all_from : (d : K) (es : List (K × A)) → All P es → All P (from cmp d es)
  all_from d [] h = tt
  all_from d (e ∷ es) h =
      let r = all_from d es h.1 in
      cond_both (is_less (cmp e.0 d)) (from cmp d es) (e ∷ from cmp d es) (All P) (λ _. r) (λ _. (h.0, r))

module _ {K A : Type 0} (cmp : K → K → Ordering) (cost : K × A → ℕ) where
  pub without-costs : (k : K) (es : List (K × A)) → total cost (without cmp k es) ≤ total cost es
  without-costs k [] = omega arith
  without-costs k (e ∷ es) =
      let r = without-costs k es in
      cond_both (compare_is_eq (cmp k e.0)) (without cmp k es) (e ∷ without cmp k es) (λ z. total cost z ≤ cost e + total cost es)
      (λ _. omega arith) (λ _. omega arith)

  pub upto-costs : (d : K) (es : List (K × A)) → total cost (upto cmp d es) ≤ total cost es
  upto-costs d [] = omega arith
  upto-costs d (e ∷ es) =
      let r = upto-costs d es in
      cond_both (is_less (cmp e.0 d)) (e ∷ upto cmp d es) (upto cmp d es) (λ z. total cost z ≤ cost e + total cost es)
      (λ _. omega arith) (λ _. omega arith)

  pub from-costs : (d : K) (es : List (K × A)) → total cost (from cmp d es) ≤ total cost es
  from-costs d [] = omega arith
  from-costs d (e ∷ es) =
      let r = from-costs d es in
      cond_both (is_less (cmp e.0 d)) (from cmp d es) (e ∷ from cmp d es) (λ z. total cost z ≤ cost e + total cost es)
      (λ _. omega arith) (λ _. omega arith)
