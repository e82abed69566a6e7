-- What each kind of change makes of a neat page is neat.
use Rattle.std.proofs.Common.{◌≡◌, ℕ, suc, ◌<◌, List, [], ◌∷◌, refl, ap, arith}
use Rattle.std.proofs.Math.Dec.{compare_is_eq}
use Rattle.ranks.specs.Lists.{All}
use Rattle.tree.specs.Rows.{by, is_less, set, without, upto, from}
use Rattle.tree.specs.Tree.{Image, putting, removing, lower_image, upper_image, gaining_image, ceding_image, risen_image}
use Rattle.tree.specs.Log.{blank}
use Rattle.neat.specs.Neat.{Neat}
use Rattle.std.proofs.lemmas.Bool.{cond_both}

-- what holds of all entries of a row holds of all entries of what is made of it
module _ {K A : Type 0} (rank : K → ℕ) (P : K × A → Type 0) where
  pub all_set : (k : K) (a : A) (es : List (K × A)) → P (k, a) → All P es → All P (set (by rank) k a es)
  all_set k a [] p h = (p, tt)
  all_set k a (e ∷ es) p h =
      let r = all_set k a es p h.1 in
      cond_both (is_less (by rank e.0 k)) (e ∷ set (by rank) k a es) _ (All P)
      (λ _. (h.0, r))
      (λ _. cond_both (compare_is_eq (by rank k e.0)) ((k, a) ∷ es) ((k, a) ∷ e ∷ es) (All P) (λ _. (p, h.1)) (λ _. (p, h)))

  pub all_without : (k : K) (es : List (K × A)) → All P es → All P (without (by rank) k es)
  all_without k [] h = tt
  all_without k (e ∷ es) h =
      let r = all_without k es h.1 in
      cond_both (compare_is_eq (by rank k e.0)) (without (by rank) k es) (e ∷ without (by rank) k es) (All P) (λ _. r) (λ _. (h.0, r))

  pub all-upto : (d : K) (es : List (K × A)) → All P es → All P (upto (by rank) d es)
  all-upto d [] h = tt
  all-upto d (e ∷ es) h =
      let r = all-upto d es h.1 in
      cond_both (is_less (by rank e.0 d)) (e ∷ upto (by rank) d es) (upto (by rank) d es) (All P) (λ _. (h.0, r)) (λ _. r)

  pub all_from : (d : K) (es : List (K × A)) → All P es → All P (from (by rank) d es)
  all_from d [] h = tt
  all_from d (e ∷ es) h =
      let r = all_from d es h.1 in
      cond_both (is_less (by rank e.0 d)) (from (by rank) d es) (e ∷ from (by rank) d es) (All P) (λ _. r) (λ _. (h.0, r))

module _ {K V : Type 0} (rank : K → ℕ) (top : ℕ) (least : K) where
  pub blank-neat : Neat rank top least (blank {V = V} (by rank) least)
  blank-neat = record { leaf_kids = λ e. refl; branch_pairs = λ l e. refl; named = tt }

  pub put-neat : (x : Image K V) (k : K) (v : V) → x.frame.level ≡ 0 → rank least < rank k → Neat rank top least x
      → Neat rank top least (putting (by rank) least k v x)
  put-neat x k v z h n = record
      { leaf_kids = n.leaf_kids; branch_pairs = λ l e. absurd (omega arith); named = all_set rank _ k v x.pairs h n.named }

  pub remove-neat : (x : Image K V) (k : K) → Neat rank top least x → Neat rank top least (removing (by rank) least k x)
  remove-neat x k n = record
      { leaf_kids = n.leaf_kids; branch_pairs = λ l e. ap (without (by rank) k) (n.branch_pairs l e); named = all_without rank _ k x.pairs n.named }

  pub lower-neat : (x : Image K V) (d : K) (q : ℕ) → Neat rank top least x → Neat rank top least (lower_image (by rank) least d q x)
  lower-neat x d q n = record {
    leaf_kids = λ e. ap (upto (by rank) d) (n.leaf_kids e);
    branch_pairs = λ l e. ap (upto (by rank) d) (n.branch_pairs l e);
    named = all-upto rank _ d x.pairs n.named;
  }

  pub upper-neat : (x : Image K V) (d : K) → Neat rank top least x → Neat rank top least (upper_image (by rank) least d x)
  upper-neat x d n = record {
    leaf_kids = λ e. ap (from (by rank) d) (n.leaf_kids e);
    branch_pairs = λ l e. ap (from (by rank) d) (n.branch_pairs l e);
    named = all_from rank _ d x.pairs n.named;
  }

  pub gain_neat : (x : Image K V) (k : K) (c l : ℕ) → x.frame.level ≡ suc l → Neat rank top least x
      → Neat rank top least (gaining_image (by rank) least k c x)
  gain_neat x k c l s n = record { leaf_kids = λ e. absurd (omega arith); branch_pairs = n.branch_pairs; named = n.named }

  pub cede_neat : (x : Image K V) (k : K) → Neat rank top least x → Neat rank top least (ceding_image (by rank) least k x)
  cede_neat x k n = record { leaf_kids = n.leaf_kids; branch_pairs = n.branch_pairs; named = n.named }

  pub risen-neat : (x : Image K V) (q : ℕ) → Neat rank top least (risen_image (by rank) least q x)
  risen-neat x q = record { leaf_kids = λ e. absurd (omega arith); branch_pairs = λ l e. refl; named = tt }
