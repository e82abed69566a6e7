-- A row of the tree written as entries: what page_edit does with the entries is what the tree does with the row.
use Rattle.std.proofs.Common.{◌≡◌, ℕ, suc, ◌+◌, ◌*◌, ◌<◌, ◌≤◌, Bool, true, false, cond, not, ◌&&◌, ◌||◌, leb, List, [], ◌∷◌, length, get_or, Some, None, Option, Ordering, Less, Equal, Greater, sym, refl, ap, ◌∙◌, subst, arith}
use mathlib.Core.Path.{fun_ext}
use Prim.Native.Nat.{compare}
use Rattle.std.proofs.Math.Dec as dec
use Rattle.std.specs.Ordering.{is_eq, is_lt, is_le}
use Rattle.order.specs.Lawful.{Says}
use Rattle.page.specs.Content.{Entry, entry_key, cost, costs}
use Rattle.page.specs.Content.Entry.{leaf, branch}
use Rattle.page_edit.specs.Edits as edit
use Rattle.page_edit.specs.Edits.{placed_at, placed, below, has, halfway, first_half}
use Rattle.tree.specs.Rows.{find, upto, from, set, without, Ascends, by}
use Rattle.tree.specs.Rows as row
use Rattle.tree.specs.Halves.{total, first_key, key_after, divider, some, divides_row}
use Rattle.tree.proofs.Rows.{upto-none, from_all}
use Rattle.images.specs.Keys.{Key, Value, number, keyed}
use Rattle.images.specs.Images.{leaves, branches}
use Rattle.images.specs.Laws.{Ranked}
use Rattle.edits.specs.Suits.{is_first_key, divides}

-- the tests of an order are those of its numbers
pub eq-told : (o : Ordering) → dec.compare_is_eq (number o) ≡ is_eq o
eq-told Less = refl
eq-told Equal = refl
eq-told Greater = refl

pub lt-told : (o : Ordering) → row.is_less (number o) ≡ is_lt o
lt-told Less = refl
lt-told Equal = refl
lt-told Greater = refl

pub le-told : (o : Ordering) → dec.is_le (number o) ≡ is_le o
le-told Less = refl
le-told Equal = refl
le-told Greater = refl

-- a row written as entries
pub written : {A : Type 0} → (Key × A → Entry) → List (Key × A) → List Entry
written mk [] = []
written mk (e ∷ es) = mk e ∷ written mk es

unfoldable pub leaf_of : Key × Value → Entry
leaf_of e = leaf e.0.bytes e.1.bytes

unfoldable pub branch_of : Key × ℕ → Entry
branch_of e = branch e.0.bytes e.1

leaves_at : (es : List (Key × Value)) → written leaf_of es ≡ leaves es
unfolding written leaf_of leaves
leaves_at [] = refl
leaves_at (e ∷ es) = ap (λ (l : List Entry). leaf e.0.bytes e.1.bytes ∷ l) (leaves_at es)

pub leaves_are : written leaf_of ≡ leaves
leaves_are = fun_ext leaves_at

branches_at : (es : List (Key × ℕ)) → written branch_of es ≡ branches es
unfolding written branch_of branches
branches_at [] = refl
branches_at (e ∷ es) = ap (λ (l : List Entry). branch e.0.bytes e.1 ∷ l) (branches_at es)

pub branches_are : written branch_of ≡ branches
branches_are = fun_ext branches_at

module _ {A : Type 0} (rank : Key → ℕ) where
  without-none : (k : Key) (a b : ℕ) (es : List (Key × A)) → Ascends rank a es b → rank k < a → without (by rank) k es ≡ es
  without-none k a b [] n h = refl
  without-none k a b (e ∷ es) n h = let t = without-none k (suc (rank e.0)) b es n.2 (omega arith) in grind arith

module _ {A : Type 0} (mk : Key × A → Entry) (at : (e : Key × A) → entry_key (mk e) ≡ e.0.bytes) (says : Says) (r : Ranked says) where
  told : (j k : Key) (a : List ℕ) (b : List ℕ) → a ≡ j.bytes → b ≡ k.bytes → number (says a b) ≡ compare (r.rank j) (r.rank k)
  told j k a b e f = ap (λ (s : List ℕ). number (says s b)) e ∙ ap (λ (s : List ℕ). number (says j.bytes s)) f ∙ (λ i. r.told i j k)

  placed_by : (k : Key) (a : A) (es : List (Key × A)) → written mk (set (by r.rank) k a es) ≡ placed says (mk (k, a)) (written mk es)
  unfolding written placed placed_at
  placed_by k a [] = refl
  placed_by k a (e ∷ es) =
      go (says (entry_key (mk (k, a))) (entry_key (mk e))) (told k e.0 _ _ (at (k, a)) (at e)) (placed_by k a es)
    where
      go : (o : Ordering) → number o ≡ compare (r.rank k) (r.rank e.0)
          → written mk (set (by r.rank) k a es) ≡ placed says (mk (k, a)) (written mk es)
          → written mk (set (by r.rank) k a (e ∷ es)) ≡ placed_at o (mk (k, a)) (mk e) (written mk es) (placed says (mk (k, a)) (written mk es))
      go Less t h = grind arith
      go Equal t h = grind arith
      go Greater t h = grind arith

  pub placed-is : (k : Key) (a : A) (es : List (Key × A)) → written mk (set (keyed says) k a es) ≡ placed says (mk (k, a)) (written mk es)
  placed-is k a es = subst (λ c. written mk (set c k a es) ≡ placed says (mk (k, a)) (written mk es)) (sym r.told) (placed_by k a es)

  without-by : (k : Key) (a b : ℕ) (es : List (Key × A)) → Ascends r.rank a es b
      → written mk (without (by r.rank) k es) ≡ edit.without says k.bytes (written mk es)
  unfolding written edit.without
  without-by k a b [] n = refl
  without-by k a b (e ∷ es) n =
      go (says k.bytes (entry_key (mk e))) (told k e.0 _ _ refl (at e)) (without-by k (suc (r.rank e.0)) b es n.2)
      (without-none r.rank k (suc (r.rank e.0)) b es n.2)
    where
      go : (o : Ordering) → number o ≡ compare (r.rank k) (r.rank e.0)
          → written mk (without (by r.rank) k es) ≡ edit.without says k.bytes (written mk es)
          → (r.rank k < suc (r.rank e.0) → without (by r.rank) k es ≡ es)
          → written mk (without (by r.rank) k (e ∷ es)) ≡ cond (is_eq o) (written mk es) (mk e ∷ edit.without says k.bytes (written mk es))
      go Less t h w = grind arith
      go Equal t h w = grind arith
      go Greater t h w = grind arith

  pub without_is : (k : Key) (a b : ℕ) (es : List (Key × A)) → Ascends r.rank a es b
      → written mk (without (keyed says) k es) ≡ edit.without says k.bytes (written mk es)
  without_is k a b es n =
      subst (λ c. written mk (without c k es) ≡ edit.without says k.bytes (written mk es)) (sym r.told) (without-by k a b es n)

  below_by : (d : Key) (a b : ℕ) (es : List (Key × A)) → Ascends r.rank a es b
      → written mk (upto (by r.rank) d es) ≡ below says d.bytes (written mk es)
  unfolding written below
  below_by d a b [] n = refl
  below_by d a b (e ∷ es) n =
      go (says (entry_key (mk e)) d.bytes) (told e.0 d _ _ (at e) refl) (below_by d (suc (r.rank e.0)) b es n.2)
      (upto-none r.rank d (suc (r.rank e.0)) b es n.2)
    where
      go : (o : Ordering) → number o ≡ compare (r.rank e.0) (r.rank d)
          → written mk (upto (by r.rank) d es) ≡ below says d.bytes (written mk es)
          → (r.rank d ≤ suc (r.rank e.0) → upto (by r.rank) d es ≡ [])
          → written mk (upto (by r.rank) d (e ∷ es)) ≡ cond (is_lt o) (mk e ∷ below says d.bytes (written mk es)) []
      go Less t h w = grind arith
      go Equal t h w = grind arith
      go Greater t h w = grind arith

  pub below_is : (d : Key) (a b : ℕ) (es : List (Key × A)) → Ascends r.rank a es b
      → written mk (upto (keyed says) d es) ≡ below says d.bytes (written mk es)
  below_is d a b es n = subst (λ c. written mk (upto c d es) ≡ below says d.bytes (written mk es)) (sym r.told) (below_by d a b es n)

  from-by : (d : Key) (a b : ℕ) (es : List (Key × A)) → Ascends r.rank a es b
      → written mk (from (by r.rank) d es) ≡ edit.from says d.bytes (written mk es)
  unfolding written edit.from
  from-by d a b [] n = refl
  from-by d a b (e ∷ es) n =
      go (says (entry_key (mk e)) d.bytes) (told e.0 d _ _ (at e) refl) (from-by d (suc (r.rank e.0)) b es n.2)
      (from_all r.rank d (suc (r.rank e.0)) b es n.2)
    where
      go : (o : Ordering) → number o ≡ compare (r.rank e.0) (r.rank d)
          → written mk (from (by r.rank) d es) ≡ edit.from says d.bytes (written mk es)
          → (r.rank d ≤ suc (r.rank e.0) → from (by r.rank) d es ≡ es)
          → written mk (from (by r.rank) d (e ∷ es)) ≡ cond (is_lt o) (edit.from says d.bytes (written mk es)) (mk e ∷ written mk es)
      go Less t h w = grind arith
      go Equal t h w = grind arith
      go Greater t h w = grind arith

  pub from_is : (d : Key) (a b : ℕ) (es : List (Key × A)) → Ascends r.rank a es b
      → written mk (from (keyed says) d es) ≡ edit.from says d.bytes (written mk es)
  from_is d a b es n = subst (λ c. written mk (from c d es) ≡ edit.from says d.bytes (written mk es)) (sym r.told) (from-by d a b es n)

-- What needs no order.

-- the entry at a number has a key, or there is none
pub record After (es : List Entry) (i : ℕ) (d : Option Key) : Type 0 where
  pub key : (k : Key) → d ≡ Some k → (i < length es) × (entry_key (get_or es i (leaf [] [])) ≡ k.bytes)
  pub none : d ≡ None → length es ≤ i

no_key : {k : Key} → ◌≡◌ {A = Option Key} None (Some k) → ⊥
no_key e = let z : ◌≡◌ {A = ℕ} 0 1 = cc in omega arith

one_key : {j k : Key} → ◌≡◌ {A = Option Key} (Some j) (Some k) → j ≡ k
one_key e = cc

module _ {A : Type 0} (mk : Key × A → Entry) (at : (e : Key × A) → entry_key (mk e) ≡ e.0.bytes) where
  module _ (says : Says) where
    eq-at : (k : Key) (e : Key × A) → dec.compare_is_eq (keyed says k e.0) ≡ is_eq (says k.bytes (entry_key (mk e)))
    eq-at k e = eq-told (says k.bytes e.0.bytes) ∙ ap (λ (s : List ℕ). is_eq (says k.bytes s)) (sym (at e))

    pub has-is : (k : Key) (es : List (Key × A)) → has says k.bytes (written mk es) ≡ some (find (keyed says) k es)
    unfolding written has
    has-is k [] = refl
    has-is k (e ∷ es) =
        ap (λ (b : Bool). b || has says k.bytes (written mk es)) (sym (eq-at k e)) ∙ go (dec.compare_is_eq (keyed says k e.0)) (has-is k es)
      where
        go : (b : Bool) → has says k.bytes (written mk es) ≡ some (find (keyed says) k es)
            → (b || has says k.bytes (written mk es)) ≡ some (cond b (Some e.1) (find (keyed says) k es))
        go true h = refl
        go false h = h

    pub divides-is : (k : Key) (es : List (Key × A)) → divides says k.bytes (written mk es) ≡ divides_row (keyed says) k es
    unfolding written has is_first_key
    divides-is k [] = refl
    divides-is k (e ∷ es) =
        ap (λ (b : Bool). (b || has says k.bytes (written mk es)) && not b) (sym (eq-at k e))
        ∙ go (dec.compare_is_eq (keyed says k e.0)) (has says k.bytes (written mk es)) ∙ ap (λ (b : Bool). not (dec.compare_is_eq (keyed says k e.0)) && b) (has-is k es)
      where
        go : (b h : Bool) → ((b || h) && not b) ≡ (not b && h)
        go true true = refl
        go true false = refl
        go false true = refl
        go false false = refl

  module _ (c : Key × A → ℕ) (same : (e : Key × A) → cost (mk e) ≡ c e) where
    pub costs_are : (es : List (Key × A)) → costs (written mk es) ≡ total c es
    unfolding written costs
    costs_are [] = refl
    costs_are (e ∷ es) = let t = costs_are es in let s = same e in omega arith

    after_first : (es : List (Key × A)) (e : Entry) → After (e ∷ written mk es) 1 (first_key c es)
    unfolding written
    after_first [] e = record { key = λ k z. absurd (no_key z); none = λ z. omega arith }
    after_first (f ∷ es) e = record { key = λ k z. (omega arith, at f ∙ ap (λ (j : Key). j.bytes) (one_key z)); none = λ z. absurd (no_key (sym z)) }

    after_more : (e : Entry) (es : List Entry) (i : ℕ) (d : Option Key) → After es i d → After (e ∷ es) (suc i) d
    after_more e es i d h = record {
      key = λ k z. let g = h.key k z in (omega (arith, g.0), g.1);
      none = λ z. let g = h.none z in omega arith;
    }

    after_is : (t n : ℕ) (es : List (Key × A)) → After (written mk es) (halfway t n (written mk es)) (key_after c t n es)
    unfolding written halfway
    after_is t n [] = record { key = λ k z. absurd (no_key z); none = λ z. omega arith }
    after_is t n (e ∷ es) =
        let s : cost (mk e) ≡ c e = same e in
        subst (λ (m : ℕ). After (mk e ∷ written mk es) (cond (leb t (2 * (n + m))) 1 (suc (halfway t (n + m) (written mk es)))) (key_after c t n (e ∷ es)))
        (sym s) (go (leb t (2 * (n + c e))) (after_is t (n + c e) es))
      where
        go : (b : Bool) → After (written mk es) (halfway t (n + c e) (written mk es)) (key_after c t (n + c e) es)
            → After (mk e ∷ written mk es) (cond b 1 (suc (halfway t (n + c e) (written mk es)))) (cond b (first_key c es) (key_after c t (n + c e) es))
        go true h = after_first es (mk e)
        go false h = after_more (mk e) (written mk es) (halfway t (n + c e) (written mk es)) (key_after c t (n + c e) es) h

    pub divider-is : (es : List (Key × A)) → After (written mk es) (first_half (written mk es)) (divider c es)
    unfolding first_half
    divider-is es =
        subst (λ (t : ℕ). After (written mk es) (halfway t 0 (written mk es)) (divider c es)) (sym (costs_are es)) (after_is (total c es) 0 es)
