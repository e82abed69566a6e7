-- Where a full page divides.
use Rattle.std.specs.Prelude.{◌≡◌, ℕ, ◌+◌, ◌*◌, ◌<◌, ◌≤◌, Bool, true, false, cond, not, ◌&&◌, List, [], ◌∷◌, Some, None, Option, nat_le}
use Prim.Native.Nat.{Ordering}
use Rattle.std.proofs.Math.Dec.{compare_is_eq}
use Rattle.tree.specs.Rows.{find, upto, from, Ascends, by}
use Rattle.tree.specs.Tree.{Key}

module _ {K A : Type 0} (cost : K × A → ℕ) where
  abbrev pub total : List (K × A) → ℕ
  total [] = 0
  total (e ∷ es) = cost e + total es

  abbrev pub first_key : List (K × A) → Option K
  first_key [] = None
  first_key (e ∷ es) = Some e.0

  -- the key after the least number of first entries that cost, with n before, at least half of t
  abbrev pub key_after : ℕ → ℕ → List (K × A) → Option K
  key_after t n [] = None
  key_after t n (e ∷ es) = cond (nat_le t (2 * (n + cost e))) (first_key es) (key_after t (n + cost e) es)

  abbrev pub divider : List (K × A) → Option K
  divider es = key_after (total es) 0 es

  abbrev pub Cheap : ℕ → List (K × A) → Type 0
  Cheap m [] = Unit {0}
  Cheap m (e ∷ es) = (cost e ≤ m) × Cheap m es

abbrev pub some : {A : Type 0} → Option A → Bool
some None = false
some (Some a) = true

module _ {K : Type 0} (cmp : K → K → Ordering) where
  -- an entry of a row, and not the first
  abbrev pub divides_row : {A : Type 0} → K → List (K × A) → Bool
  divides_row k [] = false
  divides_row k (e ∷ es) = not (compare_is_eq (cmp k e.0)) && some (find cmp k es)

-- a row of entries of at most m divides inside, into two parts of at most about a half
pub record Divides {K A : Type 0} (rank : K → ℕ) (cost : K × A → ℕ) (m a b : ℕ) (es : List (K × A)) : Type 0 where
  pub key : K
  pub value : A
  pub is : divider cost es ≡ Some key
  pub above : a < rank key
  pub below : rank key < b
  pub entry : find (by rank) key es ≡ Some value
  pub inner : divides_row (by rank) key es ≡ true
  pub lower : 2 * total cost (upto (by rank) key es) < total cost es + 2 * m
  pub upper : 2 * total cost (from (by rank) key es) ≤ total cost es

abbrev pub PagesDivide : Type 0
PagesDivide = (rank : Key → ℕ) (cost : Key × List ℕ → ℕ) (m a b : ℕ) (es : List (Key × List ℕ)) → Ascends rank a es b → Cheap cost m es
    → 2 * m < total cost es → Divides rank cost m a b es
