-- Rows of entries in key order: what a page's entries are. Keys are compared by an order.
use Rattle.std.specs.Prelude.{ℕ, suc, ◌<◌, ◌≤◌, Bool, true, false, cond, List, [], ◌∷◌, Some, None, Option}
use Prim.Native.Nat.{compare, Ordering}
use Rattle.std.proofs.Math.Dec.{is_le, compare_is_eq}

abbrev pub is_less : Ordering → Bool
is_less Ordering.lt = true
is_less Ordering.eq = false
is_less Ordering.gt = false

-- the order of keys that have ranks
abbrev pub by : {K : Type 0} → (K → ℕ) → K → K → Ordering
by rank j k = compare (rank j) (rank k)

module _ {K A : Type 0} (cmp : K → K → Ordering) where
  -- the value beside a key
  abbrev pub find : K → List (K × A) → Option A
  find k [] = None
  find k (e ∷ es) = cond (compare_is_eq (cmp k e.0)) (Some e.1) (find k es)

  -- the entries below a key, and those from it on
  abbrev pub upto : K → List (K × A) → List (K × A)
  upto d [] = []
  upto d (e ∷ es) = cond (is_less (cmp e.0 d)) (e ∷ upto d es) (upto d es)

  abbrev pub from : K → List (K × A) → List (K × A)
  from d [] = []
  from d (e ∷ es) = cond (is_less (cmp e.0 d)) (from d es) (e ∷ from d es)

  -- a key gets a value; a key goes
  abbrev pub set : K → A → List (K × A) → List (K × A)
  set k a [] = (k, a) ∷ []
  set k a (e ∷ es) =
      cond (is_less (cmp e.0 k)) (e ∷ set k a es)
      (cond (compare_is_eq (cmp k e.0)) ((k, a) ∷ es) ((k, a) ∷ e ∷ es))

  abbrev pub without : K → List (K × A) → List (K × A)
  without k [] = []
  without k (e ∷ es) = cond (compare_is_eq (cmp k e.0)) (without k es) (e ∷ without k es)

  -- the last entry not above a key, else d; and the first key above it, else u
  abbrev pub floor : K → K × A → List (K × A) → K × A
  floor k d [] = d
  floor k d (e ∷ es) = cond (is_le (cmp e.0 k)) (floor k e es) d

  abbrev pub ceil : K → List (K × A) → Option K → Option K
  ceil k [] u = u
  ceil k (e ∷ es) u = cond (is_le (cmp e.0 k)) (ceil k es u) (Some e.0)

  -- the first entry above a key
  abbrev pub above : K → List (K × A) → Option (K × A)
  above k [] = None
  above k (e ∷ es) = cond (is_less (cmp k e.0)) (Some e) (above k es)

module _ {K A : Type 0} (rank : K → ℕ) where
  -- keys ascend, from a rank on and below another
  abbrev pub Ascends : ℕ → List (K × A) → ℕ → Type 0
  Ascends a [] b = Unit {0}
  Ascends a (e ∷ es) b = (a ≤ rank e.0) × (rank e.0 < b) × Ascends (suc (rank e.0)) es b
