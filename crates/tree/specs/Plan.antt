-- What a call appends: the changes that a put, a remove and a tend plan, in their order.
use Rattle.std.specs.Prelude.{◌≡◌, ℕ, zero, suc, ◌<◌, ◌≤◌, cond, List, [], ◌∷◌, Some, None, Option, nat_le, nat_lt}
use Prim.Native.Nat.{Ordering}
use Rattle.tree.specs.Rows.{set, by, is_less}
use Rattle.tree.specs.Tree.{Ranking, Sound, Key, Holds, kid}
use Rattle.tree.specs.Log.{Change, Rec, Logged, append, tree, May}
use Rattle.tree.specs.Log.Change.{Format, Put, Remove, Foster, Adopt, Grow}
use Rattle.tree.specs.Halves.{total, divider, Cheap}

-- a change as a record: with its pages' newest positions
abbrev pub linked_by : {K V : Type 0} → (ℕ → ℕ) → Change K V → Rec K V
linked_by newest Format = record { change = Format; prev = 0; prev_other = 0 }
linked_by newest (Put p k v) = record { change = Put p k v; prev = newest p; prev_other = 0 }
linked_by newest (Remove p k) = record { change = Remove p k; prev = newest p; prev_other = 0 }
linked_by newest (Foster p o d) = record { change = Foster p o d; prev = newest p; prev_other = 0 }
linked_by newest (Adopt p o k c) = record { change = Adopt p o k c; prev = newest p; prev_other = newest o }
linked_by newest (Grow o) = record { change = Grow o; prev = newest 0; prev_other = 0 }

abbrev pub linked : {K V : Type 0} → Logged K V → Change K V → Rec K V
linked s c = linked_by s.newest c

module _ {K V : Type 0} (cmp : K → K → Ordering) (least : K) where
  abbrev pub changed : Logged K V → Change K V → Logged K V
  changed s c = append cmp least (linked s c) s

  abbrev pub changes : Logged K V → List (Change K V) → Logged K V
  changes s [] = s
  changes s (c ∷ cs) = changes (changed s c) cs

-- the records of some changes, one after another
abbrev pub all_linked : {K V : Type 0} → (K → K → Ordering) → K → Logged K V → List (Change K V) → List (Rec K V)
all_linked cmp least s [] = []
all_linked cmp least s (c ∷ cs) = linked s c ∷ all_linked cmp least (changed cmp least s c) cs

-- the first of some changes
pub data Begins {K V : Type 0} : List (Change K V) → List (Change K V) → Type 0 where
  nothing : {cs : List (Change K V)} → Begins [] cs
  more : {c : Change K V} {bs cs : List (Change K V)} → Begins bs cs → Begins (c ∷ bs) (c ∷ cs)

module _ {K V : Type 0} (cmp : K → K → Ordering) (pair_cost : K × V → ℕ) (kid_cost : K × ℕ → ℕ) where
  -- a put at leaf p: into it if the entry fits, or into the part of it that has the key
  abbrev pub put_divided : ℕ → ℕ → K → V → Option K → List (Change K V)
  put_divided p born k v None = Put p k v ∷ []
  put_divided p born k v (Some d) = Foster p born d ∷ Put (cond (is_less (cmp k d)) p born) k v ∷ []

  abbrev pub planned_put : Logged K V → ℕ → K → V → List (Change K V)
  planned_put s p k v =
      cond (nat_le (total pair_cost (set cmp k v (s.page p).pairs)) 436) (Put p k v ∷ []) (put_divided p s.born k v (divider pair_cost (s.page p).pairs))

  -- the first step due on a key's way: at a branch p, of its child c
  abbrev pub divided_branch : ℕ → ℕ → Option K → List (Change K V)
  divided_branch p born None = []
  divided_branch p born (Some d) = Foster p born d ∷ []

  abbrev pub step_at : Logged K V → ℕ → ℕ → K × ℕ → List (Change K V)
  step_at s p c f = cond (nat_le (total kid_cost (set cmp f.0 f.1 (s.page p).frame.kids)) 436) (Adopt p c f.0 f.1 ∷ [])
      (divided_branch p s.born (divider kid_cost (s.page p).frame.kids))

  abbrev pub step_else : Logged K V → ℕ → ℕ → List (Change K V) → Option (K × ℕ) → List (Change K V)
  step_else s p c below None = below
  step_else s p c below (Some f) = step_at s p c f

  -- from page p down, whose level is l
  abbrev pub steps_under : Logged K V → K → ℕ → ℕ → List (Change K V)
  steps_under s k zero p = []
  steps_under s k (suc l) p = let c : ℕ = (kid cmp (s.page p).frame k).1 in
      step_else s p c (steps_under s k l c) (s.page c).frame.foster

  abbrev pub rootwards : Logged K V → K → Option (K × ℕ) → List (Change K V)
  rootwards s k None = steps_under s k (s.page 0).frame.level 0
  rootwards s k (Some f) = cond (nat_lt (s.page 0).frame.level 255) (Grow s.born ∷ []) []

  abbrev pub planned_tend : Logged K V → K → List (Change K V)
  planned_tend s k = rootwards s k (s.page 0).frame.foster

-- the changes may be made one after another
module _ {K V : Type 0} (rank : K → ℕ) (top : ℕ) (least : K) where
  abbrev pub MayAll : Logged K V → List (Change K V) → Type 0
  MayAll s [] = Unit {0}
  MayAll s (c ∷ cs) = May rank top least c s × MayAll (changed (by rank) least s c) cs

-- entries have their costs' bounds
pub record Priced {K V : Type 0} (pair_cost : K × V → ℕ) (kid_cost : K × ℕ → ℕ) (s : Logged K V) : Type 0 where
  pub pairs : (p : ℕ) → Cheap pair_cost 84 (s.page p).pairs
  pub kids : (p : ℕ) → Cheap kid_cost 23 (s.page p).frame.kids

abbrev pub PlansKept : Type 0
PlansKept = (rank : Key → ℕ) (top : ℕ) (least : Key) → Ranking rank top least
    → (pair_cost : Key × List ℕ → ℕ) (kid_cost : Key × ℕ → ℕ)
    → ((k : Key) (c : ℕ) → kid_cost (k, c) ≤ 23) → (s : Logged Key (List ℕ)) → Priced pair_cost kid_cost s → Sound rank top least (tree s)
    → ((p : ℕ) (k : Key) (v : List ℕ) → pair_cost (k, v) ≤ 84 → p < s.born → (s.page p).frame.level ≡ 0 → Holds rank top (s.page p).frame k
    → MayAll rank top least s (planned_put (by rank) pair_cost kid_cost s p k v))
    × ((k : Key) → MayAll rank top least s (planned_tend (by rank) pair_cost kid_cost s k))
