-- What the device and the log of a store mean: images of pages, and changes. A page that fails its checks is made again from its chain.
use Rattle.std.specs.Prelude.{◌≡◌, ℕ, suc, ◌≤◌, Bool, true, false, cond, List, ◌∷◌, ◌++◌, Some, None, Option, ◌==◌}
use Prim.Native.Nat.{Ordering}
use Rattle.ranks.specs.Lists.{In, All}
use Rattle.tree.specs.Tree.{Image, frames, Way}
use Rattle.tree.specs.Log.{Rec, Logged, run, start, tree, at, Built, rebuild, Chain}
use Rattle.tree.specs.Log.Built.{Done, Lost, Misfit}
use Rattle.tree.specs.Walk.{Fetched, Walked, walk, due_root}
use Rattle.tree.specs.Walk.Fault.{Gone, Ill}
use Rattle.tree.specs.Walk.Fetched.{Page, Failed}
use Rattle.tree.specs.Suits.{suits}

-- what a page of the device reads as, if it is readable, sealed, its own and well formed
pub record Stored (K V : Type 0) : Type 0 where
  pub lsn : ℕ
  pub image : Image K V

-- the log's records as they were added, which of them are lost, and the device's pages
pub record World (K V : Type 0) : Type 0 where
  pub recs : List (Rec K V)
  pub lost : ℕ → Bool
  pub pages : ℕ → Option (Stored K V)

-- a page passes at exactly the position that the index has for it: neither below nor above
abbrev pub passes : {K V : Type 0} → ℕ → Option (Stored K V) → Option (Image K V)
passes n None = None
passes n (Some x) = cond (x.lsn == n) (Some x.image) None

-- page p as it is come by: read if it passes, else made again
abbrev pub fetched_of : {K V : Type 0} → ℕ → Option (Image K V) → Built K V → Fetched K V
fetched_of p (Some x) b = Page x
fetched_of p None (Done x) = Page x
fetched_of p None (Lost n) = Failed (Gone p n)
fetched_of p None (Misfit n) = Failed (Ill p n)

abbrev pub read : {K V : Type 0} → World K V → ℕ → Option (Rec K V)
read w n = cond (w.lost n) None (at w.recs n)

module _ {K V : Type 0} (cmp : K → K → Ordering) (least : K) where
  -- what the records as they were added have made
  abbrev pub logged : World K V → Logged K V
  logged w = run cmp least (start cmp least) w.recs

module _ {K V : Type 0} (cmp : K → K → Ordering) (least : K) (pair_cost : K × V → ℕ) (kid_cost : K × ℕ → ℕ) where
  abbrev pub fetch : World K V → ℕ → Fetched K V
  fetch w p = fetched_of p (passes ((logged cmp least w).newest p) (w.pages p))
      (rebuild cmp least (suits cmp pair_cost kid_cost) (read w) (suc ((logged cmp least w).newest p)) p ((logged cmp least w).newest p))

  abbrev pub goes_to : World K V → K → Walked K V
  goes_to w k = walk cmp (fetch w) (logged cmp least w).born k (suc (logged cmp least w).born) 0 (due_root least)

-- a harmed page fails a check, at its newest position and at every later one
abbrev pub Fails : {K V : Type 0} → ℕ → Option (Stored K V) → Type 0
Fails {K = K} {V = V} newest page = (x : Stored K V) → page ≡ Some x → newest ≤ x.lsn → ⊥

module _ {K V : Type 0} (cmp : K → K → Ordering) (least : K) (pair_cost : K × V → ℕ) (kid_cost : K × ℕ → ℕ) (w : World K V) where
  -- a page is harmed if it does not read as its image at its newest position
  abbrev pub Harmed : ℕ → Type 0
  Harmed p = w.pages p ≡ Some (record { lsn = (logged cmp least w).newest p; image = (logged cmp least w).page p }) → ⊥

  -- position n is the newest lost one of page p's chain
  pub record ChainLost (p n : ℕ) : Type 0 where
    pub positions : List ℕ
    pub chain : Chain cmp least (suits cmp pair_cost kid_cost) (at w.recs) p ((logged cmp least w).newest p) positions ((logged cmp least w).page p)
    pub newer : List ℕ
    pub older : List ℕ
    pub parts : positions ≡ newer ++ (n ∷ older)
    pub is_lost : w.lost n ≡ true
    pub others : All (λ m. w.lost m ≡ false) newer

  -- a page that cannot be had: it is harmed, and a record of its chain is lost
  abbrev pub OutOfReach : ℕ → ℕ → Type 0
  OutOfReach p n = Harmed p × ChainLost p n

  -- page p is the first on the key's way that cannot be had, and n the newest lost position of its chain
  pub record FirstLost (k : K) (p n : ℕ) : Type 0 where
    pub pages : List ℕ
    pub leaf : ℕ
    pub way : Way cmp (frames (tree (logged cmp least w))) k 0 pages leaf
    pub before : List ℕ
    pub behind : List ℕ
    pub parts : pages ≡ before ++ (p ∷ behind)
    pub lost : OutOfReach p n
    pub others : All (λ q. (m : ℕ) → OutOfReach q m → ⊥) before

  -- a page on the key's way cannot be had
  pub record LostOnWay (k : K) : Type 0 where
    pub pages : List ℕ
    pub leaf : ℕ
    pub way : Way cmp (frames (tree (logged cmp least w))) k 0 pages leaf
    pub page : ℕ
    pub position : ℕ
    pub on_it : In page pages
    pub lost : OutOfReach page position
