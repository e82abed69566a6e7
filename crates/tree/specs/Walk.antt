-- A key's way as the store goes it: each page is fetched, and held against what pointed to it.
use Rattle.std.specs.Prelude.{◌≡◌, ℕ, zero, suc, ◌<◌, ◌≤◌, Bool, true, false, cond, ◌⊎◌, List, [], ◌∷◌, Some, None, Option, ◌==◌, nat_lt}
use Prim.Native.Nat.{Ordering}
use Rattle.std.proofs.Math.Dec.{compare_is_eq, is_le}
use Rattle.tree.specs.Rows.{by, Ascends}
use Rattle.tree.specs.Tree.{Frame, Image, State, Ranking, Sound, Key, edge, upper, kid, bound, Found}

-- what stops a way: a lost record of a page's chain, one that misfits, or a page that is not what pointed to it says
pub data Fault : Type 0 where
  Gone : (page position : ℕ) → Fault
  Ill : (page position : ℕ) → Fault
  Wrong : (page check : ℕ) → Fault

pub data Fetched (K V : Type 0) : Type 0 where
  Page : Image K V → Fetched K V
  Failed : Fault → Fetched K V

-- what is due of a page: its fences and, but for page 0, its level
pub record Due (K : Type 0) : Type 0 where
  pub low : K
  pub high : Option K
  pub level : Option ℕ

-- a page that a way has met, with its image
pub record Visit (K V : Type 0) : Type 0 where
  pub page : ℕ
  pub image : Image K V

abbrev pub visit : {K V : Type 0} → ℕ → Image K V → Visit K V
visit p x = record { page = p; image = x }

-- the pages met above a leaf, from page 0 on, and that leaf; or what stopped the way
pub data Walked (K V : Type 0) : Type 0 where
  Met : List (Visit K V) → Visit K V → Walked K V
  Stopped : Fault → Walked K V

abbrev pub onto : {K V : Type 0} → Visit K V → Walked K V → Walked K V
onto v (Met vs l) = Met (v ∷ vs) l
onto v (Stopped f) = Stopped f

abbrev pub same_bound : {K : Type 0} → (K → K → Ordering) → Option K → Option K → Bool
same_bound cmp None None = true
same_bound cmp None (Some k) = false
same_bound cmp (Some j) None = false
same_bound cmp (Some j) (Some k) = compare_is_eq (cmp j k)

abbrev pub same_level : Option ℕ → ℕ → Bool
same_level None l = true
same_level (Some m) l = m == l

module _ {K : Type 0} (cmp : K → K → Ordering) where
  -- the first check that a page fails: 1 low fence, 2 high fence, 3 level; 0 none
  abbrev pub check : Due K → Frame K → ℕ
  check d x = cond (compare_is_eq (cmp d.low x.low)) (cond (same_bound cmp d.high x.high) (cond (same_level d.level x.level) 0 3) 2) 1

  abbrev pub entered : K → Frame K → ℕ → Option (ℕ × Due K)
  entered k x zero = None
  entered k x (suc l) = Some ((kid cmp x k).1, record { low = (kid cmp x k).0; high = bound cmp x k; level = Some l })

  abbrev pub onward_due : K → Frame K → Option (K × ℕ) → Option (ℕ × Due K)
  onward_due k x None = entered k x x.level
  onward_due k x (Some f) =
      cond (is_le (cmp f.0 k)) (Some (f.1, record { low = f.0; high = x.high; level = Some x.level })) (entered k x x.level)

module _ {K V : Type 0} (cmp : K → K → Ordering) where
  abbrev pub walk_on : (ℕ → Due K → Walked K V) → ℕ → Image K V → Option (ℕ × Due K) → Walked K V
  walk_on go p x None = Met [] (visit p x)
  walk_on go p x (Some d) = onto (visit p x) (go d.0 d.1)

  abbrev pub walk_checked : (ℕ → Due K → Walked K V) → K → ℕ → Image K V → ℕ → Walked K V
  walk_checked go k p x zero = walk_on go p x (onward_due cmp k x.frame x.frame.foster)
  walk_checked go k p x (suc c) = Stopped (Wrong p (suc c))

  abbrev pub walk_fetched : (ℕ → Due K → Walked K V) → K → ℕ → Due K → Fetched K V → Walked K V
  walk_fetched go k p d (Failed f) = Stopped f
  walk_fetched go k p d (Page x) = walk_checked go k p x (check cmp d x.frame)

  -- the way from page p, over at most so many pages
  abbrev pub walk : (ℕ → Fetched K V) → ℕ → K → ℕ → ℕ → Due K → Walked K V
  walk fetch born k zero p d = Stopped (Wrong p 4)
  walk fetch born k (suc n) p d = cond (nat_lt p born) (walk_fetched (walk fetch born k n) k p d (fetch p)) (Stopped (Wrong p 4))

abbrev pub or_failed : {K V : Type 0} → Fetched K V → Walked K V → Walked K V
or_failed (Failed f) w = Stopped f
or_failed (Page x) w = w

-- the first of some pages that cannot be fetched, or else what the way comes to
abbrev pub outcome : {K V : Type 0} → (ℕ → Fetched K V) → List ℕ → Walked K V → Walked K V
outcome fetch [] w = w
outcome fetch (p ∷ ps) w = or_failed (fetch p) (outcome fetch ps w)

abbrev pub due_root : {K : Type 0} → K → Due K
due_root least = record { low = least; high = None; level = None }

-- the pages of a way but the last, with their images
abbrev pub visits : {K V : Type 0} → (ℕ → Image K V) → List ℕ → List (Visit K V)
visits page [] = []
visits page (p ∷ []) = []
visits page (p ∷ q ∷ ps) = visit p (page p) ∷ visits page (q ∷ ps)

-- a born page is fetched as it is, or not at all
abbrev pub Honest : {K V : Type 0} → State K V → (ℕ → Fetched K V) → Type 0
Honest s fetch = (p : ℕ) → p < s.born → (fetch p ≡ Page (s.page p)) ⊎ ((f : Fault) × (fetch p ≡ Failed f))

-- what the store's way comes to, over at most as many pages as are born: it fails exactly at the first page of the true way that cannot be fetched
pub record Went {K V : Type 0} (cmp : K → K → Ordering) (least : K) (s : State K V) (fetch : ℕ → Fetched K V) (k : K) : Type 0 where
  pub found : Found cmp s k
  pub comes_to : (n : ℕ) → s.born ≤ n → walk cmp fetch s.born k n 0 (due_root least)
      ≡ outcome fetch found.pages (Met (visits s.page found.pages) (visit found.leaf (s.page found.leaf)))

abbrev pub WalksRight : Type 0
WalksRight = (rank : Key → ℕ) (top : ℕ) (least : Key) → Ranking rank top least → (s : State Key (List ℕ)) → Sound rank top least s
    → (fetch : ℕ → Fetched Key (List ℕ)) → Honest s fetch → (k : Key) → Went (by rank) least s fetch k

-- a page's form, as far as a way goes by it: its foster key is above its low fence, and a branch's keys ascend from there
pub record Formed {K V : Type 0} (rank : K → ℕ) (top : ℕ) (x : Image K V) : Type 0 where
  pub foster_above : (f : K × ℕ) → x.frame.foster ≡ Some f → rank x.frame.low < rank f.0
  pub ascends : Ascends rank (rank x.frame.low) x.frame.kids (edge rank top (upper x.frame))

-- over any well-formed pages at all, one page more than are born is enough: the way meets no page twice
abbrev pub WaysShort : Type 0
WaysShort = (rank : Key → ℕ) (top : ℕ) (least : Key) → Ranking rank top least → (fetch : ℕ → Fetched Key (List ℕ)) (born : ℕ)
    → ((p : ℕ) (x : Image Key (List ℕ)) → fetch p ≡ Page x → Formed rank top x) → (k : Key) (n : ℕ) → suc born ≤ n
    → walk (by rank) fetch born k n 0 (due_root least) ≡ walk (by rank) fetch born k (suc born) 0 (due_root least)
