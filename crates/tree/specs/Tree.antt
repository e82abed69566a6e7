-- The tree as an abstract state: pages, their fences and entries, and the keys that stand. A key is anything that has a rank.
use Rattle.std.specs.Prelude.{◌≡◌, ℕ, zero, suc, ◌<◌, ◌≤◌, true, cond, List, [], ◌∷◌, Some, None, Option, ◌==◌, ◌≢◌}
use Prim.Native.Nat.{Ordering}
use Rattle.std.proofs.Math.Dec.{compare_is_eq, is_le}
pub use Rattle.ranks.specs.Ranks.{Ranking, Key}
use Rattle.tree.specs.Rows.{find, set, without, upto, from, above, floor, ceil, Ascends, by, is_less}

-- what a page says but for its keys' values
pub record Frame (K : Type 0) : Type 0 where
  pub level : ℕ
  pub low : K
  pub high : Option K
  pub foster : Option (K × ℕ)
  pub kids : List (K × ℕ)

-- a page's content: a leaf's entries are its pairs, a branch's are its kids
pub record Image (K V : Type 0) : Type 0 where
  pub frame : Frame K
  pub pairs : List (K × V)

-- the tree that a log has made: how many pages are born, what each holds, and which value stands for each key
pub record State (K V : Type 0) : Type 0 where
  pub born : ℕ
  pub page : ℕ → Image K V
  pub stands : K → Option V

-- one place of a row of pages gets another content
unfoldable pub upd : {A : Type 0} → (ℕ → A) → ℕ → A → ℕ → A
upd g p x q = cond (q == p) x (g q)

abbrev pub upper_of : {K : Type 0} → Option (K × ℕ) → Option K → Option K
upper_of None h = h
upper_of (Some f) h = Some f.0

-- a page's upper bound
abbrev pub upper : {K : Type 0} → Frame K → Option K
upper x = upper_of x.foster x.high

module _ {K : Type 0} (rank : K → ℕ) (top : ℕ) where
  -- where a fence lies: the infinite one above every key
  abbrev pub edge : Option K → ℕ
  edge None = top
  edge (Some k) = rank k

  -- the page's range has the key
  abbrev pub Holds : Frame K → K → Type 0
  Holds x k = (rank x.low ≤ rank k) × (rank k < edge (upper x))

module _ {K : Type 0} (cmp : K → K → Ordering) where
  -- a branch's entry for a key (the last not above it), and the bound that it hands down
  abbrev pub kid : Frame K → K → K × ℕ
  kid x k = floor cmp k (x.low, 0) x.kids

  abbrev pub bound : Frame K → K → Option K
  bound x k = ceil cmp k x.kids (upper x)

-- page c is born, is not the root, and has this level and these fences
pub record Points {K : Type 0} (born : ℕ) (frame : ℕ → Frame K) (c level : ℕ) (low : K) (high : Option K) : Type 0 where
  pub inner : c ≡ 0 → ⊥
  pub is_born : c < born
  pub level_is : (frame c).level ≡ level
  pub low_is : (frame c).low ≡ low
  pub high_is : (frame c).high ≡ high

-- the shape of a tree that the store itself has made
pub record Shape {K : Type 0} (rank : K → ℕ) (top : ℕ) (least : K) (born : ℕ) (frame : ℕ → Frame K) : Type 0 where
  pub any : 0 < born
  pub root_low : (frame 0).low ≡ least
  pub root_high : (frame 0).high ≡ None
  pub tallest : (p : ℕ) → p < born → (frame p).level ≤ (frame 0).level
  pub spans : (p : ℕ) → p < born → rank (frame p).low < edge rank top (upper (frame p))
  pub ascends : (p : ℕ) → p < born → Ascends rank (rank (frame p).low) (frame p).kids (edge rank top (upper (frame p)))
  pub foster_below : (p : ℕ) → p < born → (f : K × ℕ) → (frame p).foster ≡ Some f → rank f.0 < edge rank top (frame p).high
  pub fosters : (p : ℕ) → p < born → (f : K × ℕ) → (frame p).foster ≡ Some f
      → Points born frame f.1 (frame p).level f.0 (frame p).high
  pub children : (p : ℕ) → p < born → (l : ℕ) (k : K) → (frame p).level ≡ suc l → Holds rank top (frame p) k
      → Points born frame (kid (by rank) (frame p) k).1 l (kid (by rank) (frame p) k).0 (bound (by rank) (frame p) k)
  pub one_pointer : (p : ℕ) → p < born → (q : ℕ) → q < born → (l : ℕ) (f : K × ℕ) (k : K) → (frame p).foster ≡ Some f
      → (frame q).level ≡ suc l → Holds rank top (frame q) k → (kid (by rank) (frame q) k).1 ≢ f.1
  pub apart : (p : ℕ) → p < born → (q : ℕ) → q < born → (k : K) → (frame p).level ≡ (frame q).level
      → Holds rank top (frame p) k → Holds rank top (frame q) k → p ≡ q

abbrev pub frames : {K V : Type 0} → State K V → ℕ → Frame K
frames s p = (s.page p).frame

pub record Sound {K V : Type 0} (rank : K → ℕ) (top : ℕ) (least : K) (s : State K V) : Type 0 where
  pub shape : Shape rank top least s.born (frames s)
  pub pairs_ascend : (p : ℕ) → p < s.born
      → Ascends rank (rank (s.page p).frame.low) (s.page p).pairs (edge rank top (upper (s.page p).frame))
  pub leaves : (p : ℕ) → p < s.born → (k : K) → (s.page p).frame.level ≡ 0 → Holds rank top (s.page p).frame k
      → find (by rank) k (s.page p).pairs ≡ s.stands k

-- what each kind of record does
module _ {K : Type 0} (cmp : K → K → Ordering) where
  -- a page divided at d, whose foster child is q from now on; and that child
  abbrev pub lower_part : K → ℕ → Frame K → Frame K
  lower_part d q x = record { level = x.level; low = x.low; high = x.high; foster = Some (d, q); kids = upto cmp d x.kids }

  abbrev pub upper_part : K → Frame K → Frame K
  upper_part d x = record { level = x.level; low = d; high = x.high; foster = x.foster; kids = from cmp d x.kids }

  -- a branch that gains an entry; a page whose foster child is adopted
  abbrev pub gaining : K → ℕ → Frame K → Frame K
  gaining k c x = record { level = x.level; low = x.low; high = x.high; foster = x.foster; kids = set cmp k c x.kids }

  abbrev pub ceding : K → Frame K → Frame K
  ceding k x = record { level = x.level; low = x.low; high = Some k; foster = None; kids = x.kids }

-- the root above its former content, which page q has now
abbrev pub risen : {K : Type 0} → K → ℕ → Frame K → Frame K
risen least q x = record { level = suc x.level; low = least; high = None; foster = None; kids = (least, q) ∷ [] }

module _ {K V : Type 0} (cmp : K → K → Ordering) (least : K) where
  abbrev pub putting : K → V → Image K V → Image K V
  putting k v x = record { frame = x.frame; pairs = set cmp k v x.pairs }

  abbrev pub removing : K → Image K V → Image K V
  removing k x = record { frame = x.frame; pairs = without cmp k x.pairs }

  abbrev pub lower_image : K → ℕ → Image K V → Image K V
  lower_image d q x = record { frame = lower_part cmp d q x.frame; pairs = upto cmp d x.pairs }

  abbrev pub upper_image : K → Image K V → Image K V
  upper_image d x = record { frame = upper_part cmp d x.frame; pairs = from cmp d x.pairs }

  abbrev pub gaining_image : K → ℕ → Image K V → Image K V
  gaining_image k c x = record { frame = gaining cmp k c x.frame; pairs = x.pairs }

  abbrev pub ceding_image : K → Image K V → Image K V
  ceding_image k x = record { frame = ceding cmp k x.frame; pairs = x.pairs }

  abbrev pub risen_image : ℕ → Image K V → Image K V
  risen_image q x = record { frame = risen least q x.frame; pairs = [] }

  -- the records
  abbrev pub put : ℕ → K → V → State K V → State K V
  put p k v s = record {
    born = s.born;
    page = upd s.page p (putting k v (s.page p));
    stands = λ j. cond (compare_is_eq (cmp j k)) (Some v) (s.stands j);
  }

  abbrev pub remove : ℕ → K → State K V → State K V
  remove p k s = record {
    born = s.born;
    page = upd s.page p (removing k (s.page p));
    stands = λ j. cond (compare_is_eq (cmp j k)) None (s.stands j);
  }

  abbrev pub divide : ℕ → K → State K V → State K V
  divide p d s = record {
    born = suc s.born;
    page = upd (upd s.page p (lower_image d s.born (s.page p))) s.born (upper_image d (s.page p));
    stands = s.stands;
  }

  abbrev pub adopt : ℕ → ℕ → K → ℕ → State K V → State K V
  adopt p y k c s = record {
    born = s.born;
    page = upd (upd s.page p (gaining_image k c (s.page p))) y (ceding_image k (s.page y));
    stands = s.stands;
  }

  abbrev pub grow : State K V → State K V
  grow s = record {
    born = suc s.born;
    page = upd (upd s.page s.born (s.page 0)) 0 (risen_image s.born (s.page 0));
    stands = s.stands;
  }

-- a record that the store may append
module _ {K V : Type 0} (rank : K → ℕ) (top : ℕ) (s : State K V) where
  pub record MayPut (p : ℕ) (k : K) : Type 0 where
    pub is_born : p < s.born
    pub leaf : (s.page p).frame.level ≡ 0
    pub holds : Holds rank top (s.page p).frame k

  pub record MayDivide (p : ℕ) (d : K) : Type 0 where
    pub is_born : p < s.born
    pub above : rank (s.page p).frame.low < rank d
    pub below : rank d < edge rank top (upper (s.page p).frame)
    pub entry : (l : ℕ) → (s.page p).frame.level ≡ suc l → (c : ℕ) × (find (by rank) d (s.page p).frame.kids ≡ Some c)

  -- the branch p gains the entry of page y's foster child; j is a key whose way leads from p to y
  pub record MayAdopt (p y : ℕ) (k : K) (c : ℕ) : Type 0 where
    pub is_born : p < s.born
    pub below : ℕ
    pub level : (s.page p).frame.level ≡ suc below
    pub key : K
    pub holds : Holds rank top (s.page p).frame key
    pub leads : (kid (by rank) (s.page p).frame key).1 ≡ y
    pub foster : (s.page y).frame.foster ≡ Some (k, c)

abbrev pub SoundStays : Type 0
SoundStays = (rank : Key → ℕ) (top : ℕ) (least : Key) → Ranking rank top least → (s : State Key (List ℕ)) → Sound rank top least s
    → ((p : ℕ) (k : Key) (v : List ℕ) → MayPut rank top s p k → Sound rank top least (put (by rank) least p k v s))
    × ((p : ℕ) (k : Key) → MayPut rank top s p k → Sound rank top least (remove (by rank) least p k s))
    × ((p : ℕ) (d : Key) → MayDivide rank top s p d → Sound rank top least (divide (by rank) least p d s))
    × ((p y : ℕ) (k : Key) (c : ℕ) → MayAdopt rank top s p y k c → Sound rank top least (adopt (by rank) least p y k c s))
    × Sound rank top least (grow (by rank) least s)

-- a page of the way: where the key goes from it, or that the way ends there
abbrev pub onward_of : {K : Type 0} → (K → K → Ordering) → K → Option (K × ℕ) → ℕ → ℕ → Option ℕ
onward_of cmp k None zero c = None
onward_of cmp k None (suc l) c = Some c
onward_of cmp k (Some f) zero c = cond (is_le (cmp f.0 k)) (Some f.1) None
onward_of cmp k (Some f) (suc l) c = cond (is_le (cmp f.0 k)) (Some f.1) (Some c)

abbrev pub onward : {K : Type 0} → (K → K → Ordering) → Frame K → K → Option ℕ
onward cmp x k = onward_of cmp k x.foster x.level (kid cmp x k).1

-- the way of a key from page p over the pages ps to page q
pub data Way {K : Type 0} (cmp : K → K → Ordering) (frame : ℕ → Frame K) (k : K) : ℕ → List ℕ → ℕ → Type 0 where
  ends : {p : ℕ} → onward cmp (frame p) k ≡ None → Way cmp frame k p (p ∷ []) p
  goes : {p q r : ℕ} {ps : List ℕ} → onward cmp (frame p) k ≡ Some q → Way cmp frame k q ps r → Way cmp frame k p (p ∷ ps) r

-- the key's way ends, at a leaf that has the value which stands
pub record Found {K V : Type 0} (cmp : K → K → Ordering) (s : State K V) (k : K) : Type 0 where
  pub pages : List ℕ
  pub leaf : ℕ
  pub way : Way cmp (frames s) k 0 pages leaf
  pub is_leaf : (s.page leaf).frame.level ≡ 0
  pub gives : find cmp k (s.page leaf).pairs ≡ s.stands k

abbrev pub WaysEnd : Type 0
WaysEnd = (rank : Key → ℕ) (top : ℕ) (least : Key) → Ranking rank top least → (s : State Key (List ℕ)) → Sound rank top least s
    → (k : Key) → Found (by rank) s k

-- the way to the least key above k, from the leaf of a key on
pub data Seek {K V : Type 0} (cmp : K → K → Ordering) (s : State K V) (k : K) : K → Option (K × V) → Type 0 where
  hit : {j : K} {ps : List ℕ} {p : ℕ} {e : K × V} → Way cmp (frames s) j 0 ps p → above cmp k (s.page p).pairs ≡ Some e → Seek cmp s k j (Some e)
  over : {j : K} {ps : List ℕ} {p : ℕ} → Way cmp (frames s) j 0 ps p → above cmp k (s.page p).pairs ≡ None → upper (s.page p).frame ≡ None
      → Seek cmp s k j None
  onto : {j u : K} {ps : List ℕ} {p : ℕ} {r : Option (K × V)} → Way cmp (frames s) j 0 ps p → above cmp k (s.page p).pairs ≡ None
      → upper (s.page p).frame ≡ Some u → Seek cmp s k u r → Seek cmp s k j r

-- the least key that stands above a key, with its value
abbrev pub IsLeastAbove : {K V : Type 0} → (K → K → Ordering) → State K V → K → Option (K × V) → Type 0
IsLeastAbove {K = K} cmp s k None = (i : K) → is_less (cmp k i) ≡ true → s.stands i ≡ None
IsLeastAbove {K = K} cmp s k (Some e) = (is_less (cmp k e.0) ≡ true) × (s.stands e.0 ≡ Some e.1)
    × ((i : K) → is_less (cmp k i) ≡ true → is_less (cmp i e.0) ≡ true → s.stands i ≡ None)

abbrev pub NextsFound : Type 0
NextsFound = (rank : Key → ℕ) (top : ℕ) (least : Key) → Ranking rank top least → (s : State Key (List ℕ)) → Sound rank top least s
    → (k : Key) → (r : Option (Key × List ℕ)) × Seek (by rank) s k k r × IsLeastAbove (by rank) s k r
