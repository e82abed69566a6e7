-- A log's records, the pages that they make one after another, and a page made again from its chain.
use Rattle.std.specs.Prelude.{◌≡◌, ℕ, zero, suc, ◌<◌, Bool, true, cond, ◌⊎◌, List, [], ◌∷◌, Some, None, Option, ◌==◌, nat_lt}
use Prim.Native.Nat.{Ordering}
use Rattle.std.proofs.Math.Dec.{compare_is_eq}
use Rattle.tree.specs.Rows.{by}
use Rattle.tree.specs.Tree.{Image, State, Ranking, Sound, Key, MayPut, MayDivide, MayAdopt, putting, removing, lower_image, upper_image, gaining_image, ceding_image, risen_image}

-- what a record says, but for the previous positions of its pages
pub data Change (K V : Type 0) : Type 0 where
  Format : Change K V
  Put : (page : ℕ) → K → V → Change K V
  Remove : (page : ℕ) → K → Change K V
  Foster : (page other : ℕ) → K → Change K V
  Adopt : (page other : ℕ) → K → (child : ℕ) → Change K V
  Grow : (other : ℕ) → Change K V

pub record Rec (K V : Type 0) : Type 0 where
  pub change : Change K V
  pub prev : ℕ
  pub prev_other : ℕ

-- where a page's image comes from in a record: the record leaves the page out, makes it of nothing, or makes it of a page at a position
pub data Source : Type 0 where
  Out : Source
  Fresh : Source
  Earlier : (page position : ℕ) → Source

abbrev pub source_of : {K V : Type 0} → Change K V → ℕ → ℕ → ℕ → Source
source_of Format a b p = cond (p == 0) Fresh Out
source_of (Put q k v) a b p = cond (p == q) (Earlier q a) Out
source_of (Remove q k) a b p = cond (p == q) (Earlier q a) Out
source_of (Foster q o d) a b p = cond (p == o) (Earlier q a) (cond (p == q) (Earlier q a) Out)
source_of (Adopt q o k c) a b p = cond (p == o) (Earlier o b) (cond (p == q) (Earlier q a) Out)
source_of (Grow o) a b p = cond (p == 0) (Earlier 0 a) (cond (p == o) (Earlier 0 a) Out)

abbrev pub source : {K V : Type 0} → Rec K V → ℕ → Source
source r p = source_of r.change r.prev r.prev_other p

module _ {K V : Type 0} (cmp : K → K → Ordering) (least : K) where
  abbrev pub blank : Image K V
  blank = record { frame = record { level = 0; low = least; high = None; foster = None; kids = [] }; pairs = [] }

  -- page p's image, made of an earlier one
  abbrev pub make : Change K V → ℕ → Image K V → Image K V
  make Format p x = blank
  make (Put q k v) p x = putting cmp least k v x
  make (Remove q k) p x = removing cmp least k x
  make (Foster q o d) p x = cond (p == o) (upper_image cmp least d x) (lower_image cmp least d o x)
  make (Adopt q o k c) p x = cond (p == o) (ceding_image cmp least k x) (gaining_image cmp least k c x)
  make (Grow o) p x = cond (p == 0) (risen_image cmp least o x) x

  abbrev pub made : Change K V → ℕ → (ℕ → Image K V) → Source → Image K V
  made ch p page Out = page p
  made ch p page Fresh = make ch p blank
  made ch p page (Earlier q n) = make ch p (page q)

  abbrev pub standing : Change K V → (K → Option V) → K → Option V
  standing Format f j = f j
  standing (Put q k v) f j = cond (compare_is_eq (cmp j k)) (Some v) (f j)
  standing (Remove q k) f j = cond (compare_is_eq (cmp j k)) None (f j)
  standing (Foster q o d) f j = f j
  standing (Adopt q o k c) f j = f j
  standing (Grow o) f j = f j

-- how many pages are born after a record
abbrev pub births : {K V : Type 0} → Change K V → ℕ → ℕ
births Format n = suc n
births (Put q k v) n = n
births (Remove q k) n = n
births (Foster q o d) n = suc n
births (Adopt q o k c) n = n
births (Grow o) n = suc n

abbrev pub touched : Source → ℕ → ℕ → ℕ
touched Out n old = old
touched Fresh n old = n
touched (Earlier q m) n old = n

-- what a row of records has come to: its length, how many pages are born, each page's image and newest position, and which value stands for
-- each key
pub record Logged (K V : Type 0) : Type 0 where
  pub count : ℕ
  pub born : ℕ
  pub page : ℕ → Image K V
  pub newest : ℕ → ℕ
  pub stands : K → Option V

abbrev pub tree : {K V : Type 0} → Logged K V → State K V
tree s = record { born = s.born; page = s.page; stands = s.stands }

module _ {K V : Type 0} (cmp : K → K → Ordering) (least : K) where
  abbrev pub append : Rec K V → Logged K V → Logged K V
  append r s = record {
    count = suc s.count;
    born = births r.change s.born;
    page = λ p. made cmp least r.change p s.page (source r p);
    newest = λ p. touched (source r p) (suc s.count) (s.newest p);
    stands = standing cmp least r.change s.stands;
  }

  abbrev pub run : Logged K V → List (Rec K V) → Logged K V
  run s [] = s
  run s (r ∷ rs) = run (append r s) rs

  abbrev pub start : Logged K V
  start = record { count = 0; born = 0; page = λ p. blank cmp least; newest = λ p. 0; stands = λ j. None }

module _ {K V : Type 0} (cmp : K → K → Ordering) (least : K) (suits : Change K V → ℕ → Image K V → Bool) where
  -- each record has the right previous positions, and suits the images that it changes
  abbrev pub Linked : Logged K V → List (Rec K V) → Type 0
  Linked s [] = Unit {0}
  Linked s (r ∷ rs) = ((p q n : ℕ) → source r p ≡ Earlier q n → (n ≡ s.newest q) × (0 < n) × (suits r.change p (s.page q) ≡ true)) × Linked (append cmp least r s) rs

-- the record at a position, if it is not lost
abbrev pub at : {X : Type 0} → List X → ℕ → Option X
at [] n = None
at (x ∷ xs) zero = None
at (x ∷ xs) (suc zero) = Some x
at (x ∷ xs) (suc (suc n)) = at xs (suc n)

-- page p's chain from position n: the positions of the records that its image is made of, and the image
pub data Chain {K V : Type 0} (cmp : K → K → Ordering) (least : K) (suits : Change K V → ℕ → Image K V → Bool) (slot : ℕ → Option (Rec K V)) : ℕ → ℕ → List ℕ → Image K V → Type 0 where
  first : {p n : ℕ} {r : Rec K V} → slot n ≡ Some r → source r p ≡ Fresh → Chain cmp least suits slot p n (n ∷ []) (make cmp least r.change p (blank cmp least))
  later : {p n q m : ℕ} {r : Rec K V} {ns : List ℕ} {x : Image K V} → slot n ≡ Some r → source r p ≡ Earlier q m → m < n → suits r.change p x ≡ true
      → Chain cmp least suits slot q m ns x → Chain cmp least suits slot p n (n ∷ ns) (make cmp least r.change p x)

-- a page made again: its image, or the position of a lost record, or of one that misfits
pub data Built (K V : Type 0) : Type 0 where
  Done : Image K V → Built K V
  Lost : ℕ → Built K V
  Misfit : ℕ → Built K V

abbrev pub then_make : {K V : Type 0} → ℕ → (Image K V → Bool) → (Image K V → Image K V) → Built K V → Built K V
then_make m ok f (Done x) = cond (ok x) (Done (f x)) (Misfit m)
then_make m ok f (Lost n) = Lost n
then_make m ok f (Misfit n) = Misfit n

module _ {K V : Type 0} (cmp : K → K → Ordering) (least : K) (suits : Change K V → ℕ → Image K V → Bool) where
  abbrev pub at_source : Change K V → ℕ → ℕ → (ℕ → ℕ → Built K V) → Source → Built K V
  at_source ch p n go Out = Misfit n
  at_source ch p n go Fresh = Done (make cmp least ch p (blank cmp least))
  at_source ch p n go (Earlier q m) = cond (nat_lt m n) (then_make n (suits ch p) (make cmp least ch p) (go q m)) (Misfit n)

  abbrev pub at_slot : ℕ → ℕ → (ℕ → ℕ → Built K V) → Option (Rec K V) → Built K V
  at_slot p n go None = Lost n
  at_slot p n go (Some r) = at_source r.change p n go (source r p)

  -- from position n back, with at most so many records
  abbrev pub rebuild : (ℕ → Option (Rec K V)) → ℕ → ℕ → ℕ → Built K V
  rebuild read zero p n = Misfit n
  rebuild read (suc f) p n = at_slot p n (rebuild read f) (read n)

-- the newest lost position of a chain, or else the image
abbrev pub or_lost : {K V : Type 0} → Option (Rec K V) → ℕ → Built K V → Built K V
or_lost None n b = Lost n
or_lost (Some r) n b = b

abbrev pub verdict : {K V : Type 0} → (ℕ → Option (Rec K V)) → List ℕ → Image K V → Built K V
verdict read [] x = Done x
verdict read (n ∷ ns) x = or_lost (read n) n (verdict read ns x)

-- every born page's image is that of its chain, and is made again from it, unless a record of it is lost
pub record Rebuilt {K V : Type 0} (cmp : K → K → Ordering) (least : K) (suits : Change K V → ℕ → Image K V → Bool) (recs : List (Rec K V)) (p : ℕ) : Type 0 where
  pub positions : List ℕ
  pub chain : Chain cmp least suits (at recs) p ((run cmp least (start cmp least) recs).newest p) positions ((run cmp least (start cmp least) recs).page p)

abbrev pub LessSome : {X : Type 0} → (ℕ → Option X) → (ℕ → Option X) → Type 0
LessSome {X = X} read slot = (n : ℕ) (r : X) → slot n ≡ Some r → (read n ≡ Some r) ⊎ (read n ≡ None)

abbrev pub ChainsRebuild : Type 0
ChainsRebuild = (cmp : Key → Key → Ordering) (least : Key) (suits : Change Key (List ℕ) → ℕ → Image Key (List ℕ) → Bool) (recs : List (Rec Key (List ℕ))) → Linked cmp least suits (start cmp least) recs
    → (read : ℕ → Option (Rec Key (List ℕ))) → LessSome read (at recs)
    → (p : ℕ) → 0 < (run cmp least (start cmp least) recs).newest p
    → (c : Rebuilt cmp least suits recs p)
    × ((f : ℕ) → (run cmp least (start cmp least) recs).newest p < f
    → rebuild cmp least suits read f p ((run cmp least (start cmp least) recs).newest p)
    ≡ verdict read c.positions ((run cmp least (start cmp least) recs).page p))

-- the changes that the store may make
module _ {K V : Type 0} (rank : K → ℕ) (top : ℕ) (least : K) where
  abbrev pub May : Change K V → Logged K V → Type 0
  May Format s = s ≡ start (by rank) least
  May (Put p k v) s = MayPut rank top (tree s) p k
  May (Remove p k) s = MayPut rank top (tree s) p k
  May (Foster p o d) s = (o ≡ s.born) × MayDivide rank top (tree s) p d
  May (Adopt p o k c) s = MayAdopt rank top (tree s) p o k c
  May (Grow o) s = o ≡ s.born

  -- a row of records that the store may have made
  abbrev pub Kept : Logged K V → List (Rec K V) → Type 0
  Kept s [] = Unit {0}
  Kept s (r ∷ rs) = May r.change s × Kept (append (by rank) least r s) rs

abbrev pub LogsSound : Type 0
LogsSound = (rank : Key → ℕ) (top : ℕ) (least : Key) → Ranking rank top least → (r : Rec Key (List ℕ)) (rs : List (Rec Key (List ℕ)))
    → Kept rank top least (start (by rank) least) (r ∷ rs) → r.change ≡ Format
    → Sound rank top least (tree (run (by rank) least (start (by rank) least) (r ∷ rs)))
