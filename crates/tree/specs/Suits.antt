-- Whether a record suits the image that it changes.
use Rattle.std.specs.Prelude.{◌≡◌, ℕ, zero, suc, ◌<◌, Bool, true, false, cond, not, ◌&&◌, List, [], ◌∷◌, Some, None, Option, ◌==◌, nat_le, nat_lt}
use Prim.Native.Nat.{Ordering}
use Rattle.std.proofs.Math.Dec.{is_le, compare_is_eq}
use Rattle.tree.specs.Rows.{set, find, is_less, by, Ascends}
use Rattle.tree.specs.Tree.{Frame, Image, Ranking, Key, edge, upper}
use Rattle.tree.specs.Halves.{total, some, divides_row}
use Rattle.tree.specs.Log.{Change, Rec, rebuild}
use Rattle.tree.specs.Log.Change.{Format, Put, Remove, Foster, Adopt, Grow}
use Rattle.tree.specs.Log.Built.{Done}

module _ {K : Type 0} (cmp : K → K → Ordering) where
  abbrev pub below : K → Option K → Bool
  below k None = true
  below k (Some u) = is_less (cmp k u)

  abbrev pub in_bounds : K → Frame K → Bool
  in_bounds k x = is_le (cmp x.low k) && below k (upper x)

  abbrev pub is_key : K → Option K → Bool
  is_key k None = false
  is_key k (Some j) = compare_is_eq (cmp k j)

  abbrev pub is_foster : K → ℕ → Option (K × ℕ) → Bool
  is_foster k c None = false
  is_foster k c (Some f) = compare_is_eq (cmp k f.0) && c == f.1

module _ {K V : Type 0} (cmp : K → K → Ordering) (pair_cost : K × V → ℕ) (kid_cost : K × ℕ → ℕ) where
  abbrev pub divides_page : K → ℕ → Image K V → Bool
  divides_page d zero x = divides_row cmp d x.pairs
  divides_page d (suc l) x = divides_row cmp d x.frame.kids

  abbrev pub adopts : K → ℕ → ℕ → Image K V → Bool
  adopts k c zero x = false
  adopts k c (suc l) x = in_bounds cmp k x.frame && (not (some (find cmp k x.frame.kids)) && nat_le (total kid_cost (set cmp k c x.frame.kids)) 436)

  -- a record suits the image of page p that it changes, or of the page that p is born of
  abbrev pub suits : Change K V → ℕ → Image K V → Bool
  suits Format p x = true
  suits (Put q k v) p x = x.frame.level == 0 && (in_bounds cmp k x.frame && nat_le (total pair_cost (set cmp k v x.pairs)) 436)
  suits (Remove q k) p x = x.frame.level == 0 && some (find cmp k x.pairs)
  suits (Foster q o d) p x = in_bounds cmp d x.frame && divides_page d x.frame.level x
  suits (Adopt q o k c) p x = cond (p == o) (is_foster cmp k c x.frame.foster) (adopts k c x.frame.level x)
  suits (Grow o) p x = some x.frame.foster && nat_lt x.frame.level 255

abbrev pub first_of : {K A : Type 0} → List (K × A) → Option K
first_of [] = None
first_of (e ∷ es) = Some e.0

-- a page's form, but for its room
pub record Form {K V : Type 0} (rank : K → ℕ) (top : ℕ) (x : Image K V) : Type 0 where
  pub spans : rank x.frame.low < edge rank top (upper x.frame)
  pub foster_below : (f : K × ℕ) → x.frame.foster ≡ Some f → rank f.0 < edge rank top x.frame.high
  pub pairs_ascend : Ascends rank (rank x.frame.low) x.pairs (edge rank top (upper x.frame))
  pub kids_ascend : Ascends rank (rank x.frame.low) x.frame.kids (edge rank top (upper x.frame))
  pub first_is : (l : ℕ) → x.frame.level ≡ suc l → first_of x.frame.kids ≡ Some x.frame.low

-- whatever a log holds, what is made again from it is well formed
abbrev pub BuiltFormed : Type 0
BuiltFormed = (rank : Key → ℕ) (top : ℕ) (least : Key) → Ranking rank top least → (pair_cost : Key × List ℕ → ℕ) (kid_cost : Key × ℕ → ℕ)
    → (read : ℕ → Option (Rec Key (List ℕ))) (f p n : ℕ) (x : Image Key (List ℕ))
    → rebuild (by rank) least (suits (by rank) pair_cost kid_cost) read f p n ≡ Done x → Form rank top x
