-- An order of keys told by numbers. Assumes nothing.
use Rattle.std.specs.Prelude.{◌≡◌, ℕ, zero, suc, ◌<◌, ◌≤◌, Bool, true, false, ◌&&◌, List, [], ◌∷◌, nat_lt, refl}
use Rattle.std.specs.declared.cmp.Ordering.{Ordering}
use Rattle.order.specs.Orders.{by_number}
use Rattle.order.specs.Lawful.{Says, Lawful}

-- at most n numbers, each below b
abbrev pub is_short : ℕ → ℕ → List ℕ → Bool
is_short b n [] = true
is_short b zero (c ∷ s) = false
is_short b (suc n) (c ∷ s) = nat_lt c b && is_short b n s

-- at most 16 bytes
pub record Key : Type 0 where
  pub bytes : List ℕ
  pub short : is_short 256 16 bytes ≡ true

abbrev pub empty_key : Key
empty_key = record { bytes = []; short = refl }

abbrev pub between : Says → Key → Key → Ordering
between says j k = says j.bytes k.bytes

abbrev pub by : {K : Type 0} → (K → ℕ) → K → K → Ordering
by rank j k = by_number (rank j) (rank k)

-- no two keys have one rank, all ranks are below `top`, and none is below the rank of `least`
pub record Ranking {K : Type 0} (rank : K → ℕ) (top : ℕ) (least : K) : Type 0 where
  pub one : (j k : K) → rank j ≡ rank k → j ≡ k
  pub below_top : (k : K) → rank k < top
  pub from_least : (k : K) → rank least ≤ rank k

-- the order compares ranks
pub record Told (says : Says) : Type 0 where
  pub rank : Key → ℕ
  pub top : ℕ
  pub ranking : Ranking rank top empty_key
  pub told : between says ≡ by rank

abbrev pub LawfulComparesRanks : Type 0
LawfulComparesRanks = (says : Says) → Lawful says → Told says
