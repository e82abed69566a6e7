-- Keys and values as the tree has them, and what their entries cost of a page.
use Rattle.std.specs.Prelude.{◌≡◌, ℕ, ◌+◌, Bool, true, false, List, [], ◌∷◌, length, Some, None, Option, refl}
use Rattle.std.specs.declared.cmp.Ordering.TheVariants.{Less, Equal, Greater}
use Prim.Native.Nat.{Ordering}
use Rattle.std.specs.declared.cmp.Ordering as std
use Rattle.order.specs.Lawful.{Says}
pub use Rattle.ranks.specs.Ranks.{Key, empty_key, is_short}

-- at most 64 bytes
pub record Value : Type 0 where
  pub bytes : List ℕ
  pub short : is_short 256 64 bytes ≡ true

abbrev pub number : std.Ordering → Ordering
number Less = Ordering.lt
number Equal = Ordering.eq
number Greater = Ordering.gt

-- keys by an order of byte strings
abbrev pub keyed : Says → Key → Key → Ordering
keyed says j k = number (says j.bytes k.bytes)

-- an entry of a leaf and of a branch, its slot included
abbrev pub pair_cost : Key × Value → ℕ
pair_cost e = 4 + length e.0.bytes + length e.1.bytes

abbrev pub kid_cost : Key × ℕ → ℕ
kid_cost e = 7 + length e.0.bytes

abbrev pub opt : {A B : Type 0} → Option A → (A → Option B) → Option B
opt None f = None
opt (Some a) f = f a

unfoldable pub fence_if : (s : List ℕ) (t : Bool) → is_short 256 16 s ≡ t → Option Key
fence_if s true e = Some (record { bytes = s; short = e })
fence_if s false e = None

-- a fence has 0 to 16 bytes
unfoldable pub fence_of : List ℕ → Option Key
fence_of s = fence_if s (is_short 256 16 s) refl

-- a key has 1 to 16
unfoldable pub key_of : List ℕ → Option Key
key_of [] = None
key_of (b ∷ s) = fence_of (b ∷ s)

unfoldable pub value_if : (s : List ℕ) (t : Bool) → is_short 256 64 s ≡ t → Option Value
value_if s true e = Some (record { bytes = s; short = e })
value_if s false e = None

-- a value has 0 to 64
unfoldable pub value_of : List ℕ → Option Value
value_of s = value_if s (is_short 256 64 s) refl
