-- Keys in a row, and where a key is found among them. Assumes nothing.
use Rattle.std.specs.Prelude.{◌≡◌, ℕ, ◌-◌, ◌<◌, ◌≤◌, true, List, [], length, Some, None, Ok, Err, Option, Result, slice_index_or}
use Rattle.std.specs.declared.cmp.Ordering.TheVariants.{Less, Greater}
use Rattle.std.specs.Ordering.{is_le}
use Rattle.order.specs.Lawful.{Says}

abbrev pub key_at : List (List ℕ) → ℕ → List ℕ
key_at keys i = slice_index_or keys i []

-- the first n keys have at most 16 bytes, and each is less than every later one
pub record Rising (says : Says) (keys : List (List ℕ)) (n : ℕ) : Type 0 where
  pub short : (i : ℕ) → i < n → length (key_at keys i) ≤ 16
  pub less : (i j : ℕ) → i < j → j < n → says (key_at keys i) (key_at keys j) ≡ Less

abbrev pub Ascending : Says → List (List ℕ) → Type 0
Ascending says keys = Rising says keys (length keys)

-- the key in the slot has at most 16 bytes, and is greater than the one before it
pub record Follows (says : Says) (keys : List (List ℕ)) (slot : ℕ) : Type 0 where
  pub short : length (key_at keys slot) ≤ 16
  pub above : 0 < slot → says (key_at keys (slot - 1)) (key_at keys slot) ≡ Less

-- the keys in slots below `low` are less than the key, those from slot `high` on are greater
pub record Parted (says : Says) (keys : List (List ℕ)) (key : List ℕ) (low high : ℕ) : Type 0 where
  pub ordered : low ≤ high
  pub within : high ≤ length keys
  pub less : (i : ℕ) → i < low → says (key_at keys i) key ≡ Less
  pub greater : (i : ℕ) → high ≤ i → i < length keys → says (key_at keys i) key ≡ Greater

-- the slot that has the key, or the one that parts the lesser keys from the greater
abbrev pub Found : Says → List (List ℕ) → List ℕ → Result ℕ ℕ → Type 0
Found says keys key (Ok i) = (i < length keys) × (key_at keys i ≡ key)
Found says keys key (Err i) = Parted says keys key i i

-- the last slot whose key is not above the key; none where each is above
abbrev pub Floor : Says → List (List ℕ) → List ℕ → Option ℕ → Type 0
Floor says keys key None = (i : ℕ) → i < length keys → says (key_at keys i) key ≡ Greater
Floor says keys key (Some i) = (i < length keys) × (is_le (says (key_at keys i) key) ≡ true) × ((j : ℕ) → i < j → j < length keys → says (key_at keys j) key ≡ Greater)
