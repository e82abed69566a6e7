-- What a page holds.
use Rattle.std.specs.Prelude.{ℕ, ◌+◌, List, [], ◌∷◌, length, Some, None, Option, slice_index_or}
use Rattle.order.specs.Fences.{Bound}

-- a leaf has keys with values, a branch keys with children
pub data Entry : Type 0 where
  leaf : List ℕ → List ℕ → Entry
  branch : List ℕ → ℕ → Entry

-- the foster child, and the key from which on it stands for the page
pub record Foster : Type 0 where
  pub key : List ℕ
  pub child : ℕ

-- the LSN is the position of the last log record that changed the page; leaves have level 0
pub record Content : Type 0 where
  pub number : ℕ
  pub lsn : ℕ
  pub level : ℕ
  pub low : List ℕ
  pub high : Bound
  pub foster : Option Foster
  pub entries : List Entry

unfoldable pub entry_key : Entry → List ℕ
entry_key (leaf key value) = key
entry_key (branch key child) = key

unfoldable pub value_in : Entry → List ℕ
value_in (leaf key value) = value
value_in (branch key child) = []

unfoldable pub child_in : Entry → ℕ
child_in (leaf key value) = 0
child_in (branch key child) = child

-- past the last entry an empty one
unfoldable pub entry_at : Content → ℕ → Entry
entry_at p i = slice_index_or p.entries i (leaf [] [])

unfoldable pub keys_in : List Entry → List (List ℕ)
keys_in [] = []
keys_in (e ∷ es) = entry_key e ∷ keys_in es

abbrev pub keys_of : Content → List (List ℕ)
keys_of p = keys_in p.entries

-- without foster child there is no foster key, and its number is 0
unfoldable pub foster_key : Option Foster → List ℕ
foster_key None = []
foster_key (Some f) = f.key

unfoldable pub foster_child : Option Foster → ℕ
foster_child None = 0
foster_child (Some f) = f.child

-- the upper bound is the foster key, or without foster child the high fence
unfoldable pub upper_of : Bound → Option Foster → Bound
upper_of high None = high
upper_of high (Some f) = Some f.key

unfoldable pub upper : Content → Bound
upper p = upper_of p.high p.foster

-- what an entry costs of a page's 436 bytes: its own and two of its slot
unfoldable pub cost : Entry → ℕ
cost (leaf key value) = 4 + length key + length value
cost (branch key child) = 7 + length key

unfoldable pub costs : List Entry → ℕ
costs [] = 0
costs (e ∷ es) = cost e + costs es
