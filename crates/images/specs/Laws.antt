-- What is written of pages and records is read back.
use Rattle.std.specs.Prelude.{◌≡◌, ℕ, suc, ◌^◌, ◌<◌, ◌≤◌, false, List, [], length, Some, None}
use Rattle.order.specs.Lawful.{Says, Lawful}
use Rattle.ranks.specs.Lists.{All}
use Rattle.ranks.specs.Ranks.{Ranking}
use Rattle.device.specs.Disk.{Page, holds, intact}
use Rattle.wal.specs.Records.{stamped}
use Rattle.tree.specs.Rows.{by}
use Rattle.tree.specs.Tree.{Image}
use Rattle.tree.specs.Log.{Change, Rec}
use Rattle.tree.specs.Log.Change.{Format, Put, Remove, Foster, Adopt, Grow}
use Rattle.tree.specs.Halves.{total}
use Rattle.tree.specs.Suits.{Form}
use Rattle.images.specs.Keys.{Key, Value, empty_key, keyed, pair_cost, kid_cost}
use Rattle.images.specs.Images.{encode_image, stored_page}
use Rattle.images.specs.Records.{encode_rec, decode_rec}

-- an order of keys told by numbers, as the tree compares them
pub record Ranked (says : Says) : Type 0 where
  pub rank : Key → ℕ
  pub top : ℕ
  pub ranking : Ranking rank top empty_key
  pub told : keyed says ≡ by rank

abbrev pub OrdersRankKeys : Type 0
OrdersRankKeys = (says : Says) → Lawful says → Ranked says

-- a number that page p may point to
pub record Child (p c : ℕ) : Type 0 where
  pub inner : c ≡ 0 → ⊥
  pub other : c ≡ p → ⊥
  pub word : c < 2 ^ 32

-- an image of page p that its layout can hold
pub record Shaped (rank : Key → ℕ) (top p : ℕ) (x : Image Key Value) : Type 0 where
  pub level : x.frame.level < 2 ^ 32
  pub leaf_kids : x.frame.level ≡ 0 → x.frame.kids ≡ []
  pub branch_pairs : (l : ℕ) → x.frame.level ≡ suc l → x.pairs ≡ []
  pub named : All (λ (e : Key × Value). 0 < length e.0.bytes) x.pairs
  pub form : Form rank top x
  pub foster_above : (f : Key × ℕ) → x.frame.foster ≡ Some f → rank x.frame.low < rank f.0
  pub fosters : (f : Key × ℕ) → x.frame.foster ≡ Some f → Child p f.1
  pub kids : All (λ (e : Key × ℕ). Child p e.1) x.frame.kids
  pub pairs_room : total pair_cost x.pairs ≤ 436
  pub kids_room : total kid_cost x.frame.kids ≤ 436

-- a page that is written is read back, as its own and at its position
abbrev pub PagesReadBack : Type 0
PagesReadBack = (says : Says) (r : Ranked says) (p n : ℕ) (x : Image Key Value) → p < 2 ^ 32 → n < 2 ^ 32 → Shaped r.rank r.top p x
    → stored_page says p (holds (encode_image p n x)) ≡ Some (record { lsn = n; image = x })

-- what is torn is not read
abbrev pub TornPagesFail : Type 0
TornPagesFail = (says : Says) (p : ℕ) (q : Page) → intact q ≡ false → stored_page says p q ≡ None

-- a change that a record can hold, with its pages' previous positions: those that its kind does not use are zero
abbrev pub Spelt : Change Key Value → ℕ → ℕ → Type 0
Spelt Format a b = (a ≡ 0) × (b ≡ 0)
Spelt (Put p k v) a b = (p < 2 ^ 32) × (0 < length k.bytes) × (b ≡ 0)
Spelt (Remove p k) a b = (p < 2 ^ 32) × (0 < length k.bytes) × (b ≡ 0)
Spelt (Foster p o k) a b = (p < 2 ^ 32) × (o < 2 ^ 32) × (0 < length k.bytes) × (b ≡ 0)
Spelt (Adopt p o k c) a b = (p < 2 ^ 32) × (o < 2 ^ 32) × (c < 2 ^ 32) × (0 < length k.bytes)
Spelt (Grow o) a b = (o < 2 ^ 32) × (b ≡ 0)

pub record Recordable (n : ℕ) (r : Rec Key Value) : Type 0 where
  pub position : n < 2 ^ 32
  pub prev : r.prev < 2 ^ 32
  pub prev_other : r.prev_other < 2 ^ 32
  pub spelt : Spelt r.change r.prev r.prev_other

abbrev pub RecordsReadBack : Type 0
RecordsReadBack = (n : ℕ) (r : Rec Key Value) → Recordable n r → decode_rec n (encode_rec n r) ≡ Some r

-- a log gives a record its position and seal, and finds them there already
abbrev pub RecordsKeepTheirStamp : Type 0
RecordsKeepTheirStamp = (n : ℕ) (r : Rec Key Value) → Recordable n r → stamped n (encode_rec n r) ≡ encode_rec n r

-- one image: what decodes is the image of what it decodes to
abbrev pub RecordsHaveOneImage : Type 0
RecordsHaveOneImage = (n : ℕ) (b : List ℕ) (r : Rec Key Value) → decode_rec n b ≡ Some r → encode_rec n r ≡ b
