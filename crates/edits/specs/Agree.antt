-- What page_edit makes of a page's content is the content of what the tree makes of the page's image.
use Rattle.std.specs.Prelude.{◌≡◌, ℕ, suc, ◌<◌, ◌≤◌, length, Some, None, Option}
use Rattle.order.specs.Lawful.{Says}
use Rattle.page.specs.Content.{Content, entry_key, entry_at, costs}
use Rattle.page_edit.specs.Edits.{first_half, formatted, after_put, after_remove, after_adopting, lower_half, upper_half, after_adoption, grown_root, grown_child, has}
use Rattle.tree.specs.Rows.{find}
use Rattle.tree.specs.Tree.{Image, putting, removing, gaining_image, lower_image, upper_image, ceding_image, risen_image}
use Rattle.tree.specs.Log.{Change, blank}
use Rattle.tree.specs.Halves.{some, total, divider}
use Rattle.tree.specs.Suits.{Form, suits}
use Rattle.images.specs.Keys.{Key, Value, empty_key, keyed, pair_cost, kid_cost}
use Rattle.images.specs.Images.{content_of}
use Rattle.images.specs.Laws.{Ranked}
use Rattle.edits.specs.Suits.{suits_content}

abbrev pub PutIsTheTrees : Type 0
PutIsTheTrees = (says : Says) → Ranked says → (p m n : ℕ) (k : Key) (v : Value) (x : Image Key Value) → x.frame.level ≡ 0
    → content_of p n (putting (keyed says) empty_key k v x) ≡ after_put says n k.bytes v.bytes (content_of p m x)

-- page_edit takes the first entry away that has the key, the tree all: a row in order has one at most
abbrev pub RemoveIsTheTrees : Type 0
RemoveIsTheTrees = (says : Says) (r : Ranked says) (p m n : ℕ) (k : Key) (x : Image Key Value) → x.frame.level ≡ 0
    → Form r.rank r.top x
    → content_of p n (removing (keyed says) empty_key k x) ≡ after_remove says n k.bytes (content_of p m x)

abbrev pub AdoptingIsTheTrees : Type 0
AdoptingIsTheTrees = (says : Says) → Ranked says → (p m n : ℕ) (k : Key) (c : ℕ) (x : Image Key Value) (l : ℕ) → x.frame.level ≡ suc l
    → content_of p n (gaining_image (keyed says) empty_key k c x) ≡ after_adopting says n k.bytes c (content_of p m x)

-- an entry has a key exactly if the tree finds it
abbrev pub HasIsTheTrees : Type 0
HasIsTheTrees = (says : Says) (p m : ℕ) (k : Key) (x : Image Key Value)
    → (x.frame.level ≡ 0 → has says k.bytes (content_of p m x).entries ≡ some (find (keyed says) k x.pairs))
    × ((l : ℕ) → x.frame.level ≡ suc l → has says k.bytes (content_of p m x).entries ≡ some (find (keyed says) k x.frame.kids))

abbrev pub HalvesAreTheTrees : Type 0
HalvesAreTheTrees = (says : Says) (r : Ranked says) (p q m n : ℕ) (d : Key) (x : Image Key Value) → Form r.rank r.top x
    → (content_of p n (lower_image (keyed says) empty_key d q x) ≡ lower_half says n d.bytes q (content_of p m x))
    × (content_of q n (upper_image (keyed says) empty_key d x) ≡ upper_half says n d.bytes q (content_of p m x))

abbrev pub AdoptionIsTheTrees : Type 0
AdoptionIsTheTrees = (says : Says) (p m n : ℕ) (k : Key) (x : Image Key Value)
    → content_of p n (ceding_image (keyed says) empty_key k x) ≡ after_adoption n k.bytes (content_of p m x)

abbrev pub GrowthIsTheTrees : Type 0
GrowthIsTheTrees = (says : Says) (q m n : ℕ) (x : Image Key Value)
    → (x.frame.low ≡ empty_key → x.frame.high ≡ None → content_of 0 n (risen_image (keyed says) empty_key q x) ≡ grown_root n q (content_of 0 m x))
    × (content_of q n x ≡ grown_child n q (content_of 0 m x))

abbrev pub FormatIsTheTrees : Type 0
FormatIsTheTrees = (says : Says) (n : ℕ) → content_of 0 n (blank (keyed says) empty_key) ≡ formatted n

abbrev pub CostsAreTheTrees : Type 0
CostsAreTheTrees = (p n : ℕ) (x : Image Key Value)
    → (x.frame.level ≡ 0 → costs (content_of p n x).entries ≡ total pair_cost x.pairs)
    × ((l : ℕ) → x.frame.level ≡ suc l → costs (content_of p n x).entries ≡ total kid_cost x.frame.kids)

-- the key after the first half of a content's entries, if there is one
pub record Halved (c : Content) (d : Option Key) : Type 0 where
  pub key : (k : Key) → d ≡ Some k → (first_half c.entries < length c.entries) × (entry_key (entry_at c (first_half c.entries)) ≡ k.bytes)
  pub none : d ≡ None → length c.entries ≤ first_half c.entries

abbrev pub DividersAreTheTrees : Type 0
DividersAreTheTrees = (p n : ℕ) (x : Image Key Value)
    → (x.frame.level ≡ 0 → Halved (content_of p n x) (divider pair_cost x.pairs))
    × ((l : ℕ) → x.frame.level ≡ suc l → Halved (content_of p n x) (divider kid_cost x.frame.kids))

-- q is the page that the content is of: p itself, or the page that p is born of
abbrev pub SuitsIsTheTrees : Type 0
SuitsIsTheTrees = (says : Says) → Ranked says → (c : Change Key Value) (p q m : ℕ) (x : Image Key Value)
    → suits (keyed says) pair_cost kid_cost c p x ≡ suits_content says c p (content_of q m x)
