-- How a change alters the content of a page. Each change gives the page the position of its own log record.
use Rattle.std.specs.Prelude.{ℕ, suc, ◌+◌, ◌*◌, Bool, false, cond, ◌||◌, List, [], ◌∷◌, Some, None, Option, nat_le}
use Rattle.std.specs.declared.cmp.Ordering.TheVariants.{Less, Equal, Greater}
use Rattle.std.specs.declared.cmp.Ordering.{Ordering}
use Rattle.std.specs.Ordering.{is_eq, is_lt}
use Rattle.order.specs.Lawful.{Says}
use Rattle.page.specs.Content.{Entry, Content, entry_key, cost, costs}
use Rattle.page.specs.Content.Entry.{leaf, branch}
use Rattle.page.specs.Image.{encode_page}

-- an entry among others in key order; one with the same key gives way to it
unfoldable pub placed_at : Ordering → Entry → Entry → List Entry → List Entry → List Entry
placed_at Less e x behind further = e ∷ x ∷ behind
placed_at Equal e x behind further = e ∷ behind
placed_at Greater e x behind further = x ∷ further

unfoldable pub placed : Says → Entry → List Entry → List Entry
placed says e [] = e ∷ []
placed says e (x ∷ es) = placed_at (says (entry_key e) (entry_key x)) e x es (placed says e es)

unfoldable pub without : Says → List ℕ → List Entry → List Entry
without says key [] = []
without says key (x ∷ es) = cond (is_eq (says key (entry_key x))) es (x ∷ without says key es)

-- the entries below a key, and those from it on
unfoldable pub below : Says → List ℕ → List Entry → List Entry
below says key [] = []
below says key (x ∷ es) = cond (is_lt (says (entry_key x) key)) (x ∷ below says key es) []

unfoldable pub from : Says → List ℕ → List Entry → List Entry
from says key [] = []
from says key (x ∷ es) = cond (is_lt (says (entry_key x) key)) (from says key es) (x ∷ es)

-- the least number of first entries that cost at least half of all; the key after them divides
unfoldable pub halfway : ℕ → ℕ → List Entry → ℕ
halfway total spent [] = 0
halfway total spent (e ∷ es) = cond (nat_le total (2 * (spent + cost e))) 1 (suc (halfway total (spent + cost e) es))

unfoldable pub first_half : List Entry → ℕ
first_half es = halfway (costs es) 0 es

-- page 0 of a new tree: an empty leaf for all keys
unfoldable pub formatted : ℕ → Content
formatted lsn = record { number = 0; lsn = lsn; level = 0; low = []; high = None; foster = None; entries = [] }

unfoldable pub with_entries : ℕ → List Entry → Content → Content
with_entries lsn entries p = record {
  number = p.number;
  lsn = lsn;
  level = p.level;
  low = p.low;
  high = p.high;
  foster = p.foster;
  entries = entries;
}

abbrev pub after_put : Says → ℕ → List ℕ → List ℕ → Content → Content
after_put says lsn key value p = with_entries lsn (placed says (leaf key value) p.entries) p

abbrev pub after_remove : Says → ℕ → List ℕ → Content → Content
after_remove says lsn key p = with_entries lsn (without says key p.entries) p

abbrev pub after_adopting : Says → ℕ → List ℕ → ℕ → Content → Content
after_adopting says lsn key child p = with_entries lsn (placed says (branch key child) p.entries) p

-- a page that gave its entries from a key on to a new page: its high fence stays until a branch adopts the new one
unfoldable pub lower_half : Says → ℕ → List ℕ → ℕ → Content → Content
lower_half says lsn key other p = record {
  number = p.number;
  lsn = lsn;
  level = p.level;
  low = p.low;
  high = p.high;
  foster = Some (record { key = key; child = other });
  entries = below says key p.entries;
}

unfoldable pub upper_half : Says → ℕ → List ℕ → ℕ → Content → Content
upper_half says lsn key other p = record {
  number = other;
  lsn = lsn;
  level = p.level;
  low = key;
  high = p.high;
  foster = p.foster;
  entries = from says key p.entries;
}

-- a page whose foster child was adopted: it ends where that child begins
unfoldable pub after_adoption : ℕ → List ℕ → Content → Content
after_adoption lsn key p = record {
  number = p.number;
  lsn = lsn;
  level = p.level;
  low = p.low;
  high = Some key;
  foster = None;
  entries = p.entries;
}

-- a root that grew: one level higher, above a new page that has all it had
unfoldable pub grown_root : ℕ → ℕ → Content → Content
grown_root lsn other p = record {
  number = p.number;
  lsn = lsn;
  level = suc p.level;
  low = p.low;
  high = p.high;
  foster = None;
  entries = branch [] other ∷ [];
}

unfoldable pub grown_child : ℕ → ℕ → Content → Content
grown_child lsn other p = record {
  number = other;
  lsn = lsn;
  level = p.level;
  low = p.low;
  high = p.high;
  foster = p.foster;
  entries = p.entries;
}

unfoldable pub has : Says → List ℕ → List Entry → Bool
has says key [] = false
has says key (x ∷ es) = is_eq (says key (entry_key x)) || has says key es

-- the image of a content, if its entries fit a page
abbrev pub fitting_image : Content → Option (List ℕ)
fitting_image p = cond (nat_le (costs p.entries) 436) (Some (encode_page p)) None

abbrev pub image_if : Bool → Content → Option (List ℕ)
image_if b p = cond b (Some (encode_page p)) None
