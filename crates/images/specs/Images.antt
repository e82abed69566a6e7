-- The image of a page as the tree has it, in bytes, and the checks of a page.
use Rattle.std.specs.Prelude.{ℕ, zero, suc, cond, List, [], ◌∷◌, Some, None, Option, ◌==◌}
use Rattle.order.specs.Fences.{Bound}
use Rattle.order.specs.Lawful.{Says}
use Rattle.field.specs.Fields.{word}
use Rattle.seal.specs.Seal.{is_sealed}
use Rattle.page.specs.Content.{Content, Entry}
use Rattle.page.specs.Content.{Foster as Fostered}
use Rattle.page.specs.Content.Entry.{leaf, branch}
use Rattle.page.specs.Image.{encode_page}
use Rattle.page.specs.Form.{decode_page}
use Rattle.device.specs.Disk.{Page, holds, unreadable}
use Rattle.tree.specs.Tree.{Image}
use Rattle.tree.specs.Worlds.{Stored}
use Rattle.images.specs.Keys.{Key, Value, opt, fence_of, key_of, value_of}

abbrev pub bound_of : Option Key → Bound
bound_of None = None
bound_of (Some k) = Some k.bytes

abbrev pub foster_of : Option (Key × ℕ) → Option Fostered
foster_of None = None
foster_of (Some f) = Some (record { key = f.0.bytes; child = f.1 })

unfoldable pub leaves : List (Key × Value) → List Entry
leaves [] = []
leaves (e ∷ es) = leaf e.0.bytes e.1.bytes ∷ leaves es

unfoldable pub branches : List (Key × ℕ) → List Entry
branches [] = []
branches (e ∷ es) = branch e.0.bytes e.1 ∷ branches es

-- a leaf holds its pairs, a branch its kids
abbrev pub entries_of : ℕ → Image Key Value → List Entry
entries_of zero x = leaves x.pairs
entries_of (suc l) x = branches x.frame.kids

-- page p's content at position n
unfoldable pub content_of : ℕ → ℕ → Image Key Value → Content
content_of p n x = record {
  number = p;
  lsn = n;
  level = x.frame.level;
  low = x.frame.low.bytes;
  high = bound_of x.frame.high;
  foster = foster_of x.frame.foster;
  entries = entries_of x.frame.level x;
}

-- page p's bytes at position n
unfoldable pub encode_image : ℕ → ℕ → Image Key Value → List ℕ
encode_image p n x = encode_page (content_of p n x)

-- Reading: the image that a content tells, if its keys and values have their lengths.

unfoldable pub bound_in : Bound → Option (Option Key)
bound_in None = Some None
bound_in (Some s) = opt (fence_of s) (λ k. Some (Some k))

unfoldable pub foster_in : Option Fostered → Option (Option (Key × ℕ))
foster_in None = Some None
foster_in (Some f) = opt (fence_of f.key) (λ k. Some (Some (k, f.child)))

unfoldable pub pairs_in : List Entry → Option (List (Key × Value))
pairs_in [] = Some []
pairs_in (leaf k v ∷ es) = opt (key_of k) (λ k'. opt (value_of v) (λ v'. opt (pairs_in es) (λ es'. Some ((k', v') ∷ es'))))
pairs_in (branch k c ∷ es) = None

unfoldable pub kids_in : List Entry → Option (List (Key × ℕ))
kids_in [] = Some []
kids_in (leaf k v ∷ es) = None
kids_in (branch k c ∷ es) = opt (fence_of k) (λ k'. opt (kids_in es) (λ es'. Some ((k', c) ∷ es')))

unfoldable pub entries_in : ℕ → List Entry → Option (List (Key × ℕ) × List (Key × Value))
entries_in zero es = opt (pairs_in es) (λ pairs. Some ([], pairs))
entries_in (suc l) es = opt (kids_in es) (λ kids. Some (kids, []))

unfoldable pub image_in : Content → Option (Image Key Value)
image_in c =
    opt (fence_of c.low) (λ low. opt (bound_in c.high) (λ high. opt (foster_in c.foster) (λ foster. opt (entries_in c.level c.entries) (λ es.
    Some (record { frame = record { level = c.level; low = low; high = high; foster = foster; kids = es.0 }; pairs = es.1 })))))

unfoldable pub stored_as : ℕ → Option (Image Key Value) → Option (Stored Key Value)
stored_as n None = None
stored_as n (Some x) = Some (record { lsn = n; image = x })

unfoldable pub stored_in : Option Content → Option (Stored Key Value)
stored_in None = None
stored_in (Some c) = stored_as c.lsn (image_in c)

-- what page p reads as: it is readable, sealed, has its own number and is well formed. That its position is the index's is asked of what
-- this gives; specs/Checks has all checks in their order, and that they decide the same
unfoldable pub stored_page : Says → ℕ → Page → Option (Stored Key Value)
stored_page says p unreadable = None
stored_page says p (holds b) =
    let form = stored_in (decode_page says b) in
    let own = cond (word b 0 == p) form None in
    cond (is_sealed b) own None
