-- Whether a record suits the page that it changes, told on the page's content.
use Rattle.std.specs.Prelude.{ℕ, Bool, true, false, cond, not, ◌&&◌, List, [], ◌∷◌, Some, None, Option, ◌==◌, nat_le, nat_lt}
use Rattle.std.specs.Ordering.{is_eq}
use Rattle.order.specs.Fences.{is_held}
use Rattle.order.specs.Lawful.{Says}
use Rattle.page.specs.Content.{Entry, Content, entry_key, upper, costs}
use Rattle.page.specs.Content.{Foster as Fostered}
use Rattle.page.specs.Content.Entry.{leaf, branch}
use Rattle.page_edit.specs.Edits.{placed, has}
use Rattle.tree.specs.Halves.{some}
use Rattle.tree.specs.Log.{Change}
use Rattle.tree.specs.Log.Change.{Format, Put, Remove, Foster, Adopt, Grow}
use Rattle.images.specs.Keys.{Key, Value}

-- the page's range has the key
abbrev pub holds_key : Says → List ℕ → Content → Bool
holds_key says key c = is_held says c.low key (upper c)

-- the entries have room in a page
abbrev pub have_room : List Entry → Bool
have_room es = nat_le (costs es) 436

-- the first entry has the key
unfoldable pub is_first_key : Says → List ℕ → List Entry → Bool
is_first_key says key [] = false
is_first_key says key (e ∷ es) = is_eq (says key (entry_key e))

-- an entry has the key, and not the first
abbrev pub divides : Says → List ℕ → List Entry → Bool
divides says key es = has says key es && not (is_first_key says key es)

-- the foster child is this page, from this key on
unfoldable pub fosters : Says → List ℕ → ℕ → Option Fostered → Bool
fosters says key child None = false
fosters says key child (Some f) = is_eq (says key f.key) && child == f.child

-- a branch that can gain an entry
abbrev pub can_adopt : Says → List ℕ → ℕ → Content → Bool
can_adopt says key child c =
    not (c.level == 0)
    && (holds_key says key c && (not (has says key c.entries) && have_room (placed says (branch key child) c.entries)))

-- a record suits the content of page p that it changes, or of the page that p is born of
abbrev pub suits_content : Says → Change Key Value → ℕ → Content → Bool
suits_content says Format p c = true
suits_content says (Put q k v) p c =
    (c.level == 0) && (holds_key says k.bytes c && have_room (placed says (leaf k.bytes v.bytes) c.entries))
suits_content says (Remove q k) p c = c.level == 0 && has says k.bytes c.entries
suits_content says (Foster q o d) p c = holds_key says d.bytes c && divides says d.bytes c.entries
suits_content says (Adopt q o k child) p c = cond (p == o) (fosters says k.bytes child c.foster) (can_adopt says k.bytes child c)
suits_content says (Grow o) p c = some c.foster && nat_lt c.level 255
