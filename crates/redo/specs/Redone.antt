-- One log record applied to the image of the page that it changes. Rebuilding keeps the images on its way under page number 0: no child
-- has that number, so that no such image has its own among its children, whatever the log says.
use Rattle.std.specs.Prelude.{ℕ, Bool, true, cond, ◌&&◌, List, Some, None, Option, ◌==◌, nat_lt}
use Rattle.order.specs.Lawful.{Says}
use Rattle.page.specs.Content.{Content}
use Rattle.page.specs.Content.Entry.{leaf}
use Rattle.page_edit.specs.Edits.{placed, has, formatted, after_put, after_remove, after_adopting, lower_half, upper_half, after_adoption, grown_root, grown_child, image_if}
use Rattle.record.specs.Contents.{format, put, remove, foster, adopt, grow}
use Rattle.record.specs.Contents as log
use Rattle.tree.specs.Halves.{some}
use Rattle.edits.specs.Suits.{holds_key, have_room, divides, fosters, can_adopt}

-- what the record at position n makes of a content, as the new content of page p
abbrev pub made_content : Says → ℕ → log.Content → ℕ → Content → Content
-- page 0 is made anew
made_content says n format p c = formatted n
made_content says n (put page previous key value) p c = after_put says n key value c
made_content says n (remove page previous key) p c = after_remove says n key c
-- the new page has the entries from the key on, the old one those below it
made_content says n (foster page previous other key) p c = cond (p == other) (upper_half says n key 0 c) (lower_half says n key other c)
-- the page that gives its foster child away ends at the key, the branch gains an entry
made_content says n (adopt page previous other other_previous child key) p c =
    cond (p == other) (after_adoption n key c) (after_adopting says n key child c)
-- page 0 rises above the new page, which has all that page 0 had
made_content says n (grow previous other) p c = cond (p == 0) (grown_root n other c) (grown_child n 0 c)

-- a record suits the content of page p that it changes, or of the page that p is born of
abbrev pub suits_record : Says → log.Content → ℕ → Content → Bool
suits_record says format p c = true
-- a leaf whose range has the key, and that has room
suits_record says (put page previous key value) p c =
    (c.level == 0) && (holds_key says key c && have_room (placed says (leaf key value) c.entries))
-- a leaf that has the key
suits_record says (remove page previous key) p c = c.level == 0 && has says key c.entries
-- the key is that of an entry, and not of the first
suits_record says (foster page previous other key) p c = holds_key says key c && divides says key c.entries
-- the one page has this foster child, the other is a branch that can gain the entry
suits_record says (adopt page previous other other_previous child key) p c =
    cond (p == other) (fosters says key child c.foster) (can_adopt says key child c)
-- a root with a foster child, below the highest level
suits_record says (grow previous other) p c = some c.foster && nat_lt c.level 255

-- the content that a record makes, if it suits
abbrev pub redone : Says → ℕ → log.Content → ℕ → Content → Option Content
redone says n r p c = cond (suits_record says r p c) (Some (made_content says n r p c)) None

-- and its image
abbrev pub redone_image : Says → ℕ → log.Content → ℕ → Content → Option (List ℕ)
redone_image says n r p c = image_if (suits_record says r p c) (made_content says n r p c)
