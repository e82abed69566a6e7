-- The tree's records in bytes.
use Rattle.std.specs.Prelude.{ℕ, Bool, true, cond, not, ◌&&◌, List, Some, None, Option, ◌==◌, nat_lt}
use Rattle.record.specs.Contents.{Content, format, put, remove, foster, adopt, grow, encode_record, decode_at}
use Rattle.wal.specs.Journal.{Entry, entry, lost}
use Rattle.tree.specs.Log.{Change, Rec}
use Rattle.tree.specs.Log.Change.{Format, Put, Remove, Foster, Adopt, Grow}
use Rattle.images.specs.Keys.{Key, Value, empty_key, opt, key_of, value_of}

-- what a change with the previous positions a and b of its pages says
unfoldable pub content_for : ℕ → ℕ → Change Key Value → Content
content_for a b Format = format
content_for a b (Put p k v) = put p a k.bytes v.bytes
content_for a b (Remove p k) = remove p a k.bytes
content_for a b (Foster p o d) = foster p a o d.bytes
content_for a b (Adopt p o k c) = adopt p a o b c k.bytes
content_for a b (Grow o) = grow a o

-- a record's bytes at position n
unfoldable pub encode_rec : ℕ → Rec Key Value → List ℕ
encode_rec n r = encode_record n (content_for r.prev r.prev_other r.change)

abbrev pub linked_as : ℕ → ℕ → Change Key Value → Rec Key Value
linked_as a b c = record { change = c; prev = a; prev_other = b }

-- the record that a content is, if its key and value have their lengths
unfoldable pub rec_of : Content → Option (Rec Key Value)
rec_of format = Some (linked_as 0 0 Format)
rec_of (put p a k v) = opt (key_of k) (λ k'. opt (value_of v) (λ v'. Some (linked_as a 0 (Put p k' v'))))
rec_of (remove p a k) = opt (key_of k) (λ k'. Some (linked_as a 0 (Remove p k')))
rec_of (foster p a o k) = opt (key_of k) (λ k'. Some (linked_as a 0 (Foster p o k')))
rec_of (adopt p a o b c k) = opt (key_of k) (λ k'. Some (linked_as a b (Adopt p o k' c)))
rec_of (grow a o) = Some (linked_as a 0 (Grow o))

-- a record is read only at its own position, and only as the one image of what it says
unfoldable pub decode_rec : ℕ → List ℕ → Option (Rec Key Value)
decode_rec n b = opt (decode_at n b) rec_of

-- it names no page twice, page 0 neither as other nor as child, and previous positions below its own
unfoldable pub names_well : ℕ → Rec Key Value → Bool
names_well n r = named r.change
  where
    named : Change Key Value → Bool
    named Format = true
    named (Put p k v) = nat_lt r.prev n
    named (Remove p k) = nat_lt r.prev n
    named (Foster p o d) = nat_lt r.prev n && (not (p == o) && not (o == 0))
    named (Adopt p o k c) = (nat_lt r.prev n && nat_lt r.prev_other n) && ((not (p == o) && not (p == c)) && (not (o == c) && (not (o == 0) && not (c == 0))))
    named (Grow o) = nat_lt r.prev n && not (o == 0)

-- a record that misfits at its position n whichever page is asked for: it leaves out all pages but 0, and for that names itself as previous
unfoldable pub misfit : ℕ → Rec Key Value
misfit n = record { change = Remove 0 empty_key; prev = n; prev_other = 0 }

unfoldable pub or_misfit : ℕ → Option (Rec Key Value) → Rec Key Value
or_misfit n None = misfit n
or_misfit n (Some r) = cond (names_well n r) r (misfit n)

-- what walking back meets in the bytes at position n: what is badly laid out or names badly misfits
unfoldable pub chain_rec : ℕ → List ℕ → Rec Key Value
chain_rec n b = or_misfit n (decode_rec n b)

-- and in the row: nothing where the record is lost
unfoldable pub entry_rec : ℕ → Entry → Option (Rec Key Value)
entry_rec n lost = None
entry_rec n (entry b) = Some (chain_rec n b)
