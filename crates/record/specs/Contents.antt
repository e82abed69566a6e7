-- What a log record says, and the one image of it. The position is the log's to give, so a content does not hold it.
use Rattle.std.specs.Prelude.{ℕ, Bool, cond, ◌&&◌, List, [], length, Some, None, Option, ◌==◌, nat_le, nat_lt, slice_index}
use Rattle.std.specs.Str.{bytes_eq}
use Rattle.record.specs.Layout.{Raw, encode, parse}

pub data Content : Type 0 where
  -- page 0 is made
  format : Content
  put : (page previous : ℕ) (key value : List ℕ) → Content
  remove : (page previous : ℕ) (key : List ℕ) → Content
  -- a page gives its entries from the key on to a new page
  foster : (page previous other : ℕ) (key : List ℕ) → Content
  -- a page takes the foster child of its child `other` as a child of its own
  adopt : (page previous other other_previous child : ℕ) (key : List ℕ) → Content
  -- page 0 gives its entries to a new page, and becomes a branch above it
  grow : (previous other : ℕ) → Content

abbrev pub raw : ℕ → ℕ → ℕ → ℕ → ℕ → ℕ → ℕ → List ℕ → List ℕ → Raw
raw position kind page previous other other_previous child key value = record {
  position = position;
  page = page;
  previous = previous;
  other = other;
  other_previous = other_previous;
  child = child;
  kind = kind;
  key = key;
  value = value;
}

-- what a kind does not use is zero
abbrev pub raw_of : ℕ → Content → Raw
raw_of position format = raw position 1 0 0 0 0 0 [] []
raw_of position (put page previous key value) = raw position 2 page previous 0 0 0 key value
raw_of position (remove page previous key) = raw position 3 page previous 0 0 0 key []
raw_of position (foster page previous other key) = raw position 4 page previous other 0 0 key []
raw_of position (adopt page previous other other_previous child key) = raw position 5 page previous other other_previous child key []
raw_of position (grow previous other) = raw position 6 0 previous other 0 0 [] []

abbrev pub encode_record : ℕ → Content → List ℕ
encode_record position c = encode (raw_of position c)

-- a kind with a key: a key has at least one byte
abbrev pub keyed_in : Raw → Option Content
keyed_in r =
    cond (r.kind == 2) (Some (put r.page r.previous r.key r.value))
    (cond (r.kind == 3) (Some (remove r.page r.previous r.key))
    (cond (r.kind == 4) (Some (foster r.page r.previous r.other r.key))
    (cond (r.kind == 5) (Some (adopt r.page r.previous r.other r.other_previous r.child r.key))
    None)))

-- the content by its kind, from the fields that the kind uses
abbrev pub content_in : Raw → Option Content
content_in r =
    cond (r.kind == 1) (Some format)
    (cond (r.kind == 6) (Some (grow r.previous r.other))
    (cond (nat_lt 0 (length r.key)) (keyed_in r)
    None))

-- the length of a record, and length bytes that leave the fields within it
abbrev pub measured : List ℕ → Bool
measured b = length b == 128 && (nat_le (slice_index b 25) 16 && nat_le (slice_index b 42) 64)

abbrev pub if_image : List ℕ → ℕ → Option Content → Option (ℕ × Content)
if_image b position None = None
if_image b position (Some c) = cond (bytes_eq (encode_record position c) b) (Some (position, c)) None

-- a row of bytes is a record only if it is the one image of what its fields say
abbrev pub decode_record : List ℕ → Option (ℕ × Content)
decode_record b = cond (measured b) (if_image b (parse b).position (content_in (parse b))) None

-- a record is to hold the position that it is read at
abbrev pub if_at : ℕ → Option (ℕ × Content) → Option Content
if_at position None = None
if_at position (Some r) = cond (r.0 == position) (Some r.1) None

abbrev pub decode_at : ℕ → List ℕ → Option Content
decode_at position b = if_at position (decode_record b)
