-- The image of a page in 512 bytes: a header of 72, the slots, a gap of zeros, a heap that grows down from 508, and the seal.
use Rattle.std.specs.Prelude.{ℕ, zero, suc, ◌+◌, ◌-◌, ◌*◌, cond, List, [], ◌∷◌, ◌++◌, length, take, drop, replicate, Some, None, Option, ◌==◌, slice_index}
use Rattle.field.specs.Fields.{le2, half, word, prefixed, field, field_at}
use Rattle.order.specs.Fences.{Bound}
use Rattle.seal.specs.Seal.{le4, sealed}
use Rattle.page.specs.Content.{Entry, Foster, Content, foster_key, foster_child}
use Rattle.page.specs.Content.Entry.{leaf, branch}

unfoldable pub entry_bytes : Entry → List ℕ
entry_bytes (leaf key value) = prefixed key ++ prefixed value
entry_bytes (branch key child) = prefixed key ++ le4 child

-- where each entry begins, the first ending at a given place
unfoldable pub places : ℕ → List Entry → List ℕ
places end [] = []
places end (e ∷ es) = let at : ℕ = end - length (entry_bytes e) in at ∷ places at es

unfoldable pub last_or : ℕ → List ℕ → ℕ
last_or x [] = x
last_or x (y ∷ ys) = last_or y ys

unfoldable pub slots : List ℕ → List ℕ
slots [] = []
slots (at ∷ ats) = le2 at ++ slots ats

-- each entry lies before the one that precedes it
unfoldable pub heap : List Entry → List ℕ → List ℕ
heap [] behind = behind
heap (e ∷ es) behind = heap es (entry_bytes e ++ behind)

-- a length of 255 says that there is no bound
unfoldable pub bound_field : Bound → List ℕ
bound_field (Some key) = field 16 key
bound_field None = 255 ∷ replicate 16 0

unfoldable pub header : Content → ℕ → List ℕ
header p start =
    le4 p.number ++ (le4 p.lsn ++ (p.level ∷ 0 ∷ (le2 (length p.entries) ++ (le4 (foster_child p.foster) ++ (le2 start ++ (0 ∷ 0 ∷
    (field 16 p.low ++ (bound_field p.high ++ (field 16 (foster_key p.foster) ++ (0 ∷ []))))))))))

unfoldable pub page_body : Content → List ℕ
page_body p =
    let at : List ℕ = places 508 p.entries in
    let start : ℕ = last_or 508 at in
    header p start ++ (slots at ++ (replicate (start - (72 + 2 * length p.entries)) 0 ++ heap p.entries []))

unfoldable pub encode_page : Content → List ℕ
encode_page p = sealed (page_body p)

-- Reading is total: what lies past the end is cut off.

-- a length byte and that many bytes, at the front, and what follows them
unfoldable pub front : List ℕ → List ℕ
front [] = []
front (n ∷ b) = take n b

unfoldable pub after : List ℕ → List ℕ
after [] = []
after (n ∷ b) = drop n b

unfoldable pub entry_of : ℕ → List ℕ → Entry
entry_of zero b = leaf (front b) (front (after b))
entry_of (suc l) b = branch (front b) (word (after b) 0)

unfoldable pub entries_at : ℕ → ℕ → List ℕ → ℕ → List Entry
entries_at zero level b slot = []
entries_at (suc n) level b slot = entry_of level (drop (half b slot) b) ∷ entries_at n level b (slot + 2)

unfoldable pub bound_at : List ℕ → ℕ → Bound
bound_at b i = cond (slice_index b i == 255) None (Some (field_at b i))

unfoldable pub foster_of : List ℕ → ℕ → Option Foster
foster_of key child = cond (child == 0) None (Some (record { key = key; child = child }))

unfoldable pub parse_page : List ℕ → Content
parse_page b = record {
  number = word b 0;
  lsn = word b 4;
  level = slice_index b 8;
  low = field_at b 20;
  high = bound_at b 37;
  foster = foster_of (field_at b 54) (word b 12);
  entries = entries_at (half b 10) (slice_index b 8) b 72;
}
