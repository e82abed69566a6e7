-- The form of a page tested in one way through its bytes.
use Rattle.std.specs.Prelude.{ℕ, zero, suc, ◌+◌, ◌-◌, ◌*◌, Bool, true, false, cond, not, ◌&&◌, List, length, take, drop, ◌==◌, nat_le, slice_index}
use Rattle.std.specs.declared.cmp.Ordering.{Ordering}
use Rattle.std.specs.Ordering.{is_lt}
use Rattle.field.specs.Fields.{half, word, field_at, are_zeros, is_field}
use Rattle.order.specs.Fences.{Bound, is_below}
use Rattle.order.specs.Lawful.{Says}
use Rattle.seal.specs.Seal.{is_sealed}
use Rattle.page.specs.Content.{entry_key, upper}
use Rattle.page.specs.Image.{entry_bytes, entry_of, parse_page}
use Rattle.page.specs.Form.{is_entry, is_first, are_fences}

-- whether 17 bytes are a key field, or no bound
unfoldable pub is_bound_field : List ℕ → Bool
is_bound_field f = cond (slice_index f 0 == 255) (are_zeros (drop 1 f)) (is_field 16 f)

unfoldable pub are_fillers : List ℕ → Bool
are_fillers b = slice_index b 9 == 0 && (slice_index b 18 == 0 && (slice_index b 19 == 0 && slice_index b 71 == 0))

unfoldable pub are_fields : List ℕ → Bool
are_fields b = is_field 16 (take 17 (drop 20 b)) && (is_bound_field (take 17 (drop 37 b)) && is_field 16 (take 17 (drop 54 b)))

-- without foster child its key is empty
unfoldable pub is_foster_at : List ℕ → Bool
is_foster_at b = cond (word b 12 == 0) (slice_index b 54 == 0) (not (word b 12 == word b 0))

-- the slots end before the heap begins, there are zeros between them, and a branch has a slot
unfoldable pub has_room : List ℕ → Bool
has_room b =
    (nat_le (72 + 2 * half b 10) (half b 16) && nat_le (half b 16) 508)
    && (cond (half b 10 == 0) (slice_index b 8 == 0) true && are_zeros (take (half b 16 - (72 + 2 * half b 10)) (drop (72 + 2 * half b 10) b)))

unfoldable pub is_header : List ℕ → Bool
is_header b = are_fillers b && (are_fields b && (is_foster_at b && has_room b))

-- an entry at a place ends at a given one, so that it was not cut off, and has the form of one
unfoldable pub ends_at : List ℕ → ℕ → ℕ → ℕ → ℕ → Bool
ends_at b own level at end = at + length (entry_bytes (entry_of level (drop at b))) == end && is_entry own (entry_of level (drop at b))

-- how a key stands to the one before it, or as the first to the low fence
unfoldable pub is_next : Bool → ℕ → Ordering → Bool
is_next true level o = is_first level o
is_next false level o = is_lt o

-- the entries of n slots, where the entry before begins at `end` and has the key `previous`
unfoldable pub walks : Says → List ℕ → ℕ → ℕ → Bound → ℕ → Bool → ℕ → ℕ → List ℕ → Bool
walks says b own level bound zero first slot end previous = end == half b 16 && is_below says previous bound
walks says b own level bound (suc n) first slot end previous =
    ends_at b own level (half b slot) end
    && (is_next first level (says previous (entry_key (entry_of level (drop (half b slot) b))))
    && walks says b own level bound n false (slot + 2) (half b slot) (entry_key (entry_of level (drop (half b slot) b))))

unfoldable pub walks_all : Says → List ℕ → Bool
walks_all says b = walks says b (word b 0) (slice_index b 8) (upper (parse_page b)) (half b 10) true 72 508 (field_at b 20)

unfoldable pub passes : Says → List ℕ → Bool
passes says b = is_header b && (are_fences says (parse_page b) && (walks_all says b && is_sealed b))
