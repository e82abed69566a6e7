-- Which contents have the form of a page, and which bytes are a page.
use Rattle.std.specs.Prelude.{ℕ, zero, suc, Bool, true, cond, not, ◌&&◌, List, [], ◌∷◌, length, Some, None, Option, ◌==◌, nat_le}
use Rattle.std.specs.declared.cmp.Ordering.{Ordering}
use Rattle.std.specs.Str.{bytes_eq}
use Rattle.std.specs.Ordering.{is_eq, is_lt, is_le}
use Rattle.order.specs.Fences.{Bound, is_below}
use Rattle.order.specs.Lawful.{Says}
use Rattle.page.specs.Content.{Entry, Foster, Content, entry_key, upper, costs}
use Rattle.page.specs.Content.Entry.{leaf, branch}
use Rattle.page.specs.Image.{parse_page, encode_page}

-- Without regard to the order of keys.

unfoldable pub is_child : ℕ → ℕ → Bool
is_child own child = not (child == 0) && not (child == own)

unfoldable pub is_entry : ℕ → Entry → Bool
is_entry own (leaf key value) = nat_le 1 (length key) && (nat_le (length key) 16 && nat_le (length value) 64)
is_entry own (branch key child) = nat_le (length key) 16 && is_child own child

unfoldable pub are_entries : ℕ → List Entry → Bool
are_entries own [] = true
are_entries own (e ∷ es) = is_entry own e && are_entries own es

-- a branch has at least one entry
unfoldable pub are_enough : ℕ → List Entry → Bool
are_enough level [] = level == 0
are_enough level (e ∷ es) = true

unfoldable pub is_short : Bound → Bool
is_short (Some key) = nat_le (length key) 16
is_short None = true

unfoldable pub is_foster : ℕ → Option Foster → Bool
is_foster own None = true
is_foster own (Some f) = nat_le (length f.key) 16 && is_child own f.child

unfoldable pub is_form : Content → Bool
is_form p =
    (nat_le (length p.low) 16 && (is_short p.high && is_foster p.number p.foster))
    && (are_enough p.level p.entries && (are_entries p.number p.entries && nat_le (costs p.entries) 436))

-- Under an order of keys.

-- a foster key lies strictly between the fences
unfoldable pub is_between : Says → List ℕ → Bound → Option Foster → Bool
is_between says low high None = true
is_between says low high (Some f) = is_lt (says low f.key) && is_below says f.key high

unfoldable pub are_fences : Says → Content → Bool
are_fences says p = is_below says p.low p.high && is_between says p.low p.high p.foster

-- each key is above the one before it, and the last is below a bound
unfoldable pub is_rising : Says → Bound → List ℕ → List Entry → Bool
is_rising says bound previous [] = is_below says previous bound
is_rising says bound previous (e ∷ es) = is_lt (says previous (entry_key e)) && is_rising says bound (entry_key e) es

-- how the low fence stands to the first key: in a leaf it is not above it, in a branch it is the same
unfoldable pub is_first : ℕ → Ordering → Bool
is_first zero o = is_le o
is_first (suc l) o = is_eq o

-- keys rise from the low fence on, and stay below a bound
unfoldable pub are_keys : Says → ℕ → Bound → List ℕ → List Entry → Bool
are_keys says level bound low [] = is_below says low bound
are_keys says level bound low (e ∷ es) = is_first level (says low (entry_key e)) && is_rising says bound (entry_key e) es

unfoldable pub is_ordered : Says → Content → Bool
is_ordered says p = are_fences says p && are_keys says p.level (upper p) p.low p.entries

-- Bytes.

-- they are the image of what is read from them, and that has the form of a page
unfoldable pub is_laid : List ℕ → Bool
is_laid b = is_form (parse_page b) && bytes_eq (encode_page (parse_page b)) b

unfoldable pub is_sound : Says → List ℕ → Bool
is_sound says b = is_laid b && is_ordered says (parse_page b)

unfoldable pub decode_page : Says → List ℕ → Option Content
decode_page says b = cond (is_sound says b) (Some (parse_page b)) None
