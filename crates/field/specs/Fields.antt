-- Numbers and short byte strings in a row of bytes.
use Rattle.std.specs.Prelude.{ℕ, ◌+◌, ◌-◌, ◌*◌, ◌/◌, ◌%◌, Bool, true, ◌&&◌, List, [], ◌∷◌, ◌++◌, length, take, drop, replicate, ◌==◌, nat_le, slice_index}

-- a number of 16 bits as two bytes, the lower first
unfoldable pub le2 : ℕ → List ℕ
le2 n = n % 256 ∷ n / 256 % 256 ∷ []

-- the numbers of 16 and of 32 bits that stand at a place
unfoldable pub half : List ℕ → ℕ → ℕ
half b i = slice_index b i + slice_index b (i + 1) * 256

unfoldable pub word : List ℕ → ℕ → ℕ
word b i = slice_index b i + slice_index b (i + 1) * 256 + slice_index b (i + 2) * 65536 + slice_index b (i + 3) * 16777216

-- a length byte and then the bytes
unfoldable pub prefixed : List ℕ → List ℕ
prefixed s = length s ∷ s

-- a length byte, and the bytes padded with zeros to n
unfoldable pub field : ℕ → List ℕ → List ℕ
field n s = length s ∷ (s ++ replicate (n - length s) 0)

-- the bytes of a field that stands at a place
unfoldable pub field_at : List ℕ → ℕ → List ℕ
field_at b i = take (slice_index b i) (drop (i + 1) b)

unfoldable pub are_zeros : List ℕ → Bool
are_zeros [] = true
are_zeros (x ∷ xs) = x == 0 && are_zeros xs

-- whether some bytes are a field of at most n: a length that fits, and zeros behind that many bytes
unfoldable pub is_field : ℕ → List ℕ → Bool
is_field n f = nat_le (slice_index f 0) n && are_zeros (drop (1 + slice_index f 0) f)
