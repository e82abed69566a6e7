-- How far the tables of the code carry a byte, in steps.
use Rattle.std.specs.Prelude.{ℕ, ◌+◌, ◌/◌, List, [], ◌∷◌, bit_and, bit_xor, slice_index}
use Rattle.seal.specs.Crc.{steps}

-- eight steps a byte: over one to eight bytes, and over 165 to 168
abbrev pub distances : List ℕ
distances = 8 ∷ 16 ∷ 24 ∷ 32 ∷ 40 ∷ 48 ∷ 56 ∷ 64 ∷ 1320 ∷ 1328 ∷ 1336 ∷ 1344 ∷ []

abbrev pub distance : ℕ → ℕ
distance table = slice_index distances table

-- the four bytes of a word, each carried by a table of its own, the lowest the farthest
abbrev pub by_tables : ℕ → ℕ → ℕ
by_tables first x =
    bit_xor (bit_xor (bit_xor (steps (distance (first + 3)) (bit_and x 255)) (steps (distance (first + 2)) (bit_and (x / 256) 255)))
    (steps (distance (first + 1)) (bit_and (x / 65536) 255)))
    (steps (distance first) (x / 16777216))
