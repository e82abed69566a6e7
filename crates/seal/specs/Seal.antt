-- A sealed block: a body, and behind it the CRC32C of that body as four bytes, the lowest first.
use Rattle.std.specs.Prelude.{ℕ, ◌+◌, ◌-◌, ◌*◌, ◌/◌, ◌%◌, Bool, ◌&&◌, List, [], ◌∷◌, ◌++◌, length, take, drop, ◌==◌, nat_le, slice_index}
use Rattle.seal.specs.Crc.{crc}

-- a number of 32 bits as four bytes, the lowest first, and the number that such bytes hold
abbrev pub le4 : ℕ → List ℕ
le4 n = n % 256 ∷ n / 256 % 256 ∷ n / 65536 % 256 ∷ n / 16777216 % 256 ∷ []

abbrev pub number4 : List ℕ → ℕ
number4 bs = slice_index bs 0 + slice_index bs 1 * 256 + slice_index bs 2 * 65536 + slice_index bs 3 * 16777216

abbrev pub sealed : List ℕ → List ℕ
sealed body = body ++ le4 (crc body)

-- a block's last four bytes, and what stands before them
abbrev pub seal_of : List ℕ → List ℕ
seal_of block = drop (length block - 4) block

abbrev pub body_of : List ℕ → List ℕ
body_of block = take (length block - 4) block

-- whether the last four bytes are the seal of those before; a block of fewer than four bytes is not sealed
abbrev pub is_sealed : List ℕ → Bool
is_sealed block = nat_le 4 (length block) && number4 (seal_of block) == crc (body_of block)
