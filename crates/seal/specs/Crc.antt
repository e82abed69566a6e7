-- CRC32C of a list of bytes as RFC 3720 has it, bit by bit: the reflected polynomial 82F63B78, FFFFFFFF at the start
-- and FFFFFFFF as the final exclusive-or.
use Rattle.std.specs.Prelude.{ℕ, zero, suc, ◌*◌, ◌/◌, ◌%◌, List, [], ◌∷◌, bit_xor}

-- one bit leaves at the low end, and the polynomial is added where it was 1
unfoldable pub bit_step : ℕ → ℕ
bit_step c = bit_xor (c / 2) (c % 2 * 0x82F63B78)

unfoldable pub steps : ℕ → ℕ → ℕ
steps zero c = c
steps (suc n) c = steps n (bit_step c)

-- one byte: its bits are added at the low end, and leave one by one
unfoldable pub byte_step : ℕ → ℕ → ℕ
byte_step c b = steps 8 (bit_xor c b)

-- the register after some bytes
unfoldable pub run : ℕ → List ℕ → ℕ
run c [] = c
run c (b ∷ bs) = run (byte_step c b) bs

abbrev pub crc : List ℕ → ℕ
crc bs = bit_xor (run 0xFFFFFFFF bs) 0xFFFFFFFF
