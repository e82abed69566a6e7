-- Laws of the bitwise definition: a step is linear over exclusive-or, and bits above the low ones wait their turn.
-- So the bytes of a word go their ways apart, each with a table of its own.
use Rattle.std.proofs.Common.{◌≡◌, ℕ, zero, suc, ◌+◌, ◌*◌, ◌/◌, ◌%◌, ◌^◌, ◌<◌, sym, refl, ap, ◌∙◌, ap₂, le_of_suc-le-suc, not-suc-le-zero, mod-lt, suc-add, div-add-mod', zero-add, mul-one, pow_pos}
use native.Mathlib.Nat.{div-eq_of_lt}
use lib.Bits.{bit_xor, bit_and, xor_shr, xor_mod, xor_assoc, xor_comm, xor_zero_r, xor_shifted, shifted_half, shifted_even, and_mask}
use Rattle.std.proofs.lemmas.Nat.{shr-shr}
use Rattle.seal.specs.Crc.{bit_step, steps, byte_step}

swap4 : (a b c d : ℕ) → bit_xor (bit_xor a b) (bit_xor c d) ≡ bit_xor (bit_xor a c) (bit_xor b d)
swap4 a b c d =
    xor_assoc a b (bit_xor c d) ∙ ap (bit_xor a) (sym (xor_assoc b c d) ∙ ap (λ x. bit_xor x d) (xor_comm b c) ∙ xor_assoc c b d)
    ∙ sym (xor_assoc a c (bit_xor b d))

bit_linear : (u v : ℕ) → u < 2 → v < 2 → bit_xor u v * 0x82F63B78 ≡ bit_xor (u * 0x82F63B78) (v * 0x82F63B78)
bit_linear zero zero p q = refl
bit_linear zero (suc zero) p q = refl
bit_linear (suc zero) zero p q = refl
bit_linear (suc zero) (suc zero) p q = refl
bit_linear (suc (suc u)) v p q = absurd (not-suc-le-zero (le_of_suc-le-suc (le_of_suc-le-suc p)))
bit_linear zero (suc (suc v)) p q = absurd (not-suc-le-zero (le_of_suc-le-suc (le_of_suc-le-suc q)))
bit_linear (suc zero) (suc (suc v)) p q = absurd (not-suc-le-zero (le_of_suc-le-suc (le_of_suc-le-suc q)))

step_linear : (a b : ℕ) → bit_step (bit_xor a b) ≡ bit_xor (bit_step a) (bit_step b)
unfolding bit_step
step_linear a b =
    ap₂ bit_xor (xor_shr a b 1)
    (ap (λ (x : ℕ). x * 0x82F63B78) (xor_mod a b 1) ∙ bit_linear (a % 2) (b % 2) (mod-lt a (pow_pos 1)) (mod-lt b (pow_pos 1)))
    ∙ swap4 (a / 2) (b / 2) (a % 2 * 0x82F63B78) (b % 2 * 0x82F63B78)

pub steps_linear : (n a b : ℕ) → steps n (bit_xor a b) ≡ bit_xor (steps n a) (steps n b)
unfolding steps
steps_linear zero a b = refl
steps_linear (suc n) a b = ap (steps n) (step_linear a b) ∙ steps_linear n (bit_step a) (bit_step b)

pub steps-zero : (n : ℕ) → steps n 0 ≡ 0
unfolding steps bit_step
steps-zero zero = refl
steps-zero (suc n) = steps-zero n

pub steps-add : (m n c : ℕ) → steps (m + n) c ≡ steps n (steps m c)
unfolding steps
steps-add zero n c = ap (λ (k : ℕ). steps k c) (zero-add n)
steps-add (suc m) n c = ap (λ (k : ℕ). steps k c) (suc-add m n) ∙ steps-add m n (bit_step c)

step_shifted : (y k : ℕ) → bit_step (y * 2 ^ suc k) ≡ y * 2 ^ k
unfolding bit_step
step_shifted y k =
    ap₂ (λ (p q : ℕ). bit_xor p (q * 0x82F63B78)) (shifted_half y k) (shifted_even y k) ∙ xor_zero_r (y * 2 ^ k)

-- n zero bits at the low end leave in n steps, and nothing else happens
pub steps_shifted : (n y : ℕ) → steps n (y * 2 ^ n) ≡ y
unfolding steps
steps_shifted zero y = mul-one y
steps_shifted (suc n) y = ap (steps n) (step_shifted y n) ∙ steps_shifted n y

low-and-high : (x : ℕ) → x ≡ bit_xor (x % 256) (x / 256 * 256)
low-and-high x = sym (xor_comm (x % 256) (x / 256 * 256) ∙ xor_shifted (x / 256) 8 (x % 256) (mod-lt x (pow_pos 8)) ∙ div-add-mod' x 256)

-- the low byte and what lies above it go their ways apart
pub split : (m x : ℕ) → steps (8 + m) x ≡ bit_xor (steps (8 + m) (x % 256)) (steps m (x / 256))
split m x =
    ap (steps (8 + m)) (low-and-high x)
    ∙ steps_linear (8 + m) (x % 256) (x / 256 * 256)
    ∙ ap (bit_xor (steps (8 + m) (x % 256))) (steps-add 8 m (x / 256 * 256) ∙ ap (steps m) (steps_shifted 8 (x / 256)))

-- one byte by its table
pub by_byte : (c b : ℕ) → b < 256 → bit_xor (steps 8 (bit_and (bit_xor c b) 255)) (c / 256) ≡ byte_step c b
unfolding byte_step steps
by_byte c b h =
    let x : ℕ = bit_xor c b in
    let high : x / 256 ≡ c / 256 = xor_shr c b 8 ∙ ap (bit_xor (c / 256)) (div-eq_of_lt h) ∙ xor_zero_r (c / 256) in
    ap₂ (λ (p q : ℕ). bit_xor (steps 8 p) q) (and_mask x 8) (sym high) ∙ sym (split 0 x)

-- a word by four tables
pub by_word : (n x : ℕ) → bit_xor (bit_xor (bit_xor (steps (8 + (8 + (8 + (8 + n)))) (bit_and x 255)) (steps (8 + (8 + (8 + n))) (bit_and (x / 256) 255)))
    (steps (8 + (8 + n)) (bit_and (x / 65536) 255))) (steps (8 + n) (x / 16777216))
    ≡ steps (8 + (8 + (8 + (8 + n)))) x
by_word n x =
    let a : ℕ = steps (8 + (8 + (8 + (8 + n)))) (x % 256) in
    let b : ℕ = steps (8 + (8 + (8 + n))) (x / 256 % 256) in
    let c : ℕ = steps (8 + (8 + n)) (x / 65536 % 256) in
    let d : ℕ = steps (8 + n) (x / 16777216) in
    ap (λ (p : ℕ). bit_xor p d)
    (ap₂ bit_xor (ap₂ (λ (p q : ℕ). bit_xor (steps (8 + (8 + (8 + (8 + n)))) p) (steps (8 + (8 + (8 + n))) q)) (and_mask x 8) (and_mask (x / 256) 8))
    (ap (steps (8 + (8 + n))) (and_mask (x / 65536) 8)))
    ∙ xor_assoc (bit_xor a b) c d ∙ xor_assoc a b (bit_xor c d)
    ∙ sym (split (8 + (8 + (8 + n))) x ∙ ap (bit_xor a)
    (split (8 + (8 + n)) (x / 256) ∙ ap (bit_xor b)
    (ap (steps (8 + (8 + n))) (shr-shr x 8 8) ∙ split (8 + n) (x / 65536) ∙ ap (λ (y : ℕ). bit_xor c (steps (8 + n) y)) (shr-shr x 16 8))))
