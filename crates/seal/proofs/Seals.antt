-- Sealed blocks: the seal is read back from its four bytes, and the bytes from the seal.
use Rattle.std.proofs.Common.{◌≡◌, ℕ, zero, suc, ◌+◌, ◌-◌, ◌*◌, ◌/◌, ◌%◌, ◌^◌, ◌<◌, ◌≤◌, eqb, leb, List, [], ◌∷◌, ◌++◌, length, get_or, take, drop, sym, refl, ap, ◌∙◌, mod-lt, mod-eq_of_lt, div-add-mod', arith, length-drop, pow_pos}
use lib.Arith.{digits_div, digits_mod}
use lib.Bits.{bit_xor, xor_lt}
use Rattle.std.proofs.lemmas.Nat.{shr-shr, div_below}
use Rattle.std.proofs.lemmas.List.FromFn.{fill_by_all}
use Rattle.std.proofs.lemmas.List.{length-append, take_at, drop_at, take-append-drop, get_or-drop}
use Rattle.std.proofs.lemmas.Bool.{and_parts, and_from, leb-true, le-leb, eqb-true, eq-eqb}
use Rattle.seal.specs.Crc.{bit_step, steps, byte_step, run, crc}
use Rattle.seal.specs.Seal.{le4, number4, sealed, seal_of, body_of}
use Rattle.seal.specs.Laws.{Bytes, SealedPasses, PassingIsSealed}

step-lt : (c : ℕ) → c < 2 ^ 32 → bit_step c < 2 ^ 32
unfolding bit_step
step-lt c h =
    let half : c / 2 < 2 ^ 32 = div_below c 2 (2 ^ 32) (omega arith) (omega arith) in
    let bit : c % 2 < 2 = mod-lt c (pow_pos 1) in
    xor_lt 32 (c / 2) (c % 2 * 0x82F63B78) half (omega arith)

pub steps-lt : (n c : ℕ) → c < 2 ^ 32 → steps n c < 2 ^ 32
unfolding steps
steps-lt zero c h = h
steps-lt (suc n) c h = steps-lt n (bit_step c) (step-lt c h)

run-lt : (c : ℕ) (bs : List ℕ) → c < 2 ^ 32 → Bytes bs → run c bs < 2 ^ 32
unfolding run byte_step
run-lt c [] h w = h
run-lt c (b ∷ bs) h w =
    run-lt (steps 8 (bit_xor c b)) bs (steps-lt 8 (bit_xor c b) (xor_lt 32 c b h (omega (arith, w 0)))) (λ i. w (suc i))

pub crc-lt : (bs : List ℕ) → Bytes bs → crc bs < 2 ^ 32
crc-lt bs w = xor_lt 32 (run 0xFFFFFFFF bs) 0xFFFFFFFF (run-lt 0xFFFFFFFF bs (omega arith) w) (omega arith)

digits : (n a q b r c s : ℕ) → q * 256 + a ≡ n → r * 256 + b ≡ q → s * 256 + c ≡ r → a + b * 256 + c * 65536 + s * 16777216 ≡ n
digits n a q b r c s x y z = omega arith

-- a number is that of its bytes
pub number_back : (n : ℕ) → n < 2 ^ 32 → number4 (le4 n) ≡ n
number_back n h =
    let top : n / 16777216 % 256 ≡ n / 16777216 = mod-eq_of_lt (div_below n 16777216 256 (omega arith) h) in
    rw top
    (digits n (n % 256) (n / 256) (n / 256 % 256) (n / 65536) (n / 65536 % 256) (n / 16777216) (div-add-mod' n 256)
    (ap (λ (x : ℕ). x * 256 + n / 256 % 256) (sym (shr-shr n 8 8)) ∙ div-add-mod' (n / 256) 256)
    (ap (λ (x : ℕ). x * 256 + n / 65536 % 256) (sym (shr-shr n 16 8)) ∙ div-add-mod' (n / 65536) 256))

four_back : (a b c d : ℕ) → a < 256 → b < 256 → c < 256 → d < 256 → le4 (number4 (a ∷ b ∷ c ∷ d ∷ [])) ≡ a ∷ b ∷ c ∷ d ∷ []
four_back a b c d ha hb hc hd =
    let n : ℕ = a + b * 256 + c * 65536 + d * 16777216 in
    let e : n ≡ ((d * 256 + c) * 256 + b) * 256 + a = omega arith in
    let n1 : n / 256 ≡ (d * 256 + c) * 256 + b = ap (λ (x : ℕ). x / 256) e ∙ digits_div ((d * 256 + c) * 256 + b) ha in
    let n2 : n / 65536 ≡ d * 256 + c = sym (shr-shr n 8 8) ∙ ap (λ (x : ℕ). x / 256) n1 ∙ digits_div (d * 256 + c) hb in
    let n3 : n / 16777216 ≡ d = sym (shr-shr n 16 8) ∙ ap (λ (x : ℕ). x / 256) n2 ∙ digits_div d hc in
    let d0 : n % 256 ≡ a = ap (λ (x : ℕ). x % 256) e ∙ digits_mod ((d * 256 + c) * 256 + b) ha in
    let d1 : n / 256 % 256 ≡ b = ap (λ (x : ℕ). x % 256) n1 ∙ digits_mod (d * 256 + c) hb in
    let d2 : n / 65536 % 256 ≡ c = ap (λ (x : ℕ). x % 256) n2 ∙ digits_mod d hc in
    let d3 : n / 16777216 % 256 ≡ d = ap (λ (x : ℕ). x % 256) n3 ∙ mod-eq_of_lt hd in
    cc

-- four bytes are those of their number
pub bytes_back : (bs : List ℕ) → length bs ≡ 4 → Bytes bs → le4 (number4 bs) ≡ bs
bytes_back bs e w =
    four_back (get_or bs 0 0) (get_or bs 1 0) (get_or bs 2 0) (get_or bs 3 0) (w 0) (w 1) (w 2) (w 3)
    ∙ sym (fill_by_all (λ (k : ℕ). get_or bs k 0) bs 4 0 e (λ k p. refl))

pub sealed_passes : SealedPasses
sealed_passes body w =
    let block : List ℕ = sealed body in
    let size : length block ≡ length body + 4 = length-append body (le4 (crc body)) in
    let cut : length block - 4 ≡ length body = omega arith in
    let front : body_of block ≡ body = ap (λ (k : ℕ). take k block) cut ∙ take_at body (le4 (crc body)) (length body) refl in
    let back : seal_of block ≡ le4 (crc body) = ap (λ (k : ℕ). drop k block) cut ∙ drop_at body (le4 (crc body)) (length body) refl in
    and_from (leb 4 (length block)) (eqb (number4 (seal_of block)) (crc (body_of block))) (le-leb 4 (length block) (omega arith))
    (eq-eqb (number4 (seal_of block)) (crc (body_of block)) (ap number4 back ∙ number_back (crc body) (crc-lt body w) ∙ sym (ap crc front)))

pub passing_is_sealed : PassingIsSealed
passing_is_sealed block w h =
    let tests = and_parts (leb 4 (length block)) (eqb (number4 (seal_of block)) (crc (body_of block))) h in
    let long : 4 ≤ length block = leb-true 4 (length block) tests.0 in
    let at : ℕ = length block - 4 in
    let same : number4 (seal_of block) ≡ crc (body_of block) = eqb-true (number4 (seal_of block)) (crc (body_of block)) tests.1 in
    let size : length (seal_of block) ≡ 4 = length-drop at block ∙ omega arith in
    let bytes : Bytes (seal_of block) = λ i. rw (get_or-drop at block i 0) (w (at + i)) in
    ap (λ (x : List ℕ). body_of block ++ x) (ap le4 (sym same) ∙ bytes_back (seal_of block) size bytes) ∙ take-append-drop at block
