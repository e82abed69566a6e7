-- The rule of all tables at once. A table of steps is linear, so it is spread out from its entries at the powers of two,
-- which is what the checker computes and compares with the tables of the code.
use Rattle.std.proofs.Common.{◌≡◌, ℕ, zero, suc, ◌+◌, ◌-◌, ◌^◌, ◌<◌, List, [], ◌∷◌, ◌++◌, map, length, get_or, sym, refl, ap, ◌∙◌, inl, inr, one-mul, pow-suc, arith}
use lib.Bits.{bit_xor, xor_shifted}
use Rattle.std.proofs.lemmas.List.{length-map, length-append, get_or_append_left, get_or-append_right, get_or-map}
use Rattle.std.proofs.lemmas.Bool.{cases_lt}
use Rattle.seal.specs.Crc.{steps}
use Rattle.seal.specs.Tables.{distances, distance}
use Rattle.seal.proofs.Steps.{steps_linear, steps-zero}

-- a table of 2 ^ k entries, doubled with each power
unfoldable pub spread : (ℕ → ℕ) → ℕ → List ℕ
spread f zero = 0 ∷ []
spread f (suc k) = let p : ℕ = f (2 ^ k) in let half : List ℕ = spread f k in half ++ map (bit_xor p) half

spread-length : (f : ℕ → ℕ) (k : ℕ) → length (spread f k) ≡ 2 ^ k
unfolding spread
spread-length f zero = refl
spread-length f (suc k) =
    let h = spread-length f k in
    let e = length-map (spread f k) (bit_xor (f (2 ^ k))) in
    let s = length-append (spread f k) (map (bit_xor (f (2 ^ k))) (spread f k)) in
    let p = pow-suc 2 k in
    omega arith

-- the entry of a linear function
spread_at : (f : ℕ → ℕ) → f 0 ≡ 0 → ((a b : ℕ) → f (bit_xor a b) ≡ bit_xor (f a) (f b))
    → (k x : ℕ) → x < 2 ^ k → get_or (spread f k) x 0 ≡ f x
unfolding spread
spread_at f none linear zero x h = let z : x ≡ 0 = omega arith in ap (λ (i : ℕ). get_or (0 ∷ []) i 0) z ∙ sym (ap f z ∙ none)
spread_at f none linear (suc k) x h =
    let half : List ℕ = spread f k in
    let size : length half ≡ 2 ^ k = spread-length f k in
    elim (cases_lt x (2 ^ k)) [
      | inl l ↦ let i : x < length half = omega arith in get_or_append_left half (map (bit_xor (f (2 ^ k))) half) 0 x i ∙ spread_at f none linear k x l
      | inr g ↦
          let p = pow-suc 2 k in
          let j : ℕ = x - 2 ^ k in
          let l : j < 2 ^ k = omega arith in
          let i : j < length half = omega arith in
          let sum : bit_xor (2 ^ k) j ≡ x =
          ap (λ (y : ℕ). bit_xor y j) (sym (one-mul (2 ^ k))) ∙ xor_shifted 1 k j l ∙ ap (λ (y : ℕ). y + j) (one-mul (2 ^ k)) ∙ omega arith in
          get_or-append_right half (map (bit_xor (f (2 ^ k))) half) (2 ^ k) x 0 size g
          ∙ get_or-map (bit_xor (f (2 ^ k))) half j 0 0 i
          ∙ ap (bit_xor (f (2 ^ k))) (spread_at f none linear k j l)
          ∙ sym (linear (2 ^ k) j) ∙ ap f sum
    ]

-- the tables, by their rule
unfoldable pub table : ℕ → List ℕ
table n = spread (steps n) 8

unfoldable pub tables : List (List ℕ)
tables = map table distances

pub rule : (k x : ℕ) → k < 12 → x < 256 → get_or (get_or tables k []) x 0 ≡ steps (distance k) x
unfolding tables table
rule k x hk hx =
    ap (λ (t : List ℕ). get_or t x 0) (get_or-map table distances k 0 [] hk)
    ∙ spread_at (steps (distance k)) (steps-zero (distance k)) (steps_linear (distance k)) 8 x hx
