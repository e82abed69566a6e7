-- Laws of whole runs: by parts, eight bytes at a time, and in streams joined by linearity.
use Rattle.std.proofs.Common.{◌≡◌, ℕ, zero, suc, ◌+◌, ◌*◌, ◌<◌, ◌≤◌, List, [], ◌∷◌, ◌++◌, length, get_or, take, drop, sym, refl, ap, ◌∙◌, ap₂, arith, take-append-drop}
use lib.Bits.{bit_xor, xor_assoc, xor_comm, xor_zero_r, xor_shifted}
use Rattle.std.proofs.lemmas.List.FromFn.{fill_by_all}
use Rattle.std.proofs.lemmas.List.{drop_all, drop-drop}
use Rattle.std.specs.List.{fold, zip}
use Rattle.std.specs.Simd.{first_chunks}
use Rattle.seal.specs.Crc.{steps, byte_step, run}
use Rattle.seal.proofs.Steps.{steps_linear, steps-add, steps_shifted}

run-append : (c : ℕ) (xs ys : List ℕ) → run c (xs ++ ys) ≡ run (run c xs) ys
unfolding run
run-append c [] ys = refl
run-append c (x ∷ xs) ys = run-append (byte_step c x) xs ys

-- the first n bytes and then the rest
pub run-parts : (c n : ℕ) (bs : List ℕ) → run (run c (take n bs)) (drop n bs) ≡ run c bs
run-parts c n bs = sym (run-append c (take n bs) (drop n bs)) ∙ ap (run c) (take-append-drop n bs)

-- a run is a fold of bytes
pub run_fold : (c : ℕ) (bs : List ℕ) → fold byte_step c bs ≡ run c bs
unfolding run
run_fold c [] = refl
run_fold c (x ∷ xs) = run_fold (byte_step c x) xs

-- and one of its first k parts of n bytes, with the run of what is left
pub run_chunks : (n k c : ℕ) (bs : List ℕ) → run (fold run c (first_chunks n k bs)) (drop (k * n) bs) ≡ run c bs
run_chunks n zero c bs = let e : 0 * n ≡ 0 = omega arith in ap (λ (m : ℕ). run c (drop m bs)) e
run_chunks n (suc k) c bs =
    let more = run_chunks n k (run c (take n bs)) (drop n bs) in
    let e : suc k * n ≡ n + k * n = omega arith in
    let d : drop (suc k * n) bs ≡ drop (k * n) (drop n bs) = ap (λ (m : ℕ). drop m bs) e ∙ sym (drop-drop (k * n) n bs) in
    ap (run (fold run (run c (take n bs)) (first_chunks n k (drop n bs)))) d ∙ more ∙ run-parts c n bs

-- a whole number of parts leaves nothing
pub run_whole : (n k c : ℕ) (bs : List ℕ) → length bs ≡ k * n → fold run c (first_chunks n k bs) ≡ run c bs
unfolding run
run_whole n k c bs e =
    let none : drop (k * n) bs ≡ [] = let h : length bs ≤ k * n = omega arith in rw drop_all in
    sym (ap (run (fold run c (first_chunks n k bs))) none) ∙ run_chunks n k c bs

-- a part of each of three streams
abbrev pub step_three : ℕ × ℕ × ℕ → (List ℕ × List ℕ) × List ℕ → ℕ × ℕ × ℕ
step_three r p = (run r.0 p.0.0, run r.1 p.0.1, run r.2 p.1)

-- streams side by side are three runs
pub run_three : (c d e : ℕ) (xs ys zs : List (List ℕ)) → length ys ≡ length xs → length zs ≡ length xs
    → fold step_three (c, d, e) (zip (zip xs ys) zs) ≡ (fold run c xs, fold run d ys, fold run e zs)
run_three c d e [] [] [] h k = refl
run_three c d e [] (y ∷ ys) zs h k = absurd (omega arith)
run_three c d e [] [] (z ∷ zs) h k = absurd (omega arith)
run_three c d e (x ∷ xs) [] zs h k = absurd (omega arith)
run_three c d e (x ∷ xs) (y ∷ ys) [] h k = absurd (omega arith)
run_three c d e (x ∷ xs) (y ∷ ys) (z ∷ zs) h k = run_three (run c x) (run d y) (run e z) xs ys zs (omega arith) (omega arith)

-- one byte, and a word above it that waits
next : (m c b w : ℕ) → b < 256 → steps m (bit_xor (byte_step c b) w) ≡ steps (8 + m) (bit_xor c (w * 256 + b))
unfolding byte_step
next m c b w h =
    let x : ℕ = bit_xor c b in
    let waits : bit_xor (steps 8 x) w ≡ steps 8 (bit_xor x (w * 256)) =
    sym (steps_linear 8 x (w * 256) ∙ ap (bit_xor (steps 8 x)) (steps_shifted 8 w)) in
    let joined : bit_xor x (w * 256) ≡ bit_xor c (w * 256 + b) =
    xor_assoc c b (w * 256) ∙ ap (bit_xor c) (xor_comm b (w * 256) ∙ xor_shifted w 8 b h) in
    ap (steps m) (waits ∙ ap (steps 8) joined) ∙ sym (steps-add 8 m (bit_xor c (w * 256 + b)))

last_byte : (c b : ℕ) → byte_step c b ≡ steps 8 (bit_xor c b)
unfolding byte_step
last_byte c b = refl

-- four bytes are the word that they make
pub word : (c b0 b1 b2 b3 : ℕ) → b0 < 256 → b1 < 256 → b2 < 256 → b3 < 256
    → byte_step (byte_step (byte_step (byte_step c b0) b1) b2) b3 ≡ steps 32 (bit_xor c (b0 + b1 * 256 + b2 * 65536 + b3 * 16777216))
word c b0 b1 b2 b3 h0 h1 h2 h3 =
    let e : ((b3 * 256 + b2) * 256 + b1) * 256 + b0 ≡ b0 + b1 * 256 + b2 * 65536 + b3 * 16777216 = omega arith in
    last_byte (byte_step (byte_step (byte_step c b0) b1) b2) b3
    ∙ next 8 (byte_step (byte_step c b0) b1) b2 b3 h2
    ∙ next 16 (byte_step c b0) b1 (b3 * 256 + b2) h1
    ∙ next 24 c b0 ((b3 * 256 + b2) * 256 + b1) h0
    ∙ ap (λ (y : ℕ). steps 32 (bit_xor c y)) e

-- eight bytes are two words, the first of which goes over the second
eight : (c b0 b1 b2 b3 b4 b5 b6 b7 : ℕ) → b0 < 256 → b1 < 256 → b2 < 256 → b3 < 256 → b4 < 256 → b5 < 256 → b6 < 256 → b7 < 256
    → bit_xor (steps 64 (bit_xor c (b0 + b1 * 256 + b2 * 65536 + b3 * 16777216))) (steps 32 (b4 + b5 * 256 + b6 * 65536 + b7 * 16777216))
    ≡ run c (b0 ∷ b1 ∷ b2 ∷ b3 ∷ b4 ∷ b5 ∷ b6 ∷ b7 ∷ [])
unfolding run
eight c b0 b1 b2 b3 b4 b5 b6 b7 h0 h1 h2 h3 h4 h5 h6 h7 =
    let w : ℕ = b0 + b1 * 256 + b2 * 65536 + b3 * 16777216 in
    let v : ℕ = b4 + b5 * 256 + b6 * 65536 + b7 * 16777216 in
    let d : ℕ = byte_step (byte_step (byte_step (byte_step c b0) b1) b2) b3 in
    sym (word d b4 b5 b6 b7 h4 h5 h6 h7
    ∙ steps_linear 32 d v
    ∙ ap (λ (y : ℕ). bit_xor y (steps 32 v)) (ap (steps 32) (word c b0 b1 b2 b3 h0 h1 h2 h3) ∙ sym (steps-add 32 32 (bit_xor c w))))

-- a list of eight bytes, by its elements
pub eight_of : (c : ℕ) (bs : List ℕ) → length bs ≡ 8 → ((i : ℕ) → get_or bs i 0 < 256)
    → bit_xor (steps 64 (bit_xor c (get_or bs 0 0 + get_or bs 1 0 * 256 + get_or bs 2 0 * 65536 + get_or bs 3 0 * 16777216)))
    (steps 32 (get_or bs 4 0 + get_or bs 5 0 * 256 + get_or bs 6 0 * 65536 + get_or bs 7 0 * 16777216))
    ≡ run c bs
eight_of c bs e h =
    eight c (get_or bs 0 0) (get_or bs 1 0) (get_or bs 2 0) (get_or bs 3 0) (get_or bs 4 0) (get_or bs 5 0) (get_or bs 6 0) (get_or bs 7 0)
    (h 0) (h 1) (h 2) (h 3) (h 4) (h 5) (h 6) (h 7)
    ∙ ap (run c) (sym (fill_by_all (λ (k : ℕ). get_or bs k 0) bs 8 0 e (λ k p. refl)))

-- a run is the register carried over as many zero bytes, and the run of the bytes from 0 on
pub run_linear : (c : ℕ) (bs : List ℕ) → run c bs ≡ bit_xor (steps (8 * length bs) c) (run 0 bs)
unfolding run steps
run_linear c [] = sym (xor_zero_r c)
run_linear c (b ∷ bs) =
    let n : ℕ = 8 * length bs in
    let x : ℕ = steps 8 c in
    let y : ℕ = byte_step 0 b in
    let e : 8 * suc (length bs) ≡ 8 + n = omega arith in
    ap (λ (z : ℕ). run z bs) (byte_linear c b)
    ∙ run_linear (bit_xor x y) bs
    ∙ ap (λ (z : ℕ). bit_xor z (run 0 bs)) (steps_linear n x y)
    ∙ xor_assoc (steps n x) (steps n y) (run 0 bs)
    ∙ ap₂ bit_xor (sym (ap (λ (k : ℕ). steps k c) e ∙ steps-add 8 n c)) (sym (run_linear y bs))
  where
    byte_linear : (c b : ℕ) → byte_step c b ≡ bit_xor (steps 8 c) (byte_step 0 b)
    byte_linear c b = last_byte c b ∙ steps_linear 8 c b ∙ ap (bit_xor (steps 8 c)) (sym (last_byte 0 b))

-- what one stream became, carried over the next stream of 168 bytes
pub joined : (c : ℕ) (bs : List ℕ) → length bs ≡ 168 → bit_xor (steps 1344 c) (run 0 bs) ≡ run c bs
joined c bs e =
    let bits : 8 * length bs ≡ 1344 = omega arith in
    sym (run_linear c bs ∙ ap (λ (k : ℕ). bit_xor (steps k c) (run 0 bs)) bits)
