-- A stamped record passes at its position.
use Rattle.std.proofs.Common.{◌≡◌, ℕ, zero, suc, ◌+◌, ◌^◌, ◌<◌, true, List, [], ◌∷◌, ◌++◌, length, take, drop, replicate, sym, ap, ◌∙◌, ap₂, arith, length-append, length-drop, length-take}
use Rattle.std.proofs.lemmas.List.{take-append-drop, get_or-drop}
use Rattle.std.proofs.lemmas.Bool.{and_from, eq-eqb}
use Rattle.seal.specs.Seal.{le4, sealed}
use Rattle.seal.specs.Crc.{crc}
use Rattle.seal.specs.Laws.{Bytes}
use Rattle.seal.proofs.Seals.{number_back, sealed_passes}
use Rattle.field.specs.Fields.{word}
use Rattle.wal.specs.Records.{stamped, passes}

-- rows of bytes made of rows of bytes
pub bytes-append : (xs ys : List ℕ) → Bytes xs → Bytes ys → Bytes (xs ++ ys)
bytes-append [] ys w v i = v i
bytes-append (x ∷ xs) ys w v zero = w 0
bytes-append (x ∷ xs) ys w v (suc i) = bytes-append xs ys (λ j. w (suc j)) v i

pub bytes_take : (n : ℕ) (xs : List ℕ) → Bytes xs → Bytes (take n xs)
bytes_take zero xs w i = omega arith
bytes_take (suc n) [] w i = omega arith
bytes_take (suc n) (x ∷ xs) w zero = w 0
bytes_take (suc n) (x ∷ xs) w (suc i) = bytes_take n xs (λ j. w (suc j)) i

pub bytes_drop : (n : ℕ) (xs : List ℕ) → Bytes xs → Bytes (drop n xs)
bytes_drop n xs w i = rw (get_or-drop n xs i 0) (w (n + i))

pub bytes-zeros : (n : ℕ) → Bytes (replicate n 0)
bytes-zeros zero i = omega arith
bytes-zeros (suc n) zero = omega arith
bytes-zeros (suc n) (suc i) = bytes-zeros n i

pub bytes-le4 : (n : ℕ) → Bytes (le4 n)
bytes-le4 n zero = omega arith
bytes-le4 n (suc zero) = omega arith
bytes-le4 n (suc (suc zero)) = omega arith
bytes-le4 n (suc (suc (suc zero))) = omega arith
bytes-le4 n (suc (suc (suc (suc i)))) = omega arith

pub bytes-stamped : (n : ℕ) (bs : List ℕ) → Bytes bs → Bytes (stamped n bs)
unfolding stamped
bytes-stamped n bs w =
    let body : List ℕ = le4 n ++ take 120 (drop 4 bs) in
    bytes-append body (le4 (crc body)) (bytes-append (le4 n) (take 120 (drop 4 bs)) (bytes-le4 n) (bytes_take 120 (drop 4 bs) (bytes_drop 4 bs w))) (bytes-le4 (crc body))

pub length-stamped : (n : ℕ) (bs : List ℕ) → length bs ≡ 128 → length (stamped n bs) ≡ 128
unfolding stamped
length-stamped n bs e = simp (length-append, length-take, length-drop) (omega arith)

-- a block that begins with a position carries it
pub carries : (n : ℕ) (rest : List ℕ) → n < 2 ^ 32 → word (le4 n ++ rest) 0 ≡ n
unfolding word
carries n rest h = number_back n h

pub passes-stamped : (n : ℕ) (bs : List ℕ) → n < 2 ^ 32 → Bytes bs → passes n (stamped n bs) ≡ true
unfolding stamped passes
passes-stamped n bs h w =
    let rest : List ℕ = take 120 (drop 4 bs) in
    let body : List ℕ = le4 n ++ rest in
    and_from _ _ (sealed_passes body (bytes-append (le4 n) rest (bytes-le4 n) (bytes_take 120 (drop 4 bs) (bytes_drop 4 bs w))))
    (eq-eqb _ n (carries n (rest ++ le4 (crc body)) h))

-- the position put in front, and the seal behind
pub stamp_is : (n : ℕ) (bs out part : List ℕ) → part ≡ le4 n → take (0 + length part) out ≡ take 0 bs ++ part → drop (0 + length part) out ≡ drop (0 + length part) bs → sealed (take 124 out) ≡ stamped n bs
unfolding stamped
stamp_is n bs out part e front back =
    let f : take 4 out ≡ le4 n = rw e at front in
    let b : drop 4 out ≡ drop 4 bs = rw e at back in
    ap (λ (l : List ℕ). sealed (take 124 l)) (sym (take-append-drop 4 out) ∙ ap₂ (λ (x y : List ℕ). x ++ y) f b)
