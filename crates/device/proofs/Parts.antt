-- Equal parts of a row of bytes: how many, what one is, and what a write to one leaves.
use Rattle.std.proofs.Common.{◌≡◌, ℕ, zero, suc, ◌+◌, ◌*◌, ◌<◌, ◌≤◌, List, ◌∷◌, ◌++◌, length, get_or, take, drop, set, refl, ap, ◌∙◌, le_of_suc-le-suc, not-suc-le-zero, mul-le-mul_right, suc-mul, zero-mul, arith, length-append, length-drop}
use borrow.Rule.Slice.PartMut.{put_mid}
use Rattle.std.proofs.lemmas.List.{drop-drop, take_at, drop_at, drop-append-le, drop-take, length-take-le}
use Rattle.std.proofs.lemmas.Slice.{take-put_mid_below}
use Rattle.std.specs.Simd.{first_chunks}

shift : (size p : ℕ) → suc p * size ≡ size + p * size
shift size p = omega (arith, suc-mul p size)

pub length-put : (a k : ℕ) (bs ys : List ℕ) → a + k ≤ length bs → length ys ≡ k → length (put_mid a k bs ys) ≡ length bs
length-put a k bs ys room e = simp (length-append, length-drop) (omega (arith, length-take-le a bs (omega arith)))

-- past the first part, a write further on is a write to what is left
drop-put : (size m a : ℕ) (bs ys : List ℕ) → a ≡ size + m → a ≤ length bs → drop size (put_mid a size bs ys) ≡ put_mid m size (drop size bs) ys
drop-put size m a bs ys far room =
    let long : size ≤ length (take a bs) = omega (arith, length-take-le a bs room) in
    drop-append-le size (take a bs) (ys ++ drop size (drop a bs)) long ∙ rw (far, drop-take, ← drop-drop m size bs)

module _ (size : ℕ) where
  pub length-parts : (n : ℕ) (bs : List ℕ) → length (first_chunks size n bs) ≡ n
  length-parts zero bs = refl
  length-parts (suc n) bs = ap suc (length-parts n (drop size bs))

  pub part_at : (n p : ℕ) (bs d : List ℕ) → p < n → get_or (first_chunks size n bs) p d ≡ take size (drop (p * size) bs)
  part_at zero p bs d h = absurd (not-suc-le-zero h)
  part_at (suc n) zero bs d h = rw zero-mul
  part_at (suc n) (suc p) bs d h = part_at n p (drop size bs) d (le_of_suc-le-suc h) ∙ rw (drop-drop, shift)

  pub part-put : (n p : ℕ) (bs ys : List ℕ) → p < n → n * size ≤ length bs → length ys ≡ size → first_chunks size n (put_mid (p * size) size bs ys) ≡ set (first_chunks size n bs) p ys
  part-put zero p bs ys h room e = absurd (not-suc-le-zero h)
  part-put (suc n) zero bs ys h room e = rw (zero-mul, take_at ys (drop size bs) size e, drop_at ys (drop size bs) size e)
  part-put (suc n) (suc p) bs ys h room e =
      let less : suc p * size ≤ n * size = mul-le-mul_right size (le_of_suc-le-suc h) in
      let more : suc n * size ≡ n * size + size = suc-mul n size in
      let far : suc p * size ≡ size + p * size = shift size p in
      let cs : List ℕ = put_mid (suc p * size) size bs ys in
      let front : take size cs ≡ take size bs = take-put_mid_below (suc p * size) size bs ys size (omega arith) (omega arith) in
      let back : drop size cs ≡ put_mid (p * size) size (drop size bs) ys = drop-put size (p * size) (suc p * size) bs ys far (omega arith) in
      let rest = part-put n p (drop size bs) ys (le_of_suc-le-suc h) (rw length-drop (omega arith)) e in
      ap (λ (l : List ℕ). l ∷ first_chunks size n (drop size cs)) front ∙ ap (λ (l : List (List ℕ)). take size bs ∷ l) (ap (first_chunks size n) back ∙ rest)
