-- Laws of fields: read back from where they were put, and tested by their zeros.
use Rattle.std.proofs.Math.Bool.{and_assoc, and-true}
use Rattle.std.proofs.Math.ListN.{set}
use Rattle.std.proofs.Common.{◌≡◌, ℕ, zero, suc, ◌+◌, ◌-◌, ◌<◌, ◌≤◌, Bool, true, false, ◌&&◌, eqb, leb, List, ◌∷◌, ◌++◌, length, get_or, take, drop, replicate, Decides, sym, refl, ap, ◌∙◌, ap₂, one-add, arith}
use borrow.Rule.Slice.PartMut.{put_mid}
use lib.Bits.{bit_or, or_add_and, and_le_l, and_le_r}
use Rattle.std.proofs.lemmas.List.{take_at, drop_at, take-append-drop, drop-drop, drop_more, drop_all, drop-replicate, take_rest, length-take-le}
use Rattle.std.proofs.lemmas.Bool.{and_parts, and_from, eqb-true, eq-eqb, le-leb, lt-leb}
use Rattle.std.proofs.lemmas.Bool.Decides.{Decides-like}
use Rattle.field.specs.Fields.{field, field_at, prefixed, are_zeros, is_field}

pub put-drop : (a e : ℕ) (xs ys : List ℕ) → a ≤ e → e ≤ length xs → drop a (put_mid a (e - a) xs ys) ≡ ys ++ drop e xs
put-drop a e xs ys h l =
    let m : a ≤ length xs = omega arith in
    let s : a + (e - a) ≡ e = omega arith in
    drop_at (take a xs) (ys ++ drop (e - a) (drop a xs)) a (length-take-le a xs m)
    ∙ ap (λ (y : List ℕ). ys ++ y) (drop-drop (e - a) a xs ∙ ap (λ (i : ℕ). drop i xs) s)

pub prefixed-is : (n : ℕ) (image : List ℕ) → image ≡ field n (field_at image 0) → take (1 + get_or image 0 0) image ≡ prefixed (field_at image 0)
unfolding field prefixed
prefixed-is n image e =
    let k : List ℕ = field_at image 0 in
    let l : get_or image 0 0 ≡ length k = ap (λ (b : List ℕ). get_or b 0 0) e in
    ap₂ (λ (i : ℕ) (b : List ℕ). take (1 + i) b) l e
    ∙ ap (λ (i : ℕ). take i (length k ∷ (k ++ replicate (n - length k) 0))) (one-add (length k))
    ∙ ap (λ (b : List ℕ). length k ∷ b) (take_at k (replicate (n - length k) 0) (length k) refl)

-- a field reads back
pub field_back : (n : ℕ) (k : List ℕ) → field_at (field n k) 0 ≡ k
unfolding field field_at
field_back n k = take_at k (replicate (n - length k) 0) (length k) refl

pub both-same : (x y : Bool) → (x ≡ true → y ≡ true) → (y ≡ true → x ≡ true) → x ≡ y
both-same true y f g = sym (f refl)
both-same false true f g = g refl
both-same false false f g = refl

or-none : (a x : ℕ) → eqb (bit_or a x) 0 ≡ (eqb a 0 && eqb x 0)
or-none a x =
    both-same (eqb (bit_or a x) 0) (eqb a 0 && eqb x 0)
    (λ e. let z = eqb-true (bit_or a x) 0 e in let s = or_add_and a x in let l = and_le_l a x in let r = and_le_r a x in
    and_from _ _ (eq-eqb a 0 (omega arith)) (eq-eqb x 0 (omega arith)))
    (λ e. let p = and_parts (eqb a 0) (eqb x 0) e in
    eq-eqb (bit_or a x) 0 (ap₂ bit_or (eqb-true a 0 p.0) (eqb-true x 0 p.1)))

pub zeros-more : (s : List ℕ) (a i : ℕ) → i < length s
    → (eqb (bit_or a (get_or s i 0)) 0 && are_zeros (drop (i + 1) s)) ≡ (eqb a 0 && are_zeros (drop i s))
unfolding are_zeros
zeros-more s a i h =
    ap (λ (t : Bool). t && are_zeros (drop (i + 1) s)) (or-none a (get_or s i 0))
    ∙ and_assoc (eqb a 0) (eqb (get_or s i 0) 0) (are_zeros (drop (i + 1) s))
    ∙ ap (λ (l : List ℕ). eqb a 0 && are_zeros l) (sym (drop_more s i 0 h))

pub zeros-all : (s : List ℕ) (a i : ℕ) → length s ≤ i → eqb a 0 ≡ (eqb a 0 && are_zeros (drop i s))
unfolding are_zeros
zeros-all s a i h = sym (and-true (eqb a 0)) ∙ ap (λ (l : List ℕ). eqb a 0 && are_zeros l) (sym (drop_all i s h))

pub field-tested : (m : ℕ) (f : List ℕ) (n : ℕ) → n ≡ get_or f 0 0 → n ≤ m → are_zeros (take (length f - (1 + n)) (drop (1 + n) f)) ≡ is_field m f
unfolding is_field
field-tested m f n e h =
    ap are_zeros (take_rest f (1 + n)) ∙ ap (λ (t : Bool). t && are_zeros (drop (1 + n) f)) (sym (le-leb n m h))
    ∙ ap (λ (i : ℕ). leb i m && are_zeros (drop (1 + i) f)) e

pub field-long : (m : ℕ) (f : List ℕ) (n : ℕ) → n ≡ get_or f 0 0 → m < n → leb n m ≡ is_field m f
unfolding is_field
field-long m f n e h =
    lt-leb n m h ∙ ap (λ (t : Bool). t && are_zeros (drop (1 + n) f)) (sym (lt-leb n m h))
    ∙ ap (λ (i : ℕ). leb i m && are_zeros (drop (1 + i) f)) e

-- a string written behind its length into zeros
pub filled : (n : ℕ) (s out : List ℕ) → length s ≤ n
    → take (1 + length s) out ≡ take 1 (length s ∷ replicate n 0) ++ s
    → drop (1 + length s) out ≡ drop (1 + length s) (length s ∷ replicate n 0)
    → out ≡ field n s
unfolding field
filled n s out h front back =
    let zeros : drop (1 + length s) (length s ∷ replicate n 0) ≡ replicate (n - length s) 0 =
    ap (λ (i : ℕ). drop i (length s ∷ replicate n 0)) (one-add (length s)) ∙ drop-replicate (length s) n 0 in
    sym (take-append-drop (1 + length s) out) ∙ ap₂ (λ (x y : List ℕ). x ++ y) front (back ∙ zeros)

pub filled-sized : (size : ℕ) (s out : List ℕ) → length s < size
    → take (1 + length s) out ≡ take 1 (set (replicate size 0) 0 (length s)) ++ s
    → drop (1 + length s) out ≡ drop (1 + length s) (set (replicate size 0) 0 (length s))
    → out ≡ field (size - 1) s
filled-sized zero s out h front back = absurd (omega arith)
filled-sized (suc n) s out h front back =
    let e : suc n - 1 ≡ n = omega arith in rw e (filled n s out (omega arith) front back)

-- what a field that was filled so holds
pub filled-length : (n : ℕ) (s out : List ℕ) → out ≡ field n s → get_or out 0 0 ≡ length s
unfolding field
filled-length n s out e = ap (λ (b : List ℕ). get_or b 0 0) e

pub filled_back : (n : ℕ) (s out : List ℕ) → out ≡ field n s → field_at out 0 ≡ s
filled_back n s out e = ap (λ (b : List ℕ). field_at b 0) e ∙ field_back n s

pub filled_padded : (n : ℕ) (s out : List ℕ) → out ≡ field n s → out ≡ field n (field_at out 0)
filled_padded n s out e = e ∙ ap (field n) (sym (filled_back n s out e))

-- whether two fields are the same tells whether they hold the same
pub same-held : (n : ℕ) (x y : List ℕ) (r : Bool) → x ≡ field n (field_at x 0) → y ≡ field n (field_at y 0)
    → Decides r (x ≡ y) → Decides r (field_at x 0 ≡ field_at y 0)
same-held n x y r p q = Decides-like r (ap (λ (b : List ℕ). field_at b 0)) (λ e. p ∙ ap (field n) e ∙ sym q)
