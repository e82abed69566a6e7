-- Numbers, fields and zeros that stand in a row of bytes.
use Rattle.std.proofs.Common.{◌≡◌, ℕ, zero, suc, ◌+◌, ◌-◌, ◌*◌, ◌/◌, ◌%◌, ◌^◌, ◌<◌, ◌≤◌, Bool, true, false, cond, eqb, leb, List, [], ◌∷◌, ◌++◌, length, get_or, take, drop, replicate, Some, None, sym, refl, ap, ◌∙◌, subst, ap₂, add-zero, mod-eq_of_lt, div-add-mod', one-add, arith}
use Rattle.std.proofs.lemmas.Nat.{div_below}
use Rattle.std.proofs.lemmas.List.{drop_at, drop-drop, get_or-drop, get_or-take, drop_more, length-append, length-take-le, length-take, length-drop, length-replicate, take-append-drop, take-take, drop-take}
use Rattle.std.proofs.lemmas.Bool.{and_parts, and_from, leb-true, le-leb, eqb-true, ne_eqb}
use Rattle.field.specs.Fields.{le2, half, word, field, field_at, are_zeros, is_field}
use Rattle.order.specs.Fences.{Bound}
use Rattle.seal.specs.Laws.{Bytes}
use Rattle.seal.specs.Seal.{le4, number4}
use Rattle.seal.proofs.Seals.{bytes_back}
use Rattle.page.specs.Image.{bound_field, bound_at}
use Rattle.page.specs.Form.{is_short}
use Rattle.page.specs.Walk.{is_bound_field}

abbrev pub Short : Bound → Type 0
Short (Some key) = length key ≤ 16
Short None = Unit {0}

pub short-is : (h : Bound) → Short h → is_short h ≡ true
unfolding is_short
short-is (Some k) s = le-leb (length k) 16 s
short-is None s = refl

pub short_back : (h : Bound) → is_short h ≡ true → Short h
unfolding is_short
short_back (Some k) e = leb-true (length k) 16 e
short_back None e = tt

-- bytes of parts
pub bytes_drop : (b : List ℕ) (n : ℕ) → Bytes b → Bytes (drop n b)
bytes_drop b n bs i = rw (get_or-drop n b i 0) (bs (n + i))

pub bytes-front : (x y : List ℕ) → Bytes (x ++ y) → Bytes x
bytes-front [] y bs i = omega arith
bytes-front (n ∷ x) y bs zero = bs 0
bytes-front (n ∷ x) y bs (suc i) = bytes-front x y (λ j. bs (suc j)) i

-- numbers
pub word-is : (b : List ℕ) (i : ℕ) → word b i ≡ number4 (drop i b)
unfolding word
word-is b i =
    let e0 : get_or (drop i b) 0 0 ≡ get_or b i 0 = get_or-drop i b 0 0 ∙ ap (λ (j : ℕ). get_or b j 0) (add-zero i) in
    let e1 : get_or (drop i b) 1 0 ≡ get_or b (i + 1) 0 = get_or-drop i b 1 0 in
    let e2 : get_or (drop i b) 2 0 ≡ get_or b (i + 2) 0 = get_or-drop i b 2 0 in
    let e3 : get_or (drop i b) 3 0 ≡ get_or b (i + 3) 0 = get_or-drop i b 3 0 in
    cc

pub word-drop : (b : List ℕ) (i : ℕ) → word (drop i b) 0 ≡ word b i
word-drop b i = word-is (drop i b) 0 ∙ sym (word-is b i)

pub half-le2 : (n : ℕ) → n < 2 ^ 16 → n % 256 + n / 256 % 256 * 256 ≡ n
half-le2 n h =
    let top : n / 256 % 256 ≡ n / 256 = mod-eq_of_lt (div_below n 256 256 (omega arith) h) in
    omega (arith, top, div-add-mod' n 256)

pub half_at : (b m : List ℕ) (i n : ℕ) → n < 2 ^ 16 → drop i b ≡ le2 n ++ m → half b i ≡ n
unfolding half le2
half_at b m i n h e =
    let lo : get_or b i 0 ≡ n % 256 = ap (λ (j : ℕ). get_or b j 0) (sym (add-zero i)) ∙ sym (get_or-drop i b 0 0) ∙ ap (λ (d : List ℕ). get_or d 0 0) e in
    let hi : get_or b (i + 1) 0 ≡ n / 256 % 256 = sym (get_or-drop i b 1 0) ∙ ap (λ (d : List ℕ). get_or d 1 0) e in
    ap₂ (λ (x y : ℕ). x + y * 256) lo hi ∙ half-le2 n h

pub two_bytes : (a b : ℕ) → a < 256 → b < 256 → le2 (a + b * 256) ≡ a ∷ b ∷ []
unfolding le2
two_bytes a b ha hb =
    let n : ℕ = a + b * 256 in
    let e0 : n % 256 ≡ a = omega arith in
    let q1 : n / 256 ≡ b = omega arith in
    let m1 : b % 256 ≡ b = omega arith in
    let e1 : n / 256 % 256 ≡ b = ap (λ (x : ℕ). x % 256) q1 ∙ m1 in
    cc

one_in : (b : List ℕ) (i j : ℕ) → j ≡ i + 1 → i < length b → drop i b ≡ get_or b i 0 ∷ drop j b
one_in b i j e h = drop_more b i 0 h ∙ ap (λ (k : ℕ). get_or b i 0 ∷ drop k b) (sym e)

number-take : (d : List ℕ) → 4 ≤ length d → number4 (take 4 d) ≡ number4 d
number-take d h =
    let e0 : get_or (take 4 d) 0 0 ≡ get_or d 0 0 = get_or-take 4 d 0 0 (omega arith) in
    let e1 : get_or (take 4 d) 1 0 ≡ get_or d 1 0 = get_or-take 4 d 1 0 (omega arith) in
    let e2 : get_or (take 4 d) 2 0 ≡ get_or d 2 0 = get_or-take 4 d 2 0 (omega arith) in
    let e3 : get_or (take 4 d) 3 0 ≡ get_or d 3 0 = get_or-take 4 d 3 0 (omega arith) in
    cc

pub word_in : (b : List ℕ) (i : ℕ) → Bytes b → i + 4 ≤ length b → drop i b ≡ le4 (word b i) ++ drop (i + 4) b
word_in b i bs h =
    let d : List ℕ = drop i b in
    let l = length-drop i b in
    let four : length (take 4 d) ≡ 4 = length-take-le 4 d (omega arith) in
    let t = take-append-drop 4 d in
    let fit : Bytes (take 4 d) = bytes-front (take 4 d) (drop 4 d) (subst Bytes (sym t) (bytes_drop b i bs)) in
    let w : le4 (word b i) ≡ take 4 d = ap le4 (word-is b i ∙ sym (number-take d (omega arith))) ∙ bytes_back (take 4 d) four fit in
    sym t ∙ ap₂ {C = List ℕ} (λ (x y : List ℕ). x ++ y) (sym w) (drop-drop 4 i b)

pub half_in : (b : List ℕ) (i : ℕ) → Bytes b → i + 2 ≤ length b → drop i b ≡ le2 (half b i) ++ drop (i + 2) b
unfolding half
half_in b i bs h =
    let s0 = one_in b i (i + 1) refl (omega arith) in
    let s1 = one_in b (i + 1) (i + 2) (omega arith) (omega arith) in
    let f = two_bytes (get_or b i 0) (get_or b (i + 1) 0) (bs i) (bs (i + 1)) in
    s0 ∙ ap (λ (l : List ℕ). get_or b i 0 ∷ l) s1 ∙ ap (λ (l : List ℕ). l ++ drop (i + 2) b) (sym f)

pub any_word : (b : List ℕ) → Bytes b → (i : ℕ) → word b i < 2 ^ 32
unfolding word
any_word b bs i =
    let h0 = bs i in
    let h1 = bs (i + 1) in
    let h2 = bs (i + 2) in
    let h3 = bs (i + 3) in
    omega arith

-- zeros
pub zeros_are : (xs : List ℕ) → are_zeros xs ≡ true → xs ≡ replicate (length xs) 0
unfolding are_zeros
zeros_are [] e = refl
zeros_are (x ∷ xs) e =
    let p = and_parts (eqb x 0) (are_zeros xs) e in
    ap₂ {C = List ℕ} (λ (y : ℕ) (ys : List ℕ). y ∷ ys) (eqb-true x 0 p.0) (zeros_are xs p.1)

pub zeros_of : (n : ℕ) → are_zeros (replicate n 0) ≡ true
unfolding are_zeros
zeros_of zero = refl
zeros_of (suc n) = zeros_of n

-- fields
pub field-length : (k : List ℕ) → length k ≤ 16 → length (field 16 k) ≡ 17
unfolding field
field-length k h = simp (length-append, length-replicate) (omega arith)

pub bound-length : (h : Bound) → Short h → length (bound_field h) ≡ 17
unfolding bound_field
bound-length None s = refl
bound-length (Some k) s = field-length k s

pub field_is : (f : List ℕ) → length f ≡ 17 → is_field 16 f ≡ true → f ≡ field 16 (take (get_or f 0 0) (drop 1 f))
unfolding is_field field
field_is [] l e = absurd (omega arith)
field_is (n ∷ g) l e =
    let p = and_parts (leb n 16) (are_zeros (drop (1 + n) (n ∷ g))) e in
    let h = leb-true n 16 p.0 in
    let z : are_zeros (drop n g) ≡ true = ap (λ (i : ℕ). are_zeros (drop i (n ∷ g))) (sym (one-add n)) ∙ p.1 in
    let lg : length g ≡ 16 = omega arith in
    let ln : length (take n g) ≡ n = length-take-le n g (omega arith) in
    let ld : length (drop n g) ≡ 16 - length (take n g) = length-drop n g ∙ omega arith in
    ap₂ {C = List ℕ} (λ (y : ℕ) (ys : List ℕ). y ∷ ys) (sym ln)
    (sym (take-append-drop n g) ∙ ap (λ (y : List ℕ). take n g ++ y) (zeros_are (drop n g) z ∙ ap (λ (i : ℕ). replicate i 0) ld))

pub field-passes : (k : List ℕ) → length k ≤ 16 → is_field 16 (field 16 k) ≡ true
unfolding is_field field
field-passes k h =
    and_from (leb (length k) 16) _ (le-leb (length k) 16 h)
    (ap (λ (i : ℕ). are_zeros (drop i (length k ∷ (k ++ replicate (16 - length k) 0)))) (one-add (length k))
    ∙ ap are_zeros (drop_at k (replicate (16 - length k) 0) (length k) refl) ∙ zeros_of (16 - length k))

none_is : (f : List ℕ) → length f ≡ 17 → get_or f 0 0 ≡ 255 → are_zeros (drop 1 f) ≡ true → f ≡ 255 ∷ replicate 16 0
none_is [] l n e = absurd (omega arith)
none_is (x ∷ g) l n e =
    let lg : length g ≡ 16 = omega arith in
    ap₂ {C = List ℕ} (λ (y : ℕ) (ys : List ℕ). y ∷ ys) n (zeros_are g e ∙ ap (λ (i : ℕ). replicate i 0) lg)

module _ (b : List ℕ) (i : ℕ) (h : i + 17 ≤ length b) where
  part : List ℕ
  part = take 17 (drop i b)

  part_length : length part ≡ 17
  unfolding part
  part_length = let l = length-drop i b in length-take-le 17 (drop i b) (omega arith)

  part-first : get_or part 0 0 ≡ get_or b i 0
  unfolding part
  part-first = get_or-take 17 (drop i b) 0 0 (omega arith) ∙ get_or-drop i b 0 0 ∙ ap (λ (j : ℕ). get_or b j 0) (add-zero i)

  part-rest : drop i b ≡ part ++ drop (i + 17) b
  unfolding part
  part-rest = sym (take-append-drop 17 (drop i b)) ∙ ap (λ (y : List ℕ). take 17 (drop i b) ++ y) (drop-drop 17 i b)

  part-key : (n : ℕ) → n ≤ 16 → take n (drop 1 part) ≡ take n (drop (i + 1) b)
  unfolding part
  part-key n l = ap (take n) (drop-take 1 16 (drop i b)) ∙ take-take n 16 (drop 1 (drop i b)) l ∙ ap (take n) (drop-drop 1 i b)

  pub field_in : is_field 16 (take 17 (drop i b)) ≡ true → drop i b ≡ field 16 (field_at b i) ++ drop (i + 17) b
  unfolding part field_at is_field
  field_in e =
      let s = leb-true (get_or part 0 0) 16 (and_parts _ _ e).0 in
      let k : take (get_or part 0 0) (drop 1 part) ≡ take (get_or b i 0) (drop (i + 1) b) =
      part-key (get_or part 0 0) s ∙ ap (λ (n : ℕ). take n (drop (i + 1) b)) part-first in
      part-rest ∙ ap (λ (y : List ℕ). y ++ drop (i + 17) b) (field_is part part_length e ∙ ap (field 16) k)

  pub field-short : is_field 16 (take 17 (drop i b)) ≡ true → (get_or b i 0 ≤ 16) × (length (field_at b i) ≤ 16)
  unfolding part field_at is_field
  field-short e =
      let s = leb-true (get_or part 0 0) 16 (and_parts _ _ e).0 in
      let f = part-first in
      let g : get_or b i 0 ≤ 16 = omega arith in
      let l = length-take (get_or b i 0) (drop (i + 1) b) in
      (g, omega arith)

  Bounded : Bound → Type 0
  Bounded h' = (drop i b ≡ bound_field h' ++ drop (i + 17) b) × Short h'

  bound-at : (t : Bool) → eqb (get_or part 0 0) 255 ≡ t → bound_at b i ≡ cond t None (Some (field_at b i))
  unfolding bound_at
  bound-at t q = ap (λ (x : Bool). cond x None (Some (field_at b i))) (ap (λ (n : ℕ). eqb n 255) (sym part-first) ∙ q)

  bound_ways : (t : Bool) → eqb (get_or part 0 0) 255 ≡ t → cond t (are_zeros (drop 1 part)) (is_field 16 part) ≡ true → Bounded (cond t None (Some (field_at b i)))
  unfolding part bound_field Bounded
  bound_ways true q e =
      (part-rest ∙ ap (λ (y : List ℕ). y ++ drop (i + 17) b) (none_is part part_length (eqb-true (get_or part 0 0) 255 q) e), tt)
  bound_ways false q e = (field_in e, (field-short e).1)

  pub bound-in : is_bound_field (take 17 (drop i b)) ≡ true → (drop i b ≡ bound_field (bound_at b i) ++ drop (i + 17) b) × Short (bound_at b i)
  unfolding part is_bound_field Bounded
  bound-in e = subst Bounded (sym (bound-at _ refl)) (bound_ways (eqb (get_or part 0 0) 255) refl e)

pub bound-short : (b : List ℕ) (i : ℕ) → i + 17 ≤ length b → is_bound_field (take 17 (drop i b)) ≡ true → (get_or b i 0 ≡ 255 → ⊥) → get_or b i 0 ≤ 16
unfolding is_bound_field part
bound-short b i h e n =
    let q : eqb (get_or (take 17 (drop i b)) 0 0) 255 ≡ false = ne_eqb (get_or (take 17 (drop i b)) 0 0) 255 (λ z. n (sym (part-first b i h) ∙ z)) in
    let z : is_field 16 (take 17 (drop i b)) ≡ true = sym (ap (λ (t : Bool). cond t (are_zeros (drop 1 (take 17 (drop i b)))) (is_field 16 (take 17 (drop i b)))) q) ∙ e in
    (field-short b i h z).0

field-first : (k : List ℕ) → length k ≤ 16 → eqb (get_or (field 16 k) 0 0) 255 ≡ false
unfolding field
field-first k s = ne_eqb (length k) 255 (λ q. omega arith)

pub bound-passes : (h : Bound) → Short h → is_bound_field (bound_field h) ≡ true
unfolding is_bound_field bound_field
bound-passes None s = zeros_of 16
bound-passes (Some k) s =
    ap (λ (t : Bool). cond t (are_zeros (drop 1 (field 16 k))) (is_field 16 (field 16 k))) (field-first k s) ∙ field-passes k s
