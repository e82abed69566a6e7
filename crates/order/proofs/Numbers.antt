-- Bytes of one length compare as the numbers that they write. Assumes nothing.
use Rattle.std.proofs.Common.{◌≡◌, ℕ, suc, ◌+◌, ◌*◌, ◌^◌, ◌<◌, ◌≤◌, List, [], ◌∷◌, ◌++◌, length, get_or, take, drop, Ordering, Less, Equal, Greater, sym, refl, ap, ◌∙◌, subst, mul-le-mul_right, suc-mul, mul_comm, pow-suc, arith, take-append-drop}
use Rattle.std.specs.Ordering.{ordering_then, nat_cmp}
use Rattle.std.specs.Cmp.Lexicographic.{slice_cmp}
use Rattle.std.proofs.lemmas.List.FromFn.{fill_by_all}
use Rattle.std.proofs.lemmas.Bool.Decides.{nat_tests}
use Rattle.order.specs.Orders.{by_number, by_byte}
use Rattle.order.specs.Wide.{wide}

abbrev pub AllBytes : List ℕ → Type 0
AllBytes [] = Unit {0}
AllBytes (x ∷ xs) = (x < 256) × AllBytes xs

pub all_bytes : (xs : List ℕ) → ((i : ℕ) → get_or xs i 0 < 256) → AllBytes xs
all_bytes [] h = tt
all_bytes (x ∷ xs) h = (h 0, all_bytes xs (λ i. h (suc i)))

grow : (x y t : ℕ) → x < y → x * t + t ≤ y * t
grow x y t h = let a = mul-le-mul_right {m = suc x} {n = y} t h in let b = suc-mul x t in omega arith

wide_below : (xs : List ℕ) → AllBytes xs → wide xs < 256 ^ length xs
unfolding wide
wide_below [] a = omega arith
wide_below (x ∷ xs) (h, a) =
    let t : ℕ = 256 ^ length xs in
    let i = wide_below xs a in
    let g = grow x 256 t h in
    let p : 256 ^ suc (length xs) ≡ 256 * t = pow-suc 256 (length xs) ∙ mul_comm t 256 in
    omega arith

-- what a highest byte adds decides, whatever the rest is
higher : (x y t u v : ℕ) → x < y → u < t → x * t + u < y * t + v
higher x y t u v h k = let g = grow x y t h in omega arith

pub by_wide : (p q : List ℕ) → length p ≡ length q → AllBytes p → AllBytes q → by_byte p q ≡ by_number (wide p) (wide q)
unfolding wide
by_wide [] [] l a b = refl
by_wide [] (y ∷ q) l a b = absurd (omega arith)
by_wide (x ∷ p) [] l a b = absurd (omega arith)
by_wide (x ∷ p) (y ∷ q) l (hx, a) (hy, b) =
    let t : ℕ = 256 ^ length p in
    let n : length p ≡ length q = omega arith in
    let s : 256 ^ length q ≡ t = ap (λ (k : ℕ). 256 ^ k) (sym n) in
    let bp : wide p < t = wide_below p a in
    let bq : wide q < t = subst (λ (k : ℕ). wide q < k) s (wide_below q b) in
    let more : by_byte p q ≡ by_number (wide p) (wide q) = by_wide p q n a b in
    let up : x < y → x * t + wide p < y * t + wide q = λ h. higher x y t (wide p) (wide q) h bp in
    let down : y < x → y * t + wide q < x * t + wide p = λ h. higher y x t (wide q) (wide p) h bq in
    let level : x ≡ y → x * t ≡ y * t = ap (λ (k : ℕ). k * t) in
    step x y (x * t) (y * t) (wide p) (wide q) (by_byte p q) more up down level ∙ ap (λ (k : ℕ). by_number (x * t + wide p) (y * k + wide q)) (sym s)
  where
    step : (x y m n u v : ℕ) (o : Ordering) → o ≡ by_number u v → (x < y → m + u < n + v) → (y < x → n + v < m + u) → (x ≡ y → m ≡ n)
        → ordering_then (by_number x y) o ≡ by_number (m + u) (n + v)
    step x y m n u v o e up down level = grind (arith, nat_tests)

digits : (a b c d e f g h : ℕ)
    → a * 72057594037927936 + b * 281474976710656 + c * 1099511627776 + d * 4294967296 + e * 16777216 + f * 65536 + g * 256 + h
    ≡ wide (a ∷ b ∷ c ∷ d ∷ e ∷ f ∷ g ∷ h ∷ [])
unfolding wide
digits a b c d e f g h = omega arith

pub wide-eight : (bs : List ℕ) → length bs ≡ 8
    → get_or bs 0 0 * 72057594037927936 + get_or bs 1 0 * 281474976710656 + get_or bs 2 0 * 1099511627776 + get_or bs 3 0 * 4294967296 + get_or bs 4 0 * 16777216 + get_or bs 5 0 * 65536 + get_or bs 6 0 * 256 + get_or bs 7 0
    ≡ wide bs
wide-eight bs e =
    digits (get_or bs 0 0) (get_or bs 1 0) (get_or bs 2 0) (get_or bs 3 0) (get_or bs 4 0) (get_or bs 5 0) (get_or bs 6 0) (get_or bs 7 0)
    ∙ ap wide (sym (fill_by_all (λ (k : ℕ). get_or bs k 0) bs 8 0 e (λ k p. refl)))

then-then : (o p q : Ordering) → ordering_then o (ordering_then p q) ≡ ordering_then (ordering_then o p) q
then-then Less p q = refl
then-then Equal p q = refl
then-then Greater p q = refl

-- the fronts decide, and what follows them only where they are alike
fronts : (p q xs ys : List ℕ) → length p ≡ length q → by_byte (p ++ xs) (q ++ ys) ≡ ordering_then (by_byte p q) (by_byte xs ys)
fronts [] [] xs ys l = refl
fronts [] (y ∷ q) xs ys l = absurd (omega arith)
fronts (x ∷ p) [] xs ys l = absurd (omega arith)
fronts (x ∷ p) (y ∷ q) xs ys l =
    ap (λ (o : Ordering). ordering_then (by_number x y) o) (fronts p q xs ys (omega arith)) ∙ then-then (by_number x y) (by_byte p q) (by_byte xs ys)

pub front-first : (n : ℕ) (x y p q xs ys : List ℕ) (o : Ordering) → p ≡ take n x → xs ≡ drop n x → q ≡ take n y → ys ≡ drop n y
    → length p ≡ length q → o ≡ by_byte p q → by_byte x y ≡ ordering_then o (by_byte xs ys)
front-first n x y p q xs ys o ep ex eq ey l e =
    let wx = take-append-drop n x in
    let wy = take-append-drop n y in
    let f = fronts p q xs ys l in
    cc

pub is_lex : (a b : List ℕ) → by_byte a b ≡ slice_cmp nat_cmp a b
is_lex [] [] = refl
is_lex [] (y ∷ ys) = refl
is_lex (x ∷ xs) [] = refl
is_lex (x ∷ xs) (y ∷ ys) = ap (λ (o : Ordering). ordering_then (by_number x y) o) (is_lex xs ys)
