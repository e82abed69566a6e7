-- Parts that were written one after the other make a whole.
use Rattle.std.proofs.Common.{◌≡◌, ℕ, ◌+◌, ◌≤◌, List, ◌++◌, length, take, sym, ap, ◌∙◌, append_assoc, arith}
use Rattle.std.proofs.lemmas.List.{take_all}

-- a part of known length, by what it is
pub put-at : (at n : ℕ) (old new part p : List ℕ) → part ≡ p → length part ≡ n
    → take (at + length part) new ≡ take at old ++ part → take (at + n) new ≡ take at old ++ p
put-at at n old new part p e l w =
    ap (λ (k : ℕ). take (at + k) new) (sym l) ∙ w ∙ ap (λ (x : List ℕ). take at old ++ x) e

regrouped : (a b c d e f g h i j k : List ℕ) →
    (((((((((a ++ b) ++ c) ++ d) ++ e) ++ f) ++ g) ++ h) ++ i) ++ j) ++ k
    ≡ a ++ (b ++ (c ++ (d ++ (e ++ (f ++ (g ++ (h ++ (i ++ (j ++ k)))))))))
regrouped a b c d e f g h i j k = simp append_assoc

pub eleven : (a b c d e f g h i j k o1 o2 o3 o4 o5 o6 o7 o8 o9 o10 o11 : List ℕ)
    → take 4 o1 ≡ a → take 8 o2 ≡ take 4 o1 ++ b → take 10 o3 ≡ take 8 o2 ++ c → take 12 o4 ≡ take 10 o3 ++ d
    → take 16 o5 ≡ take 12 o4 ++ e → take 18 o6 ≡ take 16 o5 ++ f → take 20 o7 ≡ take 18 o6 ++ g → take 37 o8 ≡ take 20 o7 ++ h
    → take 54 o9 ≡ take 37 o8 ++ i → take 71 o10 ≡ take 54 o9 ++ j → take 72 o11 ≡ take 71 o10 ++ k → length o11 ≡ 72
    → o11 ≡ a ++ (b ++ (c ++ (d ++ (e ++ (f ++ (g ++ (h ++ (i ++ (j ++ k)))))))))
eleven a b c d e f g h i j k o1 o2 o3 o4 o5 o6 o7 o8 o9 o10 o11 w1 w2 w3 w4 w5 w6 w7 w8 w9 w10 w11 l =
    let n : length o11 ≤ 72 = omega arith in
    let all = take_all 72 o11 n in
    let r = regrouped a b c d e f g h i j k in
    cc
