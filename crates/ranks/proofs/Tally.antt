-- How many of a list's elements pass a test. Assumes nothing.
use Rattle.std.proofs.Common.{◌≡◌, ℕ, ◌+◌, ◌<◌, ◌≤◌, Bool, true, false, cond, List, [], ◌∷◌, length, sym, ap, ◌∙◌, inl, inr, arith}
pub use Rattle.ranks.specs.Lists.{In, All}

pub all_more : {A : Type 0} {P Q : A → Type 0} → ((x : A) → P x → Q x) → (xs : List A) → All P xs → All Q xs
all_more f [] h = tt
all_more f (x ∷ xs) h = (f x h.0, all_more f xs h.1)

unfoldable pub tally : {A : Type 0} → (A → Bool) → List A → ℕ
tally f [] = 0
tally f (x ∷ xs) = cond (f x) 1 0 + tally f xs

tally-le : {A : Type 0} (f g : A → Bool) (xs : List A) → All (λ x. f x ≡ true → g x ≡ true) xs → tally f xs ≤ tally g xs
unfolding tally
tally-le f g [] h = omega arith
tally-le f g (x ∷ xs) h = let more = tally-le f g xs h.1 in let here = h.0 in grind arith

-- what passes a test passes another, and one element passes only the other
pub tally-lt : {A : Type 0} (f g : A → Bool) (a : A) (xs : List A) → All (λ x. f x ≡ true → g x ≡ true) xs → f a ≡ false → g a ≡ true → In a xs
    → tally f xs < tally g xs
unfolding tally
tally-lt f g a [] h p q i = absurd i
tally-lt f g a (x ∷ xs) h p q (inl e) =
    let more = tally-le f g xs h.1 in
    let fails : f x ≡ false = ap f (sym e) ∙ p in
    let passes : g x ≡ true = ap g (sym e) ∙ q in
    grind arith
tally-lt f g a (x ∷ xs) h p q (inr i) = let more = tally-lt f g a xs h.1 p q i in let here = h.0 in grind arith

pub tally_most : {A : Type 0} (f : A → Bool) (xs : List A) → tally f xs ≤ length xs
unfolding tally
tally_most f [] = omega arith
tally_most f (x ∷ xs) = let more = tally_most f xs in grind arith
