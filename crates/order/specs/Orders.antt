-- Two orders of byte strings. Assumes nothing.
use Rattle.std.specs.Prelude.{ℕ, cond, List, [], ◌∷◌, length, ◌==◌, nat_lt}
use Rattle.std.specs.declared.cmp.Ordering.TheVariants.{Less, Equal, Greater}
use Rattle.std.specs.declared.cmp.Ordering.{Ordering}
use Rattle.std.specs.Ordering.{ordering_then}

-- numbers by their size
abbrev pub by_number : ℕ → ℕ → Ordering
by_number x y = cond (nat_lt x y) Less (cond (x == y) Equal Greater)

-- the first differing byte decides, and a prefix is less
abbrev pub by_byte : List ℕ → List ℕ → Ordering
by_byte [] [] = Equal
by_byte [] (y ∷ ys) = Less
by_byte (x ∷ xs) [] = Greater
by_byte (x ∷ xs) (y ∷ ys) = ordering_then (by_number x y) (by_byte xs ys)

-- the shorter is less, then byte order
abbrev pub by_length : List ℕ → List ℕ → Ordering
by_length a b = ordering_then (by_number (length a) (length b)) (by_byte a b)
