-- The number that bytes write, the first byte highest. Assumes nothing.
use Rattle.std.specs.Prelude.{ℕ, ◌+◌, ◌*◌, ◌^◌, List, [], ◌∷◌, length}

unfoldable pub wide : List ℕ → ℕ
wide [] = 0
wide (x ∷ xs) = x * 256 ^ length xs + wide xs
