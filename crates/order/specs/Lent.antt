-- What lent keys are. Assumes nothing.
use Rattle.std.specs.Prelude.{ℕ, List, map}
use Rattle.std.specs.Borrow.{Bor}

abbrev pub behind : List (Bor (List ℕ)) → List (List ℕ)
behind = map (λ r. r.now)
