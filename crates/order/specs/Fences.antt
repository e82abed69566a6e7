-- The range of keys between two fences. Assumes nothing.
use Rattle.std.specs.Prelude.{ℕ, Bool, true, ◌&&◌, List, Some, None, Option}
use Rattle.std.specs.Borrow.{Bor}
use Rattle.std.specs.Ordering.{is_lt, is_le}
use Rattle.order.specs.Lawful.{Says}

-- an upper bound; `None` is above every key
abbrev pub Bound : Type 0
Bound = Option (List ℕ)

-- the bound that a lent one points to
abbrev pub lent : Option (Bor (List ℕ)) → Bound
lent None = None
lent (Some b) = Some b.now

abbrev pub is_below : Says → List ℕ → Bound → Bool
is_below says key None = true
is_below says key (Some b) = is_lt (says key b)

-- from the low fence on, and below the bound
abbrev pub is_held : Says → List ℕ → List ℕ → Bound → Bool
is_held says low key upper = is_le (says low key) && is_below says key upper
