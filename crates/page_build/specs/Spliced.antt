-- Entries of an old row with some left out, and perhaps a fresh one in their place.
use Rattle.std.specs.Prelude.{ℕ, List, [], ◌∷◌, ◌++◌, take, drop, Some, None, Option}
use Rattle.std.specs.Borrow.{Bor}
use Rattle.page.specs.Content.{Entry}
use Rattle.page_build.specs.declared.fresh.Fresh.{Fresh}
use Rattle.page_build.specs.Entered.{entry_in}

abbrev pub listed : Option (Bor Fresh) → List Entry
listed None = []
listed (Some f) = entry_in f.now ∷ []

-- the first so many, the fresh one, and those from a slot on
unfoldable pub spliced : List Entry → ℕ → List Entry → ℕ → List Entry
spliced es keep middle resume = take keep es ++ (middle ++ drop resume es)
