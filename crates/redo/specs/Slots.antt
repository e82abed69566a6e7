-- The slot whose key divides a page.
use Rattle.std.specs.Prelude.{◌≡◌, ℕ, ◌<◌, true, false, List, length, Some, None, Option}
use Rattle.order.specs.Lawful.{Says}
use Rattle.page.specs.Content.{Content, entry_at, entry_key}
use Rattle.edits.specs.Suits.{divides}

-- the slot that has the key, unless it is the first
pub record DividesAt (says : Says) (key : List ℕ) (c : Content) (slot : ℕ) : Type 0 where
  pub parts : divides says key c.entries ≡ true
  pub within : slot < length c.entries
  pub has : entry_key (entry_at c slot) ≡ key

abbrev pub DividesIn : Says → List ℕ → Content → Option ℕ → Type 0
DividesIn says key c None = divides says key c.entries ≡ false
DividesIn says key c (Some slot) = DividesAt says key c slot
