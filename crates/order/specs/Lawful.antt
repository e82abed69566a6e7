-- What is asked of an order of keys. Assumes nothing.
use Rattle.std.specs.Prelude.{◌≡◌, ℕ, ◌≤◌, List, [], length, ◌≢◌}
use Rattle.std.specs.declared.cmp.Ordering.TheVariants.{Less, Equal, Greater}
use Rattle.std.specs.declared.cmp.Ordering.{Ordering}

abbrev pub Says : Type 0
Says = List ℕ → List ℕ → Ordering

-- a key has at most 16 bytes; nothing is asked of longer strings
module _ (says : Says) where
  -- only the same bytes are equal
  abbrev pub Same : Type 0
  Same = (a b : List ℕ) → length a ≤ 16 → length b ≤ 16 → says a b ≡ Equal → a ≡ b

  abbrev pub Itself : Type 0
  Itself = (a : List ℕ) → length a ≤ 16 → says a a ≡ Equal

  -- less one way exactly if greater the other way
  abbrev pub Turned : Type 0
  Turned = (a b : List ℕ) → length a ≤ 16 → length b ≤ 16 → (says a b ≡ Less → says b a ≡ Greater) × (says b a ≡ Greater → says a b ≡ Less)

  abbrev pub Chain : Type 0
  Chain = (a b d : List ℕ) → length a ≤ 16 → length b ≤ 16 → length d ≤ 16 → says a b ≡ Less → says b d ≡ Less → says a d ≡ Less

  -- nothing is below the empty string
  abbrev pub Least : Type 0
  Least = (a : List ℕ) → length a ≤ 16 → says a [] ≢ Less

pub record Lawful (says : Says) : Type 0 where
  pub same : Same says
  pub itself : Itself says
  pub turned : Turned says
  pub chain : Chain says
  pub least : Least says
