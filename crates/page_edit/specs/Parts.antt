-- Where an entry with a key goes.
use Rattle.std.specs.Prelude.{◌≡◌, ℕ, List, [], ◌∷◌}
use Rattle.order.specs.Lawful.{Says}
use Rattle.page.specs.Content.{Entry, entry_key}
use Rattle.page_build.specs.Spliced.{spliced}
use Rattle.page_edit.specs.Edits.{placed}

-- placed among the others, it stands behind the first so many of them and before those from a slot on
abbrev pub Parts : Says → List ℕ → List Entry → ℕ → ℕ → Type 0
Parts says key es keep resume = (e : Entry) → entry_key e ≡ key → placed says e es ≡ spliced es keep (e ∷ []) resume
