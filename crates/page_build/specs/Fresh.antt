-- The entry that some bytes are.
use Rattle.std.specs.Prelude.{ℕ, Bool, cond, List, take}
use Rattle.page.specs.Content.{Entry}
use Rattle.page.specs.Image.{entry_of}

abbrev pub fresh_entry : Bool → ℕ → List ℕ → Entry
fresh_entry branch len bytes = entry_of (cond branch 1 0) (take len bytes)
