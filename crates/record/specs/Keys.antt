-- Why bytes are no key of an entry.
use Rattle.std.specs.Prelude.{◌≡◌, ℕ, ◌<◌}
use Rattle.record.specs.declared.keys.NoEntryKey.{NoEntryKey}
use Rattle.record.specs.declared.keys.NoEntryKey.TheVariants.{Empty, TooLong}

-- by how many there are
abbrev pub IsWhy : NoEntryKey → ℕ → Type 0
IsWhy Empty n = n ≡ 0
IsWhy TooLong n = 16 < n
