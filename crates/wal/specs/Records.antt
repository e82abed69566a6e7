-- The layout of a record: its position in bytes 0 to 3, its seal in bytes 124 to 127.
use Rattle.std.specs.Prelude.{ℕ, Bool, ◌&&◌, List, ◌++◌, take, drop, ◌==◌}
use Rattle.seal.specs.Seal.{is_sealed, le4, sealed}
use Rattle.field.specs.Fields.{word}

-- a record with its position and seal set
unfoldable pub stamped : ℕ → List ℕ → List ℕ
stamped n bs = sealed (le4 n ++ take 120 (drop 4 bs))

-- whether a block is sealed and carries the position n
unfoldable pub passes : ℕ → List ℕ → Bool
passes n bs = is_sealed bs && word bs 0 == n
