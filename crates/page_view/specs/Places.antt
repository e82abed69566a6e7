-- Where the parts of an entry lie.
use Rattle.std.specs.Prelude.{ℕ, ◌+◌, ◌*◌, List, slice_index}
use Rattle.field.specs.Fields.{half}

unfoldable pub place_of : List ℕ → ℕ → ℕ
place_of b i = half b (72 + 2 * i)

unfoldable pub behind_key : List ℕ → ℕ → ℕ
behind_key b i = place_of b i + 1 + slice_index b (place_of b i)
