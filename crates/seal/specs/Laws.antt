-- What holds of sealed blocks, over the definitions alone.
use Rattle.std.specs.Prelude.{◌≡◌, ℕ, ◌<◌, true, List, slice_index}
use Rattle.seal.specs.Seal.{sealed, body_of, is_sealed}

abbrev pub Bytes : List ℕ → Type 0
Bytes bs = (i : ℕ) → slice_index bs i < 256

abbrev pub SealedPasses : Type 0
SealedPasses = (body : List ℕ) → Bytes body → is_sealed (sealed body) ≡ true

abbrev pub PassingIsSealed : Type 0
PassingIsSealed = (block : List ℕ) → Bytes block → is_sealed block ≡ true → sealed (body_of block) ≡ block
