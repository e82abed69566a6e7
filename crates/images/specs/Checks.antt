-- The checks of a page one after another, and that they decide what a page passes for.
use Rattle.std.specs.Prelude.{◌≡◌, ℕ, ◌<◌, cond, Some, ◌==◌, slice_index}
use Rattle.order.specs.Lawful.{Says}
use Rattle.field.specs.Fields.{word}
use Rattle.seal.specs.Seal.{is_sealed}
use Rattle.page.specs.Form.{is_sound}
use Rattle.device.specs.Disk.{Page, holds, unreadable}
use Rattle.tree.specs.Tree.{Image}
use Rattle.tree.specs.Worlds.{passes}
use Rattle.images.specs.Keys.{Key, Value}
use Rattle.images.specs.Images.{stored_page}

-- the first check that page p fails at position n: 1 it is not readable, 2 its seal, 3 it has another number, 4 its LSN is below or above n, 5 its
-- form under the key order. 0: it fails none
unfoldable pub first_check : Says → ℕ → ℕ → Page → ℕ
first_check says p n unreadable = 1
first_check says p n (holds b) = cond (is_sealed b) (cond (word b 0 == p) (cond (word b 4 == n) (cond (is_sound says b) 0 5) 4) 3) 2

-- a device's pages hold bytes
abbrev pub HoldsBytes : Page → Type 0
HoldsBytes (holds b) = (i : ℕ) → slice_index b i < 256
HoldsBytes unreadable = Unit {0}

abbrev pub APagePassesExactlyIfNoCheckFails : Type 0
APagePassesExactlyIfNoCheckFails = (says : Says) (p n : ℕ) (q : Page) → HoldsBytes q
    → (first_check says p n q ≡ 0 → (x : Image Key Value) × (passes n (stored_page says p q) ≡ Some x))
    × ((x : Image Key Value) → passes n (stored_page says p q) ≡ Some x → first_check says p n q ≡ 0)
