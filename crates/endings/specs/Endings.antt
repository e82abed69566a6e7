-- A key's way ends, in any world whatever: any bytes on the device, any log, any index.
use Rattle.std.specs.Prelude.{◌≡◌, ℕ, suc, ◌≤◌}
use Rattle.order.specs.Lawful.{Says, Lawful}
use Rattle.tree.specs.Walk.{due_root}
use Rattle.images.specs.Keys.{Key, empty_key}
use Rattle.model.specs.Worlds.{World, born}
use Rattle.model.specs.Ways.{going, way}

-- one page more than are born is enough: whoever allows more comes to the same plan, with the same actions and the same answer
abbrev pub WaysEndOverAnyPages : Type 0
WaysEndOverAnyPages = (says : Says) → Lawful says → (w : World) (k : Key) (n : ℕ) → suc (born w) ≤ n
    → going says k n w 0 (due_root empty_key) ≡ way says w k
