-- What two devices mean as a mirror.
use Rattle.std.specs.Prelude.{◌≡◌, ℕ, cond, ◌&&◌, List, [], ◌∷◌}
use Rattle.device.specs.Disk.{Disk, Page, intact, reaches}
use Rattle.device.specs.Writes.{Fate, written}

-- the first page if it is intact, else the second
abbrev pub better : Page → Page → Page
better p q = cond (intact p) p q

-- two rows as one, as long as the shorter
abbrev pub paired : List Page → List Page → List Page
paired [] qs = []
paired (p ∷ ps) [] = []
paired (p ∷ ps) (q ∷ qs) = better p q ∷ paired ps qs

abbrev pub mirrored : Disk → Disk → Disk
mirrored a b = record { pages = paired a.pages b.pages; on = a.on && b.on }

-- a write to the mirror of a and b: b is written first, and a only once that write has finished
pub record InOrder (a b : Disk) (p : ℕ) (bs : List ℕ) (a' b' : Disk) : Type 0 where
  pub in_second : Fate
  pub in_first : Fate
  pub second : b' ≡ cond (reaches (mirrored a b) p) (written in_second b p bs) b
  pub first : a' ≡ cond (reaches (mirrored a b) p && b'.on) (written in_first a p bs) a
