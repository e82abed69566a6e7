-- The changes that the store may make can be recorded.
use Rattle.std.proofs.Common.{◌≡◌, ℕ, ap, subst, arith}
use Rattle.tree.specs.Tree.{Ranking, Sound, frames}
use Rattle.tree.specs.Log.{Change, Logged, tree, May}
use Rattle.tree.specs.Log.Change.{Format, Put, Remove, Foster, Adopt, Grow}
use Rattle.neat.specs.Neat.{Pointed, NamesKey, Recorded}
use Rattle.neat.proofs.Written.{child_pointed, foster-over, foster_pointed}

module _ {K V : Type 0} (rank : K → ℕ) (top : ℕ) (least : K) (ranked : Ranking rank top least) (s : Logged K V) (sound : Sound rank top least (tree s)) where
  -- of an adoption: a branch, its child and that one's foster child are three pages
  pub change-recorded : (c : Change K V) → May rank top least c s → NamesKey rank top least c → Recorded rank top least s.born c
  change-recorded Format may named = tt
  change-recorded (Put p k v) may named = (may.is_born, named)
  change-recorded (Remove p k) may named = (may.is_born, named)
  change-recorded (Foster p o d) may named = (may.1.is_born, may.0, omega (arith, may.1.above, ranked.from_least (s.page p).frame.low))
  change-recorded (Adopt p o k c) may named =
      let child : Pointed s.born p o = subst (Pointed s.born p) may.leads
      (child_pointed rank top least ranked s.born (frames (tree s)) sound.shape p may.is_born may.below may.key may.level may.holds) in
      let level : (s.page o).frame.level ≡ may.below = subst (λ q. (s.page q).frame.level ≡ may.below) may.leads
      (sound.shape.children p may.is_born may.below may.key may.level may.holds).level_is in
      let foster = sound.shape.fosters o child.is_born (k, c) may.foster in
      let over = foster-over rank top least ranked s.born (frames (tree s)) sound.shape o child.is_born (k, c) may.foster in (
        may.is_born,
        child,
        record { inner = foster.inner; other = λ i. omega (arith, level, may.level, foster.level_is, ap (λ q. (s.page q).frame.level) i); is_born = foster.is_born },
        foster_pointed rank top least ranked s.born (frames (tree s)) sound.shape o child.is_born (k, c) may.foster,
        omega (arith, over, ranked.from_least (s.page o).frame.low),
      )
  change-recorded (Grow o) may named = (may, sound.shape.any)
