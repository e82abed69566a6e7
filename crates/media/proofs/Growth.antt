-- A log each of whose records followed on those before it.
use Rattle.std.proofs.Common.{◌≡◌, ℕ, ◌<◌, ◌≤◌, List, [], ◌∷◌, ◌++◌, sym, refl}
use Rattle.order.specs.Lawful.{Says}
use Rattle.neat.specs.Neat.{Recorded}
use Rattle.tree.specs.Log.{Change, Rec, births, Logged, append, run, start}
use Rattle.tree.specs.Log.Change.{Format, Put, Remove, Foster, Adopt, Grow}
use Rattle.tree.specs.Plan.{linked}
use Rattle.images.specs.Keys.{Key, Value, empty_key, keyed}
use Rattle.model.specs.Runs.{Added, records_from}

-- what opening asks of the pages that a change names, where so many are born: they are born, none is named twice, and a birth is in turn
abbrev pub Taken : ℕ → Change Key Value → Type 0
Taken born Format = born ≡ 0
Taken born (Put p k v) = p < born
Taken born (Remove p k) = p < born
Taken born (Foster p o d) = (p < born) × (o ≡ born)
Taken born (Adopt p o k c) = (p < born) × (o < born) × (c < born) × (p ≡ o → ⊥) × (p ≡ c → ⊥) × (o ≡ c → ⊥)
Taken born (Grow o) = (0 < born) × (o ≡ born)

-- so it is of a change that can be recorded, of a format in an empty log
pub recorded-taken : (rank : Key → ℕ) (top : ℕ) (born : ℕ) (c : Change Key Value) → (c ≡ Format → born ≡ 0) → Recorded rank top empty_key born c → Taken born c
recorded-taken rank top born Format f h = f refl
recorded-taken rank top born (Put p k v) f h = h.0
recorded-taken rank top born (Remove p k) f h = h.0
recorded-taken rank top born (Foster p o d) f h = (h.0, h.1)
recorded-taken rank top born (Adopt p o k c) f h =
    (h.0, h.1.is_born, h.2.is_born, λ e. h.1.other (sym e), λ e. h.2.other (sym e), λ e. h.3.other (sym e))
recorded-taken rank top born (Grow o) f h = (h.1, h.0)

module _ (says : Says) where
  -- record by record, from a state on, with u usable pages: it has its pages' newest positions, is taken, and its birth has a page
  abbrev pub Grown : ℕ → Logged Key Value → List (Rec Key Value) → Type 0
  Grown u s [] = Unit {0}
  Grown u s (x ∷ xs) =
      (x ≡ linked s x.change) × Taken s.born x.change × (births x.change s.born ≤ u) × Grown u (append (keyed says) empty_key x s) xs

  pub grown-more : (u : ℕ) (s : Logged Key Value) (xs : List (Rec Key Value)) (x : Rec Key Value) → Grown u s xs
      → x ≡ linked (run (keyed says) empty_key s xs) x.change → Taken (run (keyed says) empty_key s xs).born x.change
      → births x.change (run (keyed says) empty_key s xs).born ≤ u → Grown u s (xs ++ (x ∷ []))
  grown-more u s [] x g e t b = (e, t, b, tt)
  grown-more u s (y ∷ xs) x g e t b = (g.0, g.1, g.2, grown-more u (append (keyed says) empty_key y s) xs x g.3 e t b)

  -- what a run's log has grown from
  abbrev pub GrownLog : ℕ → Added → Type 0
  GrownLog u added = Grown u (start (keyed says) empty_key) (records_from 1 added)
