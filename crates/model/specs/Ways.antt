-- The way of a key: from page 0, each page fetched and held against what pointed to it.
use Rattle.std.specs.Prelude.{ℕ, zero, suc, cond, List, [], ◌∷◌, Some, None, Ok, Err, Option, nat_lt}
use Rattle.order.specs.Lawful.{Says}
use Rattle.tree.specs.Tree.{Image}
use Rattle.tree.specs.Walk.{Visit, visit, Due, check, onward_due, due_root}
use Rattle.images.specs.Keys.{Key, Value, empty_key, keyed}
use Rattle.model.specs.declared.refusal.Check.TheVariants.{NotBorn}
use Rattle.model.specs.declared.refusal.Refusal.TheVariants.{WrongPage}
use Rattle.model.specs.Refusals.{check_of}
use Rattle.model.specs.Worlds.{World, born}
use Rattle.model.specs.Plans.{Plan, ends, after}
use Rattle.model.specs.Fetches.{fetching}

-- the pages met above the leaf, from page 0 on, and the leaf
pub record Route : Type 0 where
  pub above : List (Visit Key Value)
  pub leaf : Visit Key Value

abbrev pub route : List (Visit Key Value) → Visit Key Value → Route
route vs l = record { above = vs; leaf = l }

abbrev pub met : Visit Key Value → Route → World → Plan Route
met v r w = ends (Ok (route (v ∷ r.above) r.leaf))

-- to the foster child or the branch's child, or the way ends
abbrev pub onwards : (World → ℕ → Due Key → Plan Route) → Visit Key Value → World → Option (ℕ × Due Key) → Plan Route
onwards go v w None = ends (Ok (route [] v))
onwards go v w (Some q) = after w (go w q.0 q.1) (met v)

-- the first check that the page fails: 1 low fence, 2 high fence, 3 level
abbrev pub compared : Says → (World → ℕ → Due Key → Plan Route) → Key → Visit Key Value → World → ℕ → Plan Route
compared says go k v w zero = onwards go v w (onward_due (keyed says) k v.image.frame v.image.frame.foster)
compared says go k v w (suc c) = ends (Err (WrongPage v.page (check_of (suc c))))

abbrev pub arrived : Says → (World → ℕ → Due Key → Plan Route) → Key → ℕ → Due Key → Image Key Value → World → Plan Route
arrived says go k p d x w = compared says go k (visit p x) w (check (keyed says) d x.frame)

-- from page p, of which d is due, over at most n pages. An unborn number is told unread
unfoldable pub going : Says → Key → ℕ → World → ℕ → Due Key → Plan Route
going says k zero w p d = ends (Err (WrongPage p NotBorn))
going says k (suc n) w p d =
    let on = after w (fetching says w p) (arrived says (going says k n) k p d) in
    cond (nat_lt p (born w)) on (ends (Err (WrongPage p NotBorn)))

-- no page is met twice, but for one that then fails its comparison: one page more than are born is enough
unfoldable pub way : Says → World → Key → Plan Route
way says w k = going says k (suc (born w)) w 0 (due_root empty_key)
