-- A plan: what a call does one after another, and answers. And how a plan is played.
use Rattle.std.specs.Prelude.{◌≡◌, true, false, ◌⊎◌, List, [], ◌∷◌, ◌++◌, Ok, Err, Result}
use Rattle.device.specs.Writes as page
use Rattle.wal.specs.Appends as log
use Rattle.model.specs.declared.refusal.Refusal.{Refusal}
use Rattle.model.specs.declared.refusal.Refusal.TheVariants.{PowerFailed}
use Rattle.model.specs.Worlds.{World, Action, acted, did, done, powered}

pub record Plan (X : Type 0) : Type 0 where
  pub actions : List Action
  pub answer : Result X Refusal

abbrev pub ends : {X : Type 0} → Result X Refusal → Plan X
ends x = record { actions = []; answer = x }

abbrev pub onward : {X Y : Type 0} → List Action → World → Result X Refusal → (X → World → Plan Y) → Plan Y
onward xs w (Ok x) k = record { actions = xs ++ (k x (done xs w)).actions; answer = (k x (done xs w)).answer }
onward xs w (Err ε) k = record { actions = xs; answer = Err ε }

-- one plan in the world w, and after it another, which depends on its answer and on the world that it leaves; a refusal ends it
unfoldable pub after : {X Y : Type 0} → World → Plan X → (X → World → Plan Y) → Plan Y
after w p k = onward p.actions w p.answer k

-- power failed in an action, and left what its fate says
pub record Cut {X : Type 0} (a : Action) (w : World) (r : Result X Refusal) (e : World) : Type 0 where
  pub in_append : log.Fate
  pub in_write : page.Fate
  pub leaves : e ≡ acted in_append in_write a w
  pub off : powered a e ≡ false
  pub answers : r ≡ Err PowerFailed

-- all actions are done and the answer is given, or power fails in one of them
abbrev pub Plays : {X : Type 0} → List Action → Result X Refusal → World → Result X Refusal → World → Type 0
Plays [] x w r e = (r ≡ x) × (e ≡ w)
Plays (a ∷ xs) x w r e = Cut a w r e ⊎ ((powered a (did a w) ≡ true) × Plays xs x (did a w) r e)

-- the plan was played in the world w, answered r and left e
pub record Played {X : Type 0} (p : Plan X) (w : World) (r : Result X Refusal) (e : World) : Type 0 where
  pub plays : Plays p.actions p.answer w r e
