-- A plan and what comes after it, by the answer of the first.
use Rattle.std.proofs.Common.{◌≡◌, ◌++◌, Ok, Err, ap}
use Rattle.model.specs.declared.refusal.Refusal.{Refusal}
use Rattle.model.specs.Worlds.{World, done}
use Rattle.model.specs.Plans.{Plan, onward, after}

module _ {X Y : Type 0} (w : World) (P : Plan X) (k : X → World → Plan Y) where
  pub after-ok : (x : X) → P.answer ≡ Ok x
      → after w P k ≡ record { actions = P.actions ++ (k x (done P.actions w)).actions; answer = (k x (done P.actions w)).answer }
  unfolding after
  after-ok x e = ap (λ a. onward P.actions w a k) e

  pub after_err : (ε : Refusal) → P.answer ≡ Err ε → after w P k ≡ record { actions = P.actions; answer = Err ε }
  unfolding after
  after_err ε e = ap (λ a. onward P.actions w a k) e
