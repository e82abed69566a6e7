-- Plans of an open store by what they do: apt actions, an open store behind them, and changes only where the answer is no refusal.
use Rattle.std.proofs.Common.{◌≡◌, ◌⊎◌, List, [], ◌++◌, Ok, Err, Result, sym, refl, ap, subst, inl, inr}
use Rattle.std.proofs.lemmas.List.{append-nil}
use Rattle.order.specs.Lawful.{Says}
use Rattle.tree.specs.Log.{Change}
use Rattle.images.specs.Keys.{Key, Value}
use Rattle.images.specs.Laws.{Ranked}
use Rattle.model.specs.declared.refusal.Refusal.{Refusal}
use Rattle.model.specs.Worlds.{World, done}
use Rattle.model.specs.Plans.{Plan, ends, after}
use Rattle.model.specs.Runs.{Added}
use Rattle.media.proofs.Media.{Opened, Apt}
use Rattle.media.proofs.Media.Apt.{rests}
use Rattle.media.proofs.Afters.{after-ok, after_err}
use Rattle.media.proofs.Plays.{apt-append, apt-done}

module _ (says : Says) (r : Ranked says) where
  pub record Does {X : Type 0} (added : Added) (w : World) (P : Plan X) (Q : X → List (Change Key Value) → Type 0) : Type 0 where
    pub cs : List (Change Key Value)
    pub last : Added
    pub end : World
    pub apt : Apt says r added w P.actions cs last end
    pub opened : Opened says r last end
    pub told : ((x : X) × (P.answer ≡ Ok x) × Q x cs) ⊎ ((ε : Refusal) × (P.answer ≡ Err ε) × (cs ≡ []))

  -- a plan that refuses at once
  pub refuses : {X : Type 0} (added : Added) (w : World) (Q : X → List (Change Key Value) → Type 0) (ε : Refusal) → Opened says r added w → Does added w (ends (Err ε)) Q
  refuses added w Q ε o = record { cs = []; last = added; end = w; apt = rests; opened = o; told = inr (ε, refl, refl) }

  -- a plan with no action
  pub answers : {X : Type 0} (added : Added) (w : World) (Q : X → List (Change Key Value) → Type 0) (a : Result X Refusal) → Opened says r added w
      → ((x : X) → a ≡ Ok x → Q x []) → Does added w (ends a) Q
  answers added w Q (Ok x) o q = record { cs = []; last = added; end = w; apt = rests; opened = o; told = inl (x, refl, q x refl) }
  answers added w Q (Err ε) o q = record { cs = []; last = added; end = w; apt = rests; opened = o; told = inr (ε, refl, refl) }

  module _ {X Y : Type 0} (added : Added) (w : World) (P : Plan X) (k : X → World → Plan Y) (Q : Y → List (Change Key Value) → Type 0) where
    -- a refusal ends it
    pub then_refused : (v : World) (ε : Refusal) → P.answer ≡ Err ε → Apt says r added w P.actions [] added v → Opened says r added v → Does added w (after w P k) Q
    then_refused v ε e a o = subst (λ p. Does added w p Q) (sym (after_err w P k ε e))
        (record { cs = []; last = added; end = v; apt = a; opened = o; told = inr (ε, refl, refl) })

    -- the first makes no change
    pub then-does : (v : World) (x : X) → P.answer ≡ Ok x → Apt says r added w P.actions [] added v → Does added v (k x v) Q → Does added w (after w P k) Q
    then-does v x e a d =
        let i = apt-done says r a in
        subst (λ p. Does added w p Q) (sym (after-ok w P k x e))
        (subst (λ u. Does added w (record { actions = P.actions ++ (k x u).actions; answer = (k x u).answer }) Q) i
        (record { cs = d.cs; last = d.last; end = d.end; apt = apt-append says r a d.apt; opened = d.opened; told = d.told }))

    -- the first answers or refuses with no action
    pub at_once : (x : X) → P ≡ ends (Ok x) → Does added w (k x w) Q → Does added w (after w P k) Q
    at_once x e d = subst (λ p. Does added w (after w p k) Q) (sym e) (subst (λ p. Does added w p Q) (sym (after-ok w (ends (Ok x)) k x refl)) d)

    pub refused_at_once : (ε : Refusal) → P ≡ ends (Err ε) → Opened says r added w → Does added w (after w P k) Q
    refused_at_once ε e o = subst (λ p. Does added w (after w p k) Q) (sym e)
        (subst (λ p. Does added w p Q) (sym (after_err w (ends (Err ε)) k ε refl)) (refuses added w Q ε o))

  -- what holds of its answer and changes says more
  pub does-as : {X : Type 0} (added : Added) (w : World) (P : Plan X) (Q R : X → List (Change Key Value) → Type 0)
      → ((x : X) (cs : List (Change Key Value)) → Q x cs → R x cs) → Does added w P Q → Does added w P R
  does-as added w P Q R f d = record {
    cs = d.cs;
    last = d.last;
    end = d.end;
    apt = d.apt;
    opened = d.opened;
    told = elim d.told [ inl t ↦ inl (t.0, t.1, f t.0 d.cs t.2) | inr t ↦ inr t ];
  }

  -- the first makes changes, and the second makes more or none, and does not refuse
  pub both_do : {X Y : Type 0} (added : Added) (w : World) (P : Plan X) (k : X → World → Plan Y) (Q : Y → List (Change Key Value) → Type 0)
      (x : X) → P.answer ≡ Ok x → (cs : List (Change Key Value)) (mid : Added) (v : World) → Apt says r added w P.actions cs mid v
      → (ds : List (Change Key Value)) (last : Added) (end : World) → Apt says r mid v (k x v).actions ds last end → Opened says r last end
      → (y : Y) → (k x v).answer ≡ Ok y → Q y (cs ++ ds) → Does added w (after w P k) Q
  both_do added w P k Q x e cs mid v a ds last end b o y f q =
      let i = apt-done says r a in
      subst (λ p. Does added w p Q) (sym (after-ok w P k x e))
      (subst (λ u. Does added w (record { actions = P.actions ++ (k x u).actions; answer = (k x u).answer }) Q) i
      (record { cs = cs ++ ds; last = last; end = end; apt = apt-append says r a b; opened = o; told = inl (y, f, q) }))

  -- the second only tells
  pub then-tells : {X Y : Type 0} (added : Added) (w : World) (P : Plan X) (k : X → World → Plan Y) (f : X → Y) → ((x : X) (v : World) → k x v ≡ ends (Ok (f x)))
      → (Q : X → List (Change Key Value) → Type 0) (R : Y → List (Change Key Value) → Type 0) → ((x : X) (cs : List (Change Key Value)) → Q x cs → R (f x) cs)
      → Does added w P Q → Does added w (after w P k) R
  then-tells {X = X} added w P k f tells Q R imp d = go d.told
    where
      go : ((x : X) × (P.answer ≡ Ok x) × Q x d.cs) ⊎ ((ε : Refusal) × (P.answer ≡ Err ε) × (d.cs ≡ [])) → Does added w (after w P k) R
      go (inl t) =
          let x = t.0 in
          let s = tells x (done P.actions w) in
          subst (λ p. Does added w p R) (sym (after-ok w P k x t.1))
          (record {
            cs = d.cs;
            last = d.last;
            end = d.end;
            apt = subst (λ p. Apt says r added w (P.actions ++ p.actions) d.cs d.last d.end) (sym s)
                (subst (λ xs. Apt says r added w xs d.cs d.last d.end) (sym (append-nil P.actions)) d.apt);
            opened = d.opened;
            told = inl (f x, ap (λ p. p.answer) s, imp x d.cs t.2);
          })
      go (inr t) = subst (λ p. Does added w p R) (sym (after_err w P k t.0 t.1))
          (record { cs = d.cs; last = d.last; end = d.end; apt = d.apt; opened = d.opened; told = inr (t.0, refl, t.2) })
