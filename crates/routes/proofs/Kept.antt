-- Actions that make no change and keep what every page means, and one after another of them.
use Rattle.std.proofs.Common.{◌≡◌, ℕ, ◌<◌, List, [], ◌++◌, Ok, Err, Result, sym, refl, ap, ◌∙◌, subst}
use Rattle.order.specs.Lawful.{Says}
use Rattle.tree.specs.Walk.{Fetched}
use Rattle.tree.specs.Worlds.{fetch}
use Rattle.images.specs.Keys.{Key, Value, empty_key, keyed, pair_cost, kid_cost}
use Rattle.images.specs.Laws.{Ranked}
use Rattle.model.specs.declared.refusal.Refusal.{Refusal}
use Rattle.model.specs.Worlds.{World, Action, done}
use Rattle.model.specs.Plans.{Plan, ends, after}
use Rattle.model.specs.Runs.{Added, meaning}
use Rattle.media.proofs.Media.{made, Media, Opened, Apt, rests}
use Rattle.media.proofs.Afters.{after-ok, after_err}
use Rattle.media.proofs.Plays.{apt-append, apt-done}

-- page p as it is come by in a world
abbrev pub page_meant : Says → Added → World → ℕ → Fetched Key Value
page_meant says added w p = fetch (keyed says) empty_key pair_cost kid_cost (meaning says added w) p

module _ (says : Says) (r : Ranked says) where
  -- actions that make no change: all that a run keeps is kept, and each born page means what it meant
  pub record Kept (added : Added) (w : World) (xs : List Action) : Type 0 where
    pub apt : Apt says r added w xs [] added (done xs w)
    pub opened : Opened says r added (done xs w)
    pub media : Media says r added (done xs w)
    pub same : (q : ℕ) → q < (made says r added).born → page_meant says added (done xs w) q ≡ page_meant says added w q

  pub kept-none : {added : Added} {w : World} → Media says r added w → Opened says r added w → Kept added w []
  kept-none m o = record { apt = rests; opened = o; media = m; same = λ q b. refl }

  pub kept_append : {added : Added} {w : World} (xs ys : List Action) → Kept added w xs → Kept added (done xs w) ys → Kept added w (xs ++ ys)
  kept_append {added} {w} xs ys a b =
      let apt = apt-append says r a.apt b.apt in
      let e = apt-done says r apt in
      record {
        apt = subst (λ (v : World). Apt says r added w (xs ++ ys) [] added v) e apt;
        opened = subst (Opened says r added) e b.opened;
        media = subst (Media says r added) e b.media;
        same = λ q h. sym (ap (λ (v : World). page_meant says added v q) e) ∙ b.same q h ∙ a.same q h;
      }

  -- a plan that answers so, by actions that make no change
  abbrev pub EndsSo : {X : Type 0} → Added → World → Plan X → Result X Refusal → Type 0
  EndsSo added w p x = (p.answer ≡ x) × Kept added w p.actions

  pub ends_so : {X : Type 0} {added : Added} {w : World} → Media says r added w → Opened says r added w → (x : Result X Refusal) → EndsSo added w (ends x) x
  ends_so m o x = (refl, kept-none m o)

  -- a plan that answers, and what follows it
  pub then_so : {X Y : Type 0} {added : Added} (w : World) (p : Plan X) (k : X → World → Plan Y) (x : X) (y : Result Y Refusal) → EndsSo added w p (Ok x)
      → EndsSo added (done p.actions w) (k x (done p.actions w)) y → EndsSo added w (after w p k) y
  then_so {added = added} w p k x y a b = subst (λ z. EndsSo added w z y) (sym (after-ok w p k x a.0)) (b.0, kept_append p.actions _ a.1 b.1)

  -- and one that is refused
  pub refused_so : {X Y : Type 0} {added : Added} (w : World) (p : Plan X) (k : X → World → Plan Y) (ε : Refusal) → EndsSo added w p (Err ε)
      → EndsSo added w (after w p k) (Err ε)
  refused_so {added = added} w p k ε a = subst (λ z. EndsSo added w z (Err ε)) (sym (after_err w p k ε a.0)) (refl, a.1)
