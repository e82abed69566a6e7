-- What a tend does at the end of its key's way.
use Rattle.std.proofs.Common.{◌≡◌, ℕ, suc, ◌<◌, ◌≤◌, Bool, true, false, cond, eqb, ltb, leb, List, [], ◌∷◌, Some, None, Ok, Option, sym, refl, subst, inl, inr, arith}
use Rattle.std.proofs.lemmas.Bool.{ltb-false}
use Rattle.order.specs.Lawful.{Says}
use Rattle.tree.specs.Rows.{set}
use Rattle.tree.specs.Tree.{frames, Way}
use Rattle.tree.specs.Log.{Change, Logged, births, tree}
use Rattle.tree.specs.Log.Change.{Foster, Adopt, Grow}
use Rattle.tree.specs.Halves.{total, divider}
use Rattle.tree.specs.Plan.{planned_tend, rootwards, step_at, divided_branch}
use Rattle.tree.specs.Walk.{visit, visits}
use Rattle.tree.proofs.Runs.{Each, Quiet, tend_quiet}
use Rattle.images.specs.Keys.{Key, Value, keyed, pair_cost, kid_cost}
use Rattle.images.specs.Laws.{Ranked}
use Rattle.model.specs.declared.refusal.Refusal.TheVariants.{NoPage}
use Rattle.model.specs.declared.state.Tended.{Tended}
use Rattle.model.specs.declared.state.Tended.TheVariants.{Untended, Grown, Adopted, Split}
use Rattle.model.specs.Worlds.{World, usable, born}
use Rattle.model.specs.Plans.{Plan, ends, after}
use Rattle.model.specs.Ways.{route}
use Rattle.model.specs.Changes.{Step, split_at, adopt_at, root_step, step_from, paged_for, paging, one_change, step_done, step_paged, step_taken, tending}
use Rattle.model.specs.Runs.{Added}
use Rattle.media.proofs.Media.{Media, Opened, Standing, AptChange, made}
use Rattle.plans.proofs.Apts.{AptAll, tend_apt}
use Rattle.plans.proofs.Does.{Does, answers, then-tells, at_once, refused_at_once}
use Rattle.plans.proofs.Sources.{OldIs, foster-old, adopt-old, grow-old}
use Rattle.plans.proofs.Puts.{one-does, pages-left}
use Rattle.plans.proofs.Steps.{quiet_named, first_step}

module _ (says : Says) (r : Ranked says) (added : Added) (w : World) (media : Media says r added w) (o : Opened says r added w) where
  abbrev s : Logged Key Value
  s = made says r added

  abbrev Tends : Tended → List (Change Key Value) → Type 0
  Tends t cs = Each Quiet cs

  abbrev StepDoes : Option Step → Type 0
  StepDoes st = Does says r added w (step_taken says w st) Tends

  -- the change of a step, once there is a page for it
  paged : (st : Step) → AptChange says r s st.change → OldIs s st.change st.old → births st.change s.born ≤ usable w → Each Quiet (st.change ∷ [])
      → (n : ℕ) → Does says r added w (step_paged says st n w) Tends
  paged st apt was fit quiet n = then-tells says r added w (one_change says w st.change st.old) (step_done st.told) (λ _. st.told) (λ _ _. refl)
      (λ m cs. cs ≡ st.change ∷ []) Tends (λ m cs e. subst (Each Quiet) (sym e) quiet)
      (one-does says r added w media o st.change apt st.old was fit)

  -- a step that gives birth to a page
  births-one : (st : Step) → paged_for st.change w ≡ paging w → births st.change s.born ≡ suc s.born
      → (born w < usable w → AptChange says r s st.change) → OldIs s st.change st.old → Each Quiet (st.change ∷ []) → StepDoes (Some st)
  births-one st i j apt was quiet = subst (λ (P : Plan ℕ). Does says r added w (after w P (step_paged says st)) Tends) (sym i) (elim (pages-left w) [
    | inl e ↦ at_once says r added w (paging w) (step_paged says st) Tends (born w) e.0
        (paged st (apt e.1) was (omega (arith, e.1, o.born_is, j)) quiet (born w))
    | inr e ↦ refused_at_once says r added w (paging w) (step_paged says st) Tends NoPage e o
  ])

  untended : StepDoes None
  untended = answers says r added w Tends (Ok Untended) o (λ _ _. tt)

  splits : (p : ℕ) (d : Option Key) → AptAll says r s (divided_branch (keyed says) pair_cost kid_cost p s.born d) → StepDoes (split_at s.born (visit p (s.page p)) d)
  splits p None apt = untended
  splits p (Some d) apt = births-one (record { change = Foster p s.born d; old = λ _. s.page p; told = Split }) refl refl (λ _. apt.0)
      (foster-old s p s.born d) (tt, tt)

  adopts : (p q : ℕ) (f : Key × ℕ) → AptAll says r s (Adopt p q f.0 f.1 ∷ [])
      → StepDoes (Some (record { change = Adopt p q f.0 f.1; old = λ t. cond (eqb t q) (s.page q) (s.page p); told = Adopted }))
  adopts p q f apt =
      let st : Step = record { change = Adopt p q f.0 f.1; old = λ t. cond (eqb t q) (s.page q) (s.page p); told = Adopted } in
      at_once says r added w (ends (Ok 0)) (step_paged says st) Tends 0 refl
      (paged st apt.0 (adopt-old s p q f.0 f.1) media.enough (tt, tt) 0)

  steps : (p q : ℕ) (f : Key × ℕ) → AptAll says r s (step_at (keyed says) pair_cost kid_cost s p q f)
      → StepDoes (adopt_at says s.born (visit p (s.page p)) (visit q (s.page q)) f)
  steps p q f apt = go (leb (total kid_cost (set (keyed says) f.0 f.1 (s.page p).frame.kids)) 436) apt
    where
      go : (b : Bool) → AptAll says r s (cond b (Adopt p q f.0 f.1 ∷ []) (divided_branch (keyed says) pair_cost kid_cost p s.born (divider kid_cost (s.page p).frame.kids)))
          → StepDoes (cond b (Some (record { change = Adopt p q f.0 f.1; old = λ t. cond (eqb t q) (s.page q) (s.page p); told = Adopted }))
          (split_at s.born (visit p (s.page p)) (divider kid_cost (s.page p).frame.kids)))
      go true apt = adopts p q f apt
      go false apt = splits p (divider kid_cost (s.page p).frame.kids) apt

  -- a root of the highest level has as many pages as there can be
  grows : Standing says r s → (k : Key) (f : Key × ℕ) → AptAll says r s (rootwards (keyed says) pair_cost kid_cost s k (Some f))
      → StepDoes (root_step s.born (visit 0 (s.page 0)) None (Some f))
  grows stands k f apt = births-one (record { change = Grow s.born; old = λ _. s.page 0; told = Grown }) refl refl
      (λ left. go (ltb (s.page 0).frame.level 255) refl left apt) (grow-old s s.born) (tt, tt)
    where
      go : (b : Bool) → ltb (s.page 0).frame.level 255 ≡ b → born w < usable w → AptAll says r s (cond b (Grow s.born ∷ []) [])
          → AptChange says r s (Grow s.born)
      go true e left apt = apt.0
      go false e left apt = absurd (omega (arith, left, o.born_is, ltb-false (s.page 0).frame.level 255 e, media.tidy.level stands.sound.shape.any))

  pub tend_does : Standing says r s → (k : Key) (pages : List ℕ) (leaf : ℕ) → Way (keyed says) (frames (tree s)) k 0 pages leaf
      → Does says r added w (tending says (route (visits s.page pages) (visit leaf (s.page leaf))) w) (λ t cs. Each Quiet cs)
  unfolding tending
  tend_does stands k pages leaf way =
      subst (λ n. StepDoes (step_from says n (visits s.page pages) (visit leaf (s.page leaf)))) (sym o.born_is)
      (first_step says r s stands k StepDoes untended steps pages leaf way
      (tend_apt says r s stands media.room k (quiet_named says r (planned_tend (keyed says) pair_cost kid_cost s k) (tend_quiet (keyed says) pair_cost kid_cost s k)))
      (grows stands k))
