-- The first step of upkeep that is due on a key's way is what the tree's plan says.
use Rattle.std.proofs.Common.{◌≡◌, ℕ, zero, suc, ◌<◌, ◌≤◌, List, [], ◌∷◌, Some, None, Option, sym, refl, ap, ◌∙◌, subst, arith}
use Prim.Native.Nat.{Ordering}
use Rattle.order.specs.Lawful.{Says}
use Rattle.tree.specs.Rows.{by}
use Rattle.tree.specs.Tree.{upper, edge, kid, frames, onward, Way}
use Rattle.tree.specs.Tree.Way.{ends, goes}
use Rattle.tree.specs.Log.{Change, Logged, tree}
use Rattle.tree.specs.Log.Change.{Format, Put, Remove, Foster, Adopt, Grow}
use Rattle.tree.specs.Plan.{planned_tend, rootwards, steps_under, step_else, step_at}
use Rattle.tree.specs.Walk.{visit, visits}
use Rattle.tree.proofs.Rows.{floor-le, ceil-above}
use Rattle.tree.proofs.Runs.{Each, Quiet}
use Rattle.tree.proofs.Upd.{none-some}
use Rattle.images.specs.Keys.{Key, Value, keyed, pair_cost, kid_cost}
use Rattle.images.specs.Laws.{Ranked}
use Rattle.model.specs.Changes.{Step, adopt_at, step_or, steps_below, root_step, step_from}
use Rattle.media.proofs.Media.{Standing}
use Rattle.plans.proofs.Apts.{AptAll, Named}

module _ (says : Says) (r : Ranked says) where
  pub quiet_named : (cs : List (Change Key Value)) → Each Quiet cs → Each (Named says r) cs
  quiet_named [] h = tt
  quiet_named (Format ∷ cs) h = (tt, quiet_named cs h.1)
  quiet_named (Put p k v ∷ cs) h = absurd h.0
  quiet_named (Remove p k ∷ cs) h = absurd h.0
  quiet_named (Foster p o d ∷ cs) h = (tt, quiet_named cs h.1)
  quiet_named (Adopt p o k c ∷ cs) h = (tt, quiet_named cs h.1)
  quiet_named (Grow o ∷ cs) h = (tt, quiet_named cs h.1)

  module _ (s : Logged Key Value) (stands : Standing says r s) (k : Key) where
    -- a born page of this level whose fences have the key
    record Low (p l : ℕ) : Type 0 where
      is_born : p < s.born
      level_is : (s.page p).frame.level ≡ l
      low : r.rank (s.page p).frame.low ≤ r.rank k
      high : r.rank k < edge r.rank r.top (s.page p).frame.high

    child_ranked : (p l : ℕ) → Low p (suc l) → (s.page p).frame.foster ≡ None → Low (kid (by r.rank) (s.page p).frame k).1 l
    child_ranked p l h i =
        let u : edge r.rank r.top (upper (s.page p).frame) ≡ edge r.rank r.top (s.page p).frame.high = cc in
        let g : r.rank k < edge r.rank r.top (upper (s.page p).frame) = omega (arith, h.high) in
        let t = stands.sound.shape.children p h.is_born l k h.level_is (h.low, g) in
        let x = ap r.rank t.low_is in
        let y = ap (edge r.rank r.top) t.high_is in
        record {
          is_born = t.is_born;
          level_is = t.level_is;
          low = omega (arith, floor-le r.rank k ((s.page p).frame.low, 0) (s.page p).frame.kids h.low);
          high = omega (arith, ceil-above r.rank r.top (upper (s.page p).frame) k (s.page p).frame.kids g);
        }

    child-low : (p l : ℕ) → Low p (suc l) → (s.page p).frame.foster ≡ None → Low (kid (keyed says) (s.page p).frame k).1 l
    child-low p l h i = subst (λ (o : Key → Key → Ordering). Low (kid o (s.page p).frame k).1 l) (sym r.told) (child_ranked p l h i)

    root_low : Low 0 (s.page 0).frame.level
    root_low =
        let t = stands.sound.shape in
        record {
          is_born = t.any;
          level_is = refl;
          low = omega (arith, ap r.rank t.root_low, r.ranking.from_least k);
          high = omega (arith, ap (edge r.rank r.top) t.root_high, r.ranking.below_top k);
        }

    more-visits : {p q leaf : ℕ} {ps : List ℕ} → Way (keyed says) (frames (tree s)) k q ps leaf
        → visits s.page (p ∷ ps) ≡ visit p (s.page p) ∷ visits s.page ps
    more-visits (ends e) = refl
    more-visits (goes e w) = refl

    -- what holds of no step and of each step at a branch's child, if its changes are apt, holds of the first step below a page without a foster child
    module _ (P : Option Step → Type 0) (none : P None)
        (step : (p q : ℕ) (f : Key × ℕ) → AptAll says r s (step_at (keyed says) pair_cost kid_cost s p q f)
        → P (adopt_at says s.born (visit p (s.page p)) (visit q (s.page q)) f)) where
      abbrev Below : ℕ → ℕ → ℕ → List ℕ → ℕ → Type 0
      Below p q l ps leaf = Low q l
          → AptAll says r s (step_else (keyed says) pair_cost kid_cost s p q (steps_under (keyed says) pair_cost kid_cost s k l q) (s.page q).frame.foster)
          → P (steps_below says s.born (visit p (s.page p)) (visits s.page ps) (visit leaf (s.page leaf)))

      at-end : (p q l : ℕ) → Below p q l (q ∷ []) q
      at-end p q l h apt = go (s.page q).frame.foster apt
        where
          go : (o : Option (Key × ℕ)) → AptAll says r s (step_else (keyed says) pair_cost kid_cost s p q (steps_under (keyed says) pair_cost kid_cost s k l q) o)
              → P (step_or says s.born (visit p (s.page p)) (visit q (s.page q)) None o)
          go None apt = none
          go (Some f) apt = step p q f apt

      further : (p q t : ℕ) (ps : List ℕ) (leaf : ℕ) → onward (keyed says) (s.page q).frame k ≡ Some t
          → visits s.page (q ∷ ps) ≡ visit q (s.page q) ∷ visits s.page ps → ((l : ℕ) → Below q t l ps leaf) → (l : ℕ) → Below p q l (q ∷ ps) leaf
      further p q t ps leaf e i ih l h apt =
          subst (λ vs. P (steps_below says s.born (visit p (s.page p)) vs (visit leaf (s.page leaf)))) (sym i)
          (go (s.page q).frame.foster refl l h apt)
        where
          go : (o : Option (Key × ℕ)) → (s.page q).frame.foster ≡ o → (l : ℕ) → Low q l
              → AptAll says r s (step_else (keyed says) pair_cost kid_cost s p q (steps_under (keyed says) pair_cost kid_cost s k l q) o)
              → P (step_or says s.born (visit p (s.page p)) (visit q (s.page q))
              (steps_below says s.born (visit q (s.page q)) (visits s.page ps) (visit leaf (s.page leaf))) o)
          go None j zero h apt =
              let lev = h.level_is in
              absurd (none-some t (let z : onward (keyed says) (s.page q).frame k ≡ None = cc in sym z ∙ e))
          go None j (suc l) h apt =
              let lev = h.level_is in
              let c : (kid (keyed says) (s.page q).frame k).1 ≡ t = cc in
              ih l (subst (λ a. Low a l) c (child-low q l h j))
              (subst (λ a. AptAll says r s (step_else (keyed says) pair_cost kid_cost s q a (steps_under (keyed says) pair_cost kid_cost s k l a) (s.page a).frame.foster)) c apt)
          go (Some f) j l h apt = step p q f apt

      below : (p : ℕ) {q leaf : ℕ} {ps : List ℕ} → Way (keyed says) (frames (tree s)) k q ps leaf → (l : ℕ) → Below p q l ps leaf
      below p (ends {p = q} e) l = at-end p q l
      below p (goes {p = q} {q = t} {r = leaf} {ps = ps} e w) l = further p q t ps leaf e (more-visits {p = q} w) (below q w) l

      -- from the root, which grows if it has a foster child
      abbrev First : ℕ → List ℕ → ℕ → Type 0
      First p ps leaf = Low p (s.page p).frame.level
          → ((s.page p).frame.foster ≡ None → AptAll says r s (steps_under (keyed says) pair_cost kid_cost s k (s.page p).frame.level p))
          → ((f : Key × ℕ) → (s.page p).frame.foster ≡ Some f → P (root_step s.born (visit p (s.page p)) None (Some f)))
          → P (step_from says s.born (visits s.page ps) (visit leaf (s.page leaf)))

      first-end : (p : ℕ) → First p (p ∷ []) p
      first-end p h apt grow = go (s.page p).frame.foster refl
        where
          go : (o : Option (Key × ℕ)) → (s.page p).frame.foster ≡ o → P (root_step s.born (visit p (s.page p)) None o)
          go None j = none
          go (Some f) j = grow f j

      first-further : (p t : ℕ) (ps : List ℕ) (leaf : ℕ) → onward (keyed says) (s.page p).frame k ≡ Some t
          → visits s.page (p ∷ ps) ≡ visit p (s.page p) ∷ visits s.page ps → ((l : ℕ) → Below p t l ps leaf) → First p (p ∷ ps) leaf
      first-further p t ps leaf e i ih h apt grow =
          subst (λ vs. P (step_from says s.born vs (visit leaf (s.page leaf)))) (sym i)
          (go (s.page p).frame.foster refl (s.page p).frame.level refl h apt)
        where
          go : (o : Option (Key × ℕ)) → (s.page p).frame.foster ≡ o → (l : ℕ) → (s.page p).frame.level ≡ l → Low p l
              → ((s.page p).frame.foster ≡ None → AptAll says r s (steps_under (keyed says) pair_cost kid_cost s k l p))
              → P (root_step s.born (visit p (s.page p)) (steps_below says s.born (visit p (s.page p)) (visits s.page ps) (visit leaf (s.page leaf))) o)
          go None j zero lev h apt =
              absurd (none-some t (let z : onward (keyed says) (s.page p).frame k ≡ None = cc in sym z ∙ e))
          go None j (suc l) lev h apt =
              let c : (kid (keyed says) (s.page p).frame k).1 ≡ t = cc in
              ih l (subst (λ a. Low a l) c (child-low p l h j))
              (subst (λ a. AptAll says r s (step_else (keyed says) pair_cost kid_cost s p a (steps_under (keyed says) pair_cost kid_cost s k l a) (s.page a).frame.foster)) c (apt j))
          go (Some f) j l lev h apt = grow f j

      first-from : {p leaf : ℕ} {ps : List ℕ} → Way (keyed says) (frames (tree s)) k p ps leaf → First p ps leaf
      first-from (ends {p = p} e) = first-end p
      first-from (goes {p = p} {q = t} {r = leaf} {ps = ps} e w) = first-further p t ps leaf e (more-visits {p = p} w) (below p w)

      pub first_step : (pages : List ℕ) (leaf : ℕ) → Way (keyed says) (frames (tree s)) k 0 pages leaf
          → AptAll says r s (planned_tend (keyed says) pair_cost kid_cost s k)
          → ((f : Key × ℕ) → AptAll says r s (rootwards (keyed says) pair_cost kid_cost s k (Some f)) → P (root_step s.born (visit 0 (s.page 0)) None (Some f)))
          → P (step_from says s.born (visits s.page pages) (visit leaf (s.page leaf)))
      first_step pages leaf way apt grow = first-from way root_low
          (λ j. subst (λ o. AptAll says r s (rootwards (keyed says) pair_cost kid_cost s k o)) j apt)
          (λ f j. grow f (subst (λ o. AptAll says r s (rootwards (keyed says) pair_cost kid_cost s k o)) j apt))
