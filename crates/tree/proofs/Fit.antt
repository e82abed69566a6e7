-- What the plans append suits the images that it changes, and keeps every page within its room.
use Rattle.std.proofs.Common.{◌≡◌, ℕ, zero, suc, ◌<◌, ◌≤◌, Bool, true, false, cond, not, eqb, ltb, leb, List, [], ◌∷◌, Some, None, Option, sym, refl, ap, ◌∙◌, subst, inl, inr, arith}
use Rattle.std.proofs.Math.Dec.{is_le}
use Rattle.tree.specs.Rows.{set, without, find, upto, from, by, is_less}
use Rattle.tree.specs.Tree.{Frame, Image, Ranking, Sound, Holds, edge, upper, kid, frames, lower_image, upper_image}
use Rattle.tree.specs.Log.{Change, Source, source, make, made, Logged, tree, Linked, blank}
use Rattle.tree.specs.Log.Change.{Format, Put, Remove, Foster, Adopt, Grow}
use Rattle.tree.specs.Log.Source.{Out, Fresh, Earlier}
use Rattle.tree.specs.Halves.{total, some, divider, Divides}
use Rattle.tree.specs.Suits.{below, in_bounds, is_foster, divides_page, adopts, suits}
use Rattle.tree.specs.Plan.{linked, changed, changes, put_divided, planned_put, divided_branch, step_at, step_else, steps_under, rootwards, planned_tend, MayAll, Priced}
use Rattle.tree.specs.Plan.{all_linked, Begins}
use Rattle.tree.specs.Plan.Begins.{nothing, more}
use Rattle.tree.proofs.Halves.{divides, parts}
use Rattle.tree.proofs.Plan.{set-total, divided-lower, divided-upper}
use Rattle.tree.proofs.Adopt.{holds-k, absent_k}
use Rattle.tree.proofs.Rows.{less-true, less_false, floor-le, ceil-above}
use Rattle.tree.proofs.Runs.{StandsWell, link_once, positive_once, changed-sound}
use Rattle.std.proofs.lemmas.Bool.{cond_both, leb-true, leb-false, and_parts, and_from, cases_eq, eq-eqb, ne_eqb, le-leb}

without-total : {K A : Type 0} (rank : K → ℕ) (cost : K × A → ℕ) (k : K) (es : List (K × A)) → total cost (without (by rank) k es) ≤ total cost es
without-total rank cost k [] = omega arith
without-total rank cost k (e ∷ es) = let r = without-total rank cost k es in grind arith

module _ {K V : Type 0} (rank : K → ℕ) (top : ℕ) (least : K) (ranked : Ranking rank top least) (pair_cost : K × V → ℕ) (kid_cost : K × ℕ → ℕ)
    (kid_cheap : (k : K) (c : ℕ) → kid_cost (k, c) ≤ 23) where
  abbrev ok : Change K V → ℕ → Image K V → Bool
  ok = suits (by rank) pair_cost kid_cost

  -- a change suits the images that it changes
  abbrev pub Fit : Change K V → Logged K V → Type 0
  Fit c s = (p q n : ℕ) → source (linked s c) p ≡ Earlier q n → ok c p (s.page q) ≡ true

  abbrev pub FitAll : Logged K V → List (Change K V) → Type 0
  FitAll s [] = Unit {0}
  FitAll s (c ∷ cs) = Fit c s × FitAll (changed (by rank) least s c) cs

  -- an image is within a page's room
  pub record Room (x : Image K V) : Type 0 where
    pub pairs : total pair_cost x.pairs ≤ 436
    pub kids : total kid_cost x.frame.kids ≤ 436

  room-made : (c : Change K V) (p : ℕ) (x : Image K V) → ok c p x ≡ true → Room x → Room (make (by rank) least c p x)
  room-made Format p x t r = record { pairs = omega arith; kids = omega arith }
  room-made (Put q k v) p x t r =
      let a = (and_parts (in_bounds (by rank) k x.frame) _ (and_parts (eqb x.frame.level 0) _ t).1).1 in
      record { pairs = leb-true (total pair_cost (set (by rank) k v x.pairs)) 436 a; kids = r.kids }
  room-made (Remove q k) p x t r = record { pairs = omega (arith, without-total rank pair_cost k x.pairs, r.pairs); kids = r.kids }
  room-made (Foster q o d) p x t r = cond_both (eqb p o) _ _ Room
      (λ _. record { pairs = omega (arith, parts rank pair_cost d x.pairs, r.pairs); kids = omega (arith, parts rank kid_cost d x.frame.kids, r.kids) })
      (λ _. record { pairs = omega (arith, parts rank pair_cost d x.pairs, r.pairs); kids = omega (arith, parts rank kid_cost d x.frame.kids, r.kids) })
  room-made (Adopt q o k c) p x t r = cond_both (eqb p o) _ _ Room (λ _. record { pairs = r.pairs; kids = r.kids })
      (λ e. record { pairs = r.pairs; kids = go x.frame.level (sym (ap (λ b. cond b (is_foster (by rank) k c x.frame.foster) (adopts (by rank) pair_cost kid_cost k c x.frame.level x)) e) ∙ t) })
    where
      go : (l : ℕ) → adopts (by rank) pair_cost kid_cost k c l x ≡ true → total kid_cost (set (by rank) k c x.frame.kids) ≤ 436
      go zero e = let z : ◌≡◌ {A = ℕ} 0 1 = cc in absurd (omega arith)
      go (suc l) e =
          let a = (and_parts (not (some (find (by rank) k x.frame.kids))) _ (and_parts (in_bounds (by rank) k x.frame) _ e).1).1 in
          leb-true (total kid_cost (set (by rank) k c x.frame.kids)) 436 a
  room-made (Grow o) p x t r = cond_both (eqb p 0) _ x Room
      (λ _. record { pairs = omega arith; kids = omega (arith, kid_cheap least o) }) (λ _. r)

  abbrev pub Roomy : Logged K V → Type 0
  Roomy s = (p : ℕ) → Room (s.page p)

  linked-change : (s : Logged K V) (c : Change K V) → (linked s c).change ≡ c
  linked-change s Format = refl
  linked-change s (Put p k v) = refl
  linked-change s (Remove p k) = refl
  linked-change s (Foster p o d) = refl
  linked-change s (Adopt p o k c) = refl
  linked-change s (Grow o) = refl

  fresh : (s : Logged K V) (c : Change K V) (p : ℕ) → source (linked s c) p ≡ Fresh → Room (make (by rank) least c p (blank (by rank) least))
  fresh s Format p e = record { pairs = omega arith; kids = omega arith }
  fresh s (Put q k v) p e = absurd (grind arith)
  fresh s (Remove q k) p e = absurd (grind arith)
  fresh s (Foster q o d) p e = absurd (grind arith)
  fresh s (Adopt q o k c) p e = absurd (grind arith)
  fresh s (Grow o) p e = absurd (grind arith)

  roomy_once : (s : Logged K V) (c : Change K V) → Fit c s → Roomy s → Roomy (changed (by rank) least s c)
  roomy_once s c fit room p = subst (λ ch. Room (made (by rank) least ch p s.page (source (linked s c) p))) (sym (linked-change s c)) (go (source (linked s c) p) refl)
    where
      go : (w : Source) → source (linked s c) p ≡ w → Room (made (by rank) least c p s.page (source (linked s c) p))
      go Out e = subst (λ w. Room (made (by rank) least c p s.page w)) (sym e) (room p)
      go Fresh e = subst (λ w. Room (made (by rank) least c p s.page w)) (sym e) (fresh s c p e)
      go (Earlier q n) e = subst (λ w. Room (made (by rank) least c p s.page w)) (sym e) (room-made c p (s.page q) (fit p q n e) (room q))

  pub changes-well : (s : Logged K V) (cs : List (Change K V)) → MayAll rank top least s cs → FitAll s cs → StandsWell rank top least ranked s → Roomy s
      → Linked (by rank) least ok s (all_linked (by rank) least s cs) × StandsWell rank top least ranked (changes (by rank) least s cs) × Roomy (changes (by rank) least s cs)
  changes-well s [] may fit well room = (tt, well, room)
  changes-well s (c ∷ cs) may fit well room =
      let r = changes-well (changed (by rank) least s c) cs may.1 fit.1
      (record {
        sound = changed-sound rank top least ranked s c may.0 well.sound;
        positive = positive_once rank top least ranked s c may.0 well.sound well.positive;
      })
      (roomy_once s c fit.0 room) in
      let l = link_once rank top least ranked s c may.0 well.sound well.positive in
      (((λ p q n e. ((l p q n e).0, (l p q n e).1, subst (λ ch. ok ch p (s.page q) ≡ true) (sym (linked-change s c)) (fit.0 p q n e))), r.0), r.1, r.2)

  pub fit-begins : (s : Logged K V) {bs cs : List (Change K V)} → Begins bs cs → FitAll s cs → FitAll s bs
  fit-begins s nothing f = tt
  fit-begins s (more {c = c} b) f = (f.0, fit-begins (changed (by rank) least s c) b f.1)

  -- the plans suit
  in_range : (x : Frame K) (k : K) → Holds rank top x k → in_bounds (by rank) k x ≡ true
  in_range x k h = and_from (is_le (by rank x.low k)) (below (by rank) k (upper x)) (let a = h.0 in grind arith) (go (upper x) h.1)
    where
      go : (u : Option K) → rank k < edge rank top u → below (by rank) k u ≡ true
      go None l = refl
      go (Some u) l = grind arith

  -- a change of one page, of which it is made
  fit-put : (s : Logged K V) (q : ℕ) (k : K) (v : V) → ok (Put q k v) q (s.page q) ≡ true → Fit (Put q k v) s
  fit-put s q k v t p r n e = let i : q ≡ r = grind arith in subst (λ a. ok (Put q k v) p (s.page a) ≡ true) i t

  fit-remove : (s : Logged K V) (q : ℕ) (k : K) → ok (Remove q k) q (s.page q) ≡ true → Fit (Remove q k) s
  fit-remove s q k t p r n e = let i : q ≡ r = grind arith in subst (λ a. ok (Remove q k) p (s.page a) ≡ true) i t

  fit-foster : (s : Logged K V) (q o : ℕ) (d : K) → ok (Foster q o d) q (s.page q) ≡ true → Fit (Foster q o d) s
  fit-foster s q o d t p r n e = let i : q ≡ r = grind arith in subst (λ a. ok (Foster q o d) p (s.page a) ≡ true) i t

  fit-grow : (s : Logged K V) (o : ℕ) → ok (Grow o) 0 (s.page 0) ≡ true → Fit (Grow o) s
  fit-grow s o t p r n e = let i : 0 ≡ r = grind arith in subst (λ a. ok (Grow o) p (s.page a) ≡ true) i t

  fit-adopt : (s : Logged K V) (q o : ℕ) (k : K) (c : ℕ) → is_foster (by rank) k c (s.page o).frame.foster ≡ true
      → adopts (by rank) pair_cost kid_cost k c (s.page q).frame.level (s.page q) ≡ true → Fit (Adopt q o k c) s
  fit-adopt s q o k c t u p r n e = elim (cases_eq p o) [
    | inl i ↦
        let a = eq-eqb p o i in
        let b : o ≡ r = grind arith in
        ap (λ z. cond z (is_foster (by rank) k c (s.page r).frame.foster) (adopts (by rank) pair_cost kid_cost k c (s.page r).frame.level (s.page r))) a
        ∙ subst (λ z. is_foster (by rank) k c (s.page z).frame.foster ≡ true) b t
    | inr i ↦
        let a = ne_eqb p o i in
        let b : q ≡ r = grind arith in
        ap (λ z. cond z (is_foster (by rank) k c (s.page r).frame.foster) (adopts (by rank) pair_cost kid_cost k c (s.page r).frame.level (s.page r))) a
        ∙ subst (λ z. adopts (by rank) pair_cost kid_cost k c (s.page z).frame.level (s.page z) ≡ true) b u
  ]

  module _ (s : Logged K V) (priced : Priced pair_cost kid_cost s) (sound : Sound rank top least (tree s)) (room : Roomy s) where
    put-suits : (x : Image K V) (k : K) (v : V) (q p : ℕ) → x.frame.level ≡ 0 → Holds rank top x.frame k → total pair_cost (set (by rank) k v x.pairs) ≤ 436
        → ok (Put q k v) p x ≡ true
    put-suits x k v q p e h l = and_from (eqb x.frame.level 0) _ (eq-eqb x.frame.level 0 e)
        (and_from (in_bounds (by rank) k x.frame) _ (in_range x.frame k h) (le-leb (total pair_cost (set (by rank) k v x.pairs)) 436 l))

    pub put-fits : (p : ℕ) (k : K) (v : V) → pair_cost (k, v) ≤ 84 → p < s.born → (s.page p).frame.level ≡ 0 → Holds rank top (s.page p).frame k
        → FitAll s (planned_put (by rank) pair_cost kid_cost s p k v)
    put-fits p k v c b e h =
        cond_both (leb (total pair_cost (set (by rank) k v (s.page p).pairs)) 436) (Put p k v ∷ []) (put_divided (by rank) pair_cost kid_cost p s.born k v (divider pair_cost (s.page p).pairs))
        (FitAll s)
        (λ t. (fit-put s p k v (put-suits (s.page p) k v p p e h (leb-true (total pair_cost (set (by rank) k v (s.page p).pairs)) 436 t)), tt))
        (λ t. two t (divides rank pair_cost 84 _ _ (s.page p).pairs (sound.pairs_ascend p b) (priced.pairs p)
        (omega (arith, leb-false (total pair_cost (set (by rank) k v (s.page p).pairs)) 436 t, set-total rank pair_cost k v (s.page p).pairs))))
      where
        two : leb (total pair_cost (set (by rank) k v (s.page p).pairs)) 436 ≡ false
            → (d : Divides rank pair_cost 84 (rank (s.page p).frame.low) (edge rank top (upper (s.page p).frame)) (s.page p).pairs)
            → FitAll s (put_divided (by rank) pair_cost kid_cost p s.born k v (divider pair_cost (s.page p).pairs))
        two t d =
            let m = (room p).pairs in
            let lo = d.lower in
            let hi = d.upper in
            subst (λ o. FitAll s (put_divided (by rank) pair_cost kid_cost p s.born k v o)) (sym d.is) (
              fit-foster s p s.born d.key (and_from (in_bounds (by rank) d.key (s.page p).frame) _ (in_range (s.page p).frame d.key (omega (arith, d.above), d.below))
                  (subst (λ l. divides_page (by rank) pair_cost kid_cost d.key l (s.page p) ≡ true) (sym e) d.inner)),
              (
                cond_both (is_less (by rank k d.key)) p s.born (λ q. Fit (Put q k v) (changed (by rank) least s (Foster p s.born d.key)))
                    (λ u. fit-put (changed (by rank) least s (Foster p s.born d.key)) p k v (subst (λ x. ok (Put p k v) p x ≡ true) (sym (divided-lower rank top least ranked s p b d.key))
                    (put-suits (lower_image (by rank) least d.key s.born (s.page p)) k v p p e (h.0, less-true (rank k) (rank d.key) u)
                    (omega (arith, set-total rank pair_cost k v (upto (by rank) d.key (s.page p).pairs))))))
                    (λ u. fit-put (changed (by rank) least s (Foster p s.born d.key)) s.born k v (subst (λ x. ok (Put s.born k v) s.born x ≡ true) (sym (divided-upper rank top least ranked s p d.key))
                    (put-suits (upper_image (by rank) least d.key (s.page p)) k v s.born s.born e (less_false (rank k) (rank d.key) u, h.1)
                    (omega (arith, set-total rank pair_cost k v (from (by rank) d.key (s.page p).pairs)))))),
                tt,
              ),
            )

    pub remove-fits : (p : ℕ) (k : K) (u : V) → (s.page p).frame.level ≡ 0 → find (by rank) k (s.page p).pairs ≡ Some u → FitAll s (Remove p k ∷ [])
    remove-fits p k u e f = (fit-remove s p k (and_from (eqb (s.page p).frame.level 0) _ (eq-eqb (s.page p).frame.level 0 e) (ap some f)), tt)

    step_fits : (p : ℕ) → p < s.born → (l : ℕ) → (s.page p).frame.level ≡ suc l → (k : K) → Holds rank top (s.page p).frame k → (f : K × ℕ)
        → (s.page (kid (by rank) (s.page p).frame k).1).frame.foster ≡ Some f
        → FitAll s (step_at (by rank) pair_cost kid_cost s p (kid (by rank) (s.page p).frame k).1 f)
    step_fits p b l e k h f g =
        cond_both (leb (total kid_cost (set (by rank) f.0 f.1 (s.page p).frame.kids)) 436) _ (divided_branch (by rank) pair_cost kid_cost p s.born (divider kid_cost (s.page p).frame.kids))
        (FitAll s)
        (λ t. (
          fit-adopt s p (kid (by rank) (s.page p).frame k).1 f.0 f.1
              (subst (λ o. is_foster (by rank) f.0 f.1 o ≡ true) (sym g) self)
              (subst (λ m. adopts (by rank) pair_cost kid_cost f.0 f.1 m (s.page p) ≡ true) (sym e)
              (and_from (in_bounds (by rank) f.0 (s.page p).frame) _ (in_range (s.page p).frame f.0
              (holds-k rank top least ranked s.born (frames (tree s)) sound.shape p (kid (by rank) (s.page p).frame k).1 f.0 f.1 b l e k h refl g))
              (and_from (not (some (find (by rank) f.0 (s.page p).frame.kids))) _
              (ap (λ o. not (some o)) (absent_k rank top least ranked s.born (frames (tree s)) sound.shape p (kid (by rank) (s.page p).frame k).1 f.0 f.1 b l e k h refl g)) t))),
          tt,
        ))
        (λ t.
        let u = leb-false (total kid_cost (set (by rank) f.0 f.1 (s.page p).frame.kids)) 436 t in
        let w = set-total rank kid_cost f.0 f.1 (s.page p).frame.kids in
        let d = divides rank kid_cost 23 _ _ (s.page p).frame.kids (sound.shape.ascends p b) (priced.kids p) (omega (arith, kid_cheap f.0 f.1)) in
        subst (λ o. FitAll s (divided_branch (by rank) pair_cost kid_cost p s.born o)) (sym d.is) (
          fit-foster s p s.born d.key (and_from (in_bounds (by rank) d.key (s.page p).frame) _ (in_range (s.page p).frame d.key (omega (arith, d.above), d.below))
              (subst (λ m. divides_page (by rank) pair_cost kid_cost d.key m (s.page p) ≡ true) (sym e) d.inner)),
          tt,
        ))
      where
        self : is_foster (by rank) f.0 f.1 (Some f) ≡ true
        self = grind arith

    steps-fit : (k : K) (l p : ℕ) → p < s.born → (s.page p).frame.level ≡ l → Holds rank top (s.page p).frame k
        → FitAll s (steps_under (by rank) pair_cost kid_cost s k l p)
    steps-fit k zero p b e h = tt
    steps-fit k (suc l) p b e h =
        let t = sound.shape.children p b l k e h in
        child l p b e h (s.page (kid (by rank) (s.page p).frame k).1).frame.foster refl
        (steps-fit k l (kid (by rank) (s.page p).frame k).1 t.is_born t.level_is)
      where
        child : (l p : ℕ) → p < s.born → (s.page p).frame.level ≡ suc l → Holds rank top (s.page p).frame k → (o : Option (K × ℕ))
            → (s.page (kid (by rank) (s.page p).frame k).1).frame.foster ≡ o
            → (Holds rank top (s.page (kid (by rank) (s.page p).frame k).1).frame k
            → FitAll s (steps_under (by rank) pair_cost kid_cost s k l (kid (by rank) (s.page p).frame k).1))
            → FitAll s (steps_under (by rank) pair_cost kid_cost s k (suc l) p)
        child l p b e h None i ih =
            let t = sound.shape.children p b l k e h in
            let x = ap rank t.low_is in
            let y = ap (edge rank top) t.high_is in
            let u : edge rank top (upper (s.page (kid (by rank) (s.page p).frame k).1).frame) ≡ edge rank top (s.page (kid (by rank) (s.page p).frame k).1).frame.high = cc in
            subst (λ o. FitAll s (step_else (by rank) pair_cost kid_cost s p (kid (by rank) (s.page p).frame k).1
            (steps_under (by rank) pair_cost kid_cost s k l (kid (by rank) (s.page p).frame k).1) o)) (sym i)
            (ih (
              omega (arith, floor-le rank k ((s.page p).frame.low, 0) (s.page p).frame.kids h.0),
              omega (arith, ceil-above rank top (upper (s.page p).frame) k (s.page p).frame.kids h.1),
            ))
        child l p b e h (Some f) i ih =
            subst (λ o. FitAll s (step_else (by rank) pair_cost kid_cost s p (kid (by rank) (s.page p).frame k).1
            (steps_under (by rank) pair_cost kid_cost s k l (kid (by rank) (s.page p).frame k).1) o)) (sym i)
            (step_fits p b l e k h f i)

    pub tend_fits : (k : K) → FitAll s (planned_tend (by rank) pair_cost kid_cost s k)
    tend_fits k = go (s.page 0).frame.foster refl
      where
        go : (o : Option (K × ℕ)) → (s.page 0).frame.foster ≡ o → FitAll s (planned_tend (by rank) pair_cost kid_cost s k)
        go None i =
            let u : edge rank top (upper (s.page 0).frame) ≡ edge rank top (s.page 0).frame.high = cc in
            subst (λ o. FitAll s (rootwards (by rank) pair_cost kid_cost s k o)) (sym i)
            (steps-fit k (s.page 0).frame.level 0 sound.shape.any refl (
              omega (arith, ap rank sound.shape.root_low, ranked.from_least k),
              omega (arith, ap (edge rank top) sound.shape.root_high, ranked.below_top k),
            ))
        go (Some f) i = subst (λ o. FitAll s (rootwards (by rank) pair_cost kid_cost s k o)) (sym i)
            (cond_both (ltb (s.page 0).frame.level 255) (Grow s.born ∷ []) [] (FitAll s)
            (λ t. (fit-grow s s.born (and_from (some (s.page 0).frame.foster) _ (ap some i) t), tt)) (λ _. tt))
