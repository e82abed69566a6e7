use Rattle.std.proofs.Common.{◌≡◌, ℕ, zero, suc, ◌+◌, ◌<◌, ◌≤◌, cond, ltb, leb, List, [], ◌∷◌, Some, None, Option, sym, refl, ap, ◌∙◌, subst, arith}
use Rattle.tree.specs.Rows.{set, by, is_less}
use Rattle.tree.specs.Tree.{Image, Ranking, Sound, Holds, edge, upper, kid, lower_image, upper_image, upd, MayPut, MayDivide}
use Rattle.tree.specs.Log.{Logged, tree}
use Rattle.tree.specs.Log.Change.{Put, Foster, Grow}
use Rattle.tree.specs.Halves.{total, divider, Divides}
use Rattle.tree.specs.Plan.{changed, put_divided, planned_put, divided_branch, step_at, step_else, steps_under, rootwards, planned_tend, MayAll, Priced}
use Rattle.tree.proofs.Rows.{less-true, less_false, floor-le, ceil-above}
use Rattle.tree.proofs.Halves.{divides}
use Rattle.tree.proofs.Upd.{upd-here, upd_there}
use Rattle.tree.proofs.Kept.{pages_divide}
use Rattle.std.proofs.lemmas.Bool.{cond_both, leb-false}

-- an entry added costs no more than its own cost more
pub set-total : {K A : Type 0} (rank : K → ℕ) (cost : K × A → ℕ) (k : K) (a : A) (es : List (K × A))
    → total cost (set (by rank) k a es) ≤ cost (k, a) + total cost es
set-total rank cost k a [] = grind arith
set-total rank cost k a (e ∷ es) = let r = set-total rank cost k a es in grind arith

-- the two parts of a divided page
module _ {K V : Type 0} (rank : K → ℕ) (top : ℕ) (least : K) (ranked : Ranking rank top least) (s : Logged K V) (p : ℕ) where
  pub divided-lower : p < s.born → (d : K) → (changed (by rank) least s (Foster p s.born d)).page p ≡ lower_image (by rank) least d s.born (s.page p)
  divided-lower b d = pages_divide rank top least ranked s p s.born d (s.newest p) 0 p
      ∙ upd_there (upd s.page p (lower_image (by rank) least d s.born (s.page p))) s.born (upper_image (by rank) least d (s.page p)) p (omega arith)
      ∙ upd-here s.page p (lower_image (by rank) least d s.born (s.page p))

  pub divided-upper : (d : K) → (changed (by rank) least s (Foster p s.born d)).page s.born ≡ upper_image (by rank) least d (s.page p)
  divided-upper d = pages_divide rank top least ranked s p s.born d (s.newest p) 0 s.born
      ∙ upd-here (upd s.page p (lower_image (by rank) least d s.born (s.page p))) s.born (upper_image (by rank) least d (s.page p))

module _ {K V : Type 0} (rank : K → ℕ) (top : ℕ) (least : K) (ranked : Ranking rank top least) (pair_cost : K × V → ℕ) (kid_cost : K × ℕ → ℕ)
    (kid_cheap : (k : K) (c : ℕ) → kid_cost (k, c) ≤ 23) (s : Logged K V) (priced : Priced pair_cost kid_cost s) (sound : Sound rank top least (tree s)) where
  may-divide-leaf : (p : ℕ) → p < s.born → (s.page p).frame.level ≡ 0 → (d : Divides rank pair_cost 84 (rank (s.page p).frame.low) (edge rank top (upper (s.page p).frame)) (s.page p).pairs)
      → MayDivide rank top (tree s) p d.key
  may-divide-leaf p b e d = record { is_born = b; above = d.above; below = d.below; entry = λ l h. absurd (omega arith) }

  -- after the division, the part that has the key
  part-put : (p : ℕ) → p < s.born → (s.page p).frame.level ≡ 0 → (k d : K) → Holds rank top (s.page p).frame k
      → MayPut rank top (tree (changed (by rank) least s (Foster p s.born d))) (cond (is_less (by rank k d)) p s.born) k
  part-put p b e k d h =
      cond_both (is_less (by rank k d)) p s.born (λ q. MayPut rank top (tree (changed (by rank) least s (Foster p s.born d))) q k)
      (λ t. put-at p (lower_image (by rank) least d s.born (s.page p)) (omega arith) lower-is e (h.0, less-true (rank k) (rank d) t))
      (λ t. put-at s.born (upper_image (by rank) least d (s.page p)) (omega arith) upper_is e (less_false (rank k) (rank d) t, h.1))
    where
      after : Logged K V
      after = changed (by rank) least s (Foster p s.born d)

      lower-is : after.page p ≡ lower_image (by rank) least d s.born (s.page p)
      lower-is = divided-lower rank top least ranked s p b d

      upper_is : after.page s.born ≡ upper_image (by rank) least d (s.page p)
      upper_is = divided-upper rank top least ranked s p d

      put-at : (q : ℕ) (x : Image K V) → q < suc s.born → after.page q ≡ x → x.frame.level ≡ 0 → Holds rank top x.frame k
          → MayPut rank top (tree after) q k
      put-at q x b' i l g = record
          { is_born = b'; leaf = ap (λ y. y.frame.level) i ∙ l; holds = subst (λ y. Holds rank top y.frame k) (sym i) g }

  pub put-kept : (p : ℕ) (k : K) (v : V) → pair_cost (k, v) ≤ 84 → p < s.born → (s.page p).frame.level ≡ 0 → Holds rank top (s.page p).frame k
      → MayAll rank top least s (planned_put (by rank) pair_cost kid_cost s p k v)
  put-kept p k v c b e h =
      cond_both (leb (total pair_cost (set (by rank) k v (s.page p).pairs)) 436) (Put p k v ∷ []) (put_divided (by rank) pair_cost kid_cost p s.born k v (divider pair_cost (s.page p).pairs))
      (MayAll rank top least s)
      (λ _. (record { is_born = b; leaf = e; holds = h }, tt))
      (λ t.
      let u = leb-false (total pair_cost (set (by rank) k v (s.page p).pairs)) 436 t in
      let w = set-total rank pair_cost k v (s.page p).pairs in
      let d = divides rank pair_cost 84 _ _ (s.page p).pairs (sound.pairs_ascend p b) (priced.pairs p) (omega arith) in
      subst (λ o. MayAll rank top least s (put_divided (by rank) pair_cost kid_cost p s.born k v o)) (sym d.is)
      ((refl, may-divide-leaf p b e d), (part-put p b e k d.key h, tt)))

  -- a branch with no room for an entry of its child's divides, and any other gains it
  may-step : (p : ℕ) → p < s.born → (l : ℕ) → (s.page p).frame.level ≡ suc l → (k : K) → Holds rank top (s.page p).frame k → (f : K × ℕ)
      → (s.page (kid (by rank) (s.page p).frame k).1).frame.foster ≡ Some f
      → MayAll rank top least s (step_at (by rank) pair_cost kid_cost s p (kid (by rank) (s.page p).frame k).1 f)
  may-step p b l e k h f g =
      cond_both (leb (total kid_cost (set (by rank) f.0 f.1 (s.page p).frame.kids)) 436) _ (divided_branch (by rank) pair_cost kid_cost p s.born (divider kid_cost (s.page p).frame.kids))
      (MayAll rank top least s)
      (λ _. (record { is_born = b; below = l; level = e; key = k; holds = h; leads = refl; foster = g }, tt))
      (λ t.
      let u = leb-false (total kid_cost (set (by rank) f.0 f.1 (s.page p).frame.kids)) 436 t in
      let w = set-total rank kid_cost f.0 f.1 (s.page p).frame.kids in
      let d = divides rank kid_cost 23 _ _ (s.page p).frame.kids (sound.shape.ascends p b) (priced.kids p) (omega (arith, kid_cheap f.0 f.1)) in
      subst (λ o. MayAll rank top least s (divided_branch (by rank) pair_cost kid_cost p s.born o)) (sym d.is)
      ((refl, record { is_born = b; above = d.above; below = d.below; entry = λ _ _. (d.value, d.entry) }), tt))

  may-steps : (k : K) (l p : ℕ) → p < s.born → (s.page p).frame.level ≡ l → Holds rank top (s.page p).frame k
      → MayAll rank top least s (steps_under (by rank) pair_cost kid_cost s k l p)
  may-steps k zero p b e h = tt
  may-steps k (suc l) p b e h =
      let t = sound.shape.children p b l k e h in
      below-child l p b e h (s.page (kid (by rank) (s.page p).frame k).1).frame.foster refl
      (may-steps k l (kid (by rank) (s.page p).frame k).1 t.is_born t.level_is)
    where
      below-child : (l p : ℕ) → p < s.born → (s.page p).frame.level ≡ suc l → Holds rank top (s.page p).frame k → (o : Option (K × ℕ))
          → (s.page (kid (by rank) (s.page p).frame k).1).frame.foster ≡ o
          → (Holds rank top (s.page (kid (by rank) (s.page p).frame k).1).frame k
          → MayAll rank top least s (steps_under (by rank) pair_cost kid_cost s k l (kid (by rank) (s.page p).frame k).1))
          → MayAll rank top least s (steps_under (by rank) pair_cost kid_cost s k (suc l) p)
      below-child l p b e h None i ih =
          let t = sound.shape.children p b l k e h in
          let x = ap rank t.low_is in
          let y = ap (edge rank top) t.high_is in
          let u : edge rank top (upper (s.page (kid (by rank) (s.page p).frame k).1).frame) ≡ edge rank top (s.page (kid (by rank) (s.page p).frame k).1).frame.high = cc in
          subst (λ o. MayAll rank top least s (step_else (by rank) pair_cost kid_cost s p (kid (by rank) (s.page p).frame k).1
          (steps_under (by rank) pair_cost kid_cost s k l (kid (by rank) (s.page p).frame k).1) o)) (sym i)
          (ih (
            omega (arith, floor-le rank k ((s.page p).frame.low, 0) (s.page p).frame.kids h.0),
            omega (arith, ceil-above rank top (upper (s.page p).frame) k (s.page p).frame.kids h.1),
          ))
      below-child l p b e h (Some f) i ih =
          subst (λ o. MayAll rank top least s (step_else (by rank) pair_cost kid_cost s p (kid (by rank) (s.page p).frame k).1
          (steps_under (by rank) pair_cost kid_cost s k l (kid (by rank) (s.page p).frame k).1) o)) (sym i)
          (may-step p b l e k h f i)

  pub tend_kept : (k : K) → MayAll rank top least s (planned_tend (by rank) pair_cost kid_cost s k)
  tend_kept k = go (s.page 0).frame.foster refl
    where
      go : (o : Option (K × ℕ)) → (s.page 0).frame.foster ≡ o → MayAll rank top least s (planned_tend (by rank) pair_cost kid_cost s k)
      go None i =
          let u : edge rank top (upper (s.page 0).frame) ≡ edge rank top (s.page 0).frame.high = cc in
          subst (λ o. MayAll rank top least s (rootwards (by rank) pair_cost kid_cost s k o)) (sym i)
          (may-steps k (s.page 0).frame.level 0 sound.shape.any refl (
            omega (arith, ap rank sound.shape.root_low, ranked.from_least k),
            omega (arith, ap (edge rank top) sound.shape.root_high, ranked.below_top k),
          ))
      go (Some f) i = subst (λ o. MayAll rank top least s (rootwards (by rank) pair_cost kid_cost s k o)) (sym i)
          (cond_both (ltb (s.page 0).frame.level 255) (Grow s.born ∷ []) [] (MayAll rank top least s) (λ _. (refl, tt)) (λ _. tt))
