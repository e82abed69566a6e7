use Rattle.std.proofs.Common.{◌≡◌, ℕ, zero, suc, ◌+◌, ◌-◌, ◌<◌, ◌≤◌, List, [], ◌∷◌, Some, None, Option, refl, ap, inl, inr, arith}
use Rattle.tree.specs.Rows.{ceil, by}
use Rattle.tree.specs.Tree.{Frame, State, Shape, Sound, Ranking, upper, edge, Holds, kid, frames, onward, Way, Found}
use Rattle.tree.specs.Tree.Way.{ends, goes}
use Rattle.tree.proofs.Rows.{floor-le, floor_ge}
use Rattle.std.proofs.lemmas.Bool.{cases_lt}

-- the first entry above a key bounds it
ceil-above : {K A : Type 0} (rank : K → ℕ) (top : ℕ) (k : K) (u : Option K) (es : List (K × A)) → rank k < edge rank top u
    → rank k < edge rank top (ceil (by rank) k es u)
ceil-above rank top k u [] h = h
ceil-above rank top k u (e ∷ es) h = let r = ceil-above rank top k u es h in grind arith

module _ {K : Type 0} (rank : K → ℕ) (top : ℕ) (least : K) (ranked : Ranking rank top least) (born : ℕ) (frame : ℕ → Frame K)
    (shape : Shape rank top least born frame) (k : K) where
  pub record Ends (p : ℕ) : Type 0 where
    pub pages : List ℕ
    pub leaf : ℕ
    pub way : Way (by rank) frame k p pages leaf
    pub leaf_born : leaf < born
    pub is_leaf : (frame leaf).level ≡ 0
    pub holds : Holds rank top (frame leaf) k

  then : {p q : ℕ} → onward (by rank) (frame p) k ≡ Some q → Ends q → Ends p
  then {p} e w = record
      { pages = p ∷ w.pages; leaf = w.leaf; way = goes e w.way; leaf_born = w.leaf_born; is_leaf = w.is_leaf; holds = w.holds }

  -- a page whose fences have the key, and a measure below n
  abbrev Reach : ℕ → Type 0
  Reach n = (p : ℕ) → p < born → rank (frame p).low ≤ rank k → rank k < edge rank top (frame p).high
      → (frame p).level + (top - rank (frame p).low) < n → Ends p

  module _ (n : ℕ) (ih : Reach n) (p : ℕ) (b : p < born) (lo : rank (frame p).low ≤ rank k) (hi : rank k < edge rank top (frame p).high)
      (m : (frame p).level + (top - rank (frame p).low) < suc n) where
    -- to the foster child
    across : (f : K × ℕ) → (frame p).foster ≡ Some f → rank f.0 ≤ rank k → Ends f.1
    across f e h =
        let t = shape.fosters p b f e in
        let u : rank (frame p).low < edge rank top (upper (frame p)) = shape.spans p b in
        let v : edge rank top (upper (frame p)) ≡ rank f.0 = cc in
        let w = ranked.below_top k in
        let x = ap rank t.low_is in
        let y = ap (edge rank top) t.high_is in
        ih f.1 t.is_born (omega arith) (omega arith) (omega (arith, t.level_is))

    down : (l : ℕ) → (frame p).level ≡ suc l → Holds rank top (frame p) k → Ends (kid (by rank) (frame p) k).1
    down l e h =
        let t = shape.children p b l k e h in
        let x = ap rank t.low_is in
        let y = ap (edge rank top) t.high_is in
        let z = floor-le rank k ((frame p).low, 0) (frame p).kids lo in
        let w = ceil-above rank top k (upper (frame p)) (frame p).kids h.1 in
        ih (kid (by rank) (frame p) k).1 t.is_born (omega arith) (omega arith) (omega (arith, t.level_is, floor_ge rank k ((frame p).low, 0) _ _ (frame p).kids (shape.ascends p b) (omega arith)))

    here : onward (by rank) (frame p) k ≡ None → (frame p).level ≡ zero → Holds rank top (frame p) k → Ends p
    here e e' h = record { pages = p ∷ []; leaf = p; way = ends e; leaf_born = b; is_leaf = e'; holds = h }

    step : (o : Option (K × ℕ)) → (frame p).foster ≡ o → (l : ℕ) → (frame p).level ≡ l → Ends p
    step None e zero e' =
        let u : edge rank top (upper (frame p)) ≡ edge rank top (frame p).high = cc in
        here (cc) e' (lo, omega arith)
    step None e (suc l) e' =
        let u : edge rank top (upper (frame p)) ≡ edge rank top (frame p).high = cc in
        then (cc) (down l e' (lo, omega arith))
    step (Some f) e zero e' =
        let u : edge rank top (upper (frame p)) ≡ rank f.0 = cc in
        elim (cases_lt (rank k) (rank f.0)) [
          | inl g ↦ here (grind arith) e' (lo, omega arith)
          | inr g ↦ then (grind arith) (across f e g)
        ]
    step (Some f) e (suc l) e' =
        let u : edge rank top (upper (frame p)) ≡ rank f.0 = cc in
        elim (cases_lt (rank k) (rank f.0)) [
          | inl g ↦ then (grind arith) (down l e' (lo, omega arith))
          | inr g ↦ then (grind arith) (across f e g)
        ]

  way-ends : (n : ℕ) → Reach n
  way-ends zero p b lo hi m = absurd (omega arith)
  way-ends (suc n) p b lo hi m = step n (way-ends n) p b lo hi m (frame p).foster refl (frame p).level refl

module _ {K V : Type 0} (rank : K → ℕ) (top : ℕ) (least : K) (ranked : Ranking rank top least) (s : State K V) (sound : Sound rank top least s) where
  -- the leaf of a key
  pub leaf_on_way : (k : K) → Ends rank top least ranked s.born (frames s) sound.shape k 0
  leaf_on_way k = way-ends rank top least ranked s.born (frames s) sound.shape k
      (suc ((frames s 0).level + (top - rank (frames s 0).low))) 0 sound.shape.any
      (omega (arith, ap rank sound.shape.root_low, ranked.from_least k))
      (omega (arith, ap (edge rank top) sound.shape.root_high, ranked.below_top k)) (omega arith)

  pub key-found : (k : K) → Found (by rank) s k
  key-found k = record {
    pages = w.pages;
    leaf = w.leaf;
    way = w.way;
    is_leaf = w.is_leaf;
    gives = sound.leaves w.leaf w.leaf_born k w.is_leaf w.holds;
  }
    where
      w : Ends rank top least ranked s.born (frames s) sound.shape k 0
      w = leaf_on_way k
