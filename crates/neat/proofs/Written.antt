-- The pages of a sound and tidy log can be written.
use Rattle.std.proofs.Common.{◌≡◌, ℕ, zero, suc, ◌<◌, ◌≤◌, List, [], ◌∷◌, Some, sym, refl, ap, subst, inl, inr, arith}
use Rattle.ranks.specs.Lists.{All}
use Rattle.tree.specs.Rows.{by, floor, Ascends}
use Rattle.tree.specs.Tree.{Frame, Ranking, Sound, Shape, Holds, edge, upper, kid, frames}
use Rattle.tree.specs.Log.{Logged, tree}
use Rattle.tree.specs.Suits.{Form, first_of}
use Rattle.tree.proofs.Rows.{floor-above}
use Rattle.neat.specs.Neat.{Pointed, Tidy, Writable}
use Rattle.std.proofs.lemmas.Bool.{cases_lt}

module _ {K A : Type 0} (rank : K → ℕ) where
  floor-self : (e d : K × A) (b : ℕ) (es : List (K × A)) → Ascends rank (suc (rank e.0)) es b → floor (by rank) e.0 d (e ∷ es) ≡ e
  floor-self e d b es n =
      let r = floor-above rank e.0 e (suc (rank e.0)) b es n (omega arith) in
      grind arith

  floor-next : (k : K) (e d : K × A) (es : List (K × A)) → rank e.0 ≤ rank k → floor (by rank) k d (e ∷ es) ≡ floor (by rank) k e es
  floor-next k e d es h = grind arith

  -- what holds of the entry of every key holds of every entry
  pub all-entries : (P : K × A → Type 0) (d : K × A) (a b : ℕ) (es : List (K × A)) → Ascends rank a es b
      → ((k : K) → a ≤ rank k → rank k < b → P (floor (by rank) k d es)) → All P es
  all-entries P d a b [] n h = tt
  all-entries P d a b (e ∷ es) n h = (
    subst P (floor-self e d b es n.2) (h e.0 n.0 n.1),
    all-entries P e (suc (rank e.0)) b es n.2 (λ k g i. subst P (floor-next k e d es (omega arith)) (h k (omega (arith, n.0)) i)),
  )

  -- where the entry of the low fence is not the one that stands for none, it is the first
  pub first_entry : (inj : (x y : K) → rank x ≡ rank y → x ≡ y) (low : K) (c : A) (b : ℕ) (es : List (K × A)) → Ascends rank (rank low) es b
      → (floor (by rank) low (low, c) es ≡ (low, c) → ⊥) → first_of es ≡ Some low
  first_entry inj low c b [] n h = absurd (h refl)
  first_entry inj low c b (e ∷ es) n h = elim (cases_lt (rank low) (rank e.0)) [
    | inl g ↦ absurd (h (grind arith))
    | inr g ↦ ap Some (inj e.0 low (omega arith))
  ]

module _ {K : Type 0} (rank : K → ℕ) (top : ℕ) (least : K) (ranked : Ranking rank top least) (born : ℕ) (frame : ℕ → Frame K)
    (shape : Shape rank top least born frame) (p : ℕ) (is_born : p < born) where
  -- a branch's first key is its low fence
  pub first-low : (l : ℕ) → (frame p).level ≡ suc l → first_of (frame p).kids ≡ Some (frame p).low
  first-low l e =
      let t = shape.children p is_born l (frame p).low e (omega arith, shape.spans p is_born) in
      first_entry rank ranked.one (frame p).low 0 _ (frame p).kids (shape.ascends p is_born) (λ i. t.inner (ap (λ x. x.1) i))

  -- the child on a key's way is another page
  pub child_pointed : (l : ℕ) (k : K) → (frame p).level ≡ suc l → Holds rank top (frame p) k → Pointed born p (kid (by rank) (frame p) k).1
  child_pointed l k e h =
      let t = shape.children p is_born l k e h in
      record { inner = t.inner; other = λ i. omega (arith, t.level_is, ap (λ q. (frame q).level) i); is_born = t.is_born }

  pub kids_pointed : (l : ℕ) → (frame p).level ≡ suc l → All (λ (e : K × ℕ). Pointed born p e.1) (frame p).kids
  kids_pointed l e = all-entries rank (λ x. Pointed born p x.1) ((frame p).low, 0) _ _ (frame p).kids (shape.ascends p is_born)
      (λ k g h. child_pointed l k e (g, h))

  -- a foster child is another page, from a key above the page's low fence on
  pub foster-over : (f : K × ℕ) → (frame p).foster ≡ Some f → rank (frame p).low < rank f.0
  foster-over f e =
      let u = shape.spans p is_born in
      let v : edge rank top (upper (frame p)) ≡ rank f.0 = cc in
      omega arith

  pub foster_pointed : (f : K × ℕ) → (frame p).foster ≡ Some f → Pointed born p f.1
  foster_pointed f e =
      let t = shape.fosters p is_born f e in
      record { inner = t.inner; other = λ i. omega (arith, foster-over f e, ap rank t.low_is, ap (λ q. rank (frame q).low) i); is_born = t.is_born }

module _ {K V : Type 0} (rank : K → ℕ) (top : ℕ) (least : K) (ranked : Ranking rank top least) (s : Logged K V) (sound : Sound rank top least (tree s)) where
  pub page-formed : (p : ℕ) → p < s.born → Form rank top (s.page p)
  page-formed p b = record {
    spans = sound.shape.spans p b;
    foster_below = sound.shape.foster_below p b;
    pairs_ascend = sound.pairs_ascend p b;
    kids_ascend = sound.shape.ascends p b;
    first_is = first-low rank top least ranked s.born (frames (tree s)) sound.shape p b;
  }

  pub page_writable : Tidy rank top least s → (p : ℕ) → p < s.born → Writable rank top least s.born p (s.page p)
  page_writable tidy p b = record {
    neat = tidy.pages p;
    form = page-formed p b;
    foster_above = foster-over rank top least ranked s.born (frames (tree s)) sound.shape p b;
    fosters = foster_pointed rank top least ranked s.born (frames (tree s)) sound.shape p b;
    kids = go (s.page p).frame.level refl;
  }
    where
      go : (l : ℕ) → (s.page p).frame.level ≡ l → All (λ (e : K × ℕ). Pointed s.born p e.1) (s.page p).frame.kids
      go zero e = subst (All (λ (x : K × ℕ). Pointed s.born p x.1)) (sym ((tidy.pages p).leaf_kids e)) tt
      go (suc l) e = kids_pointed rank top least ranked s.born (frames (tree s)) sound.shape p b l e
