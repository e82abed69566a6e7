use Rattle.std.proofs.Common.{◌≡◌, ℕ, suc, ◌<◌, ◌⊎◌, Some, None, Option, sym, refl, ap, ◌∙◌, subst, subst₂, inl, inr, arith}
use mathlib.Core.Path.{fun_ext, subst₃}
use Rattle.tree.specs.Rows.{find, ceil, Ascends, by}
use Rattle.tree.specs.Tree.{Frame, Image, State, Shape, Sound, Points, Ranking, upd, upper, upper_of, edge, Holds, kid, bound, frames, adopt, gaining, ceding, gaining_image, ceding_image, MayAdopt}
use Rattle.tree.proofs.Rows.{set-ascends, floor-le, floor_ge, floor-set-in, floor-set-below, floor-set-above, ceil-set-in, ceil-set-from, ceil_set_past, floor-same, ceil-same, ceil-above, ceil-le, floor-found}
use Rattle.tree.proofs.Divide.{points_at}
use Rattle.tree.proofs.Upd.{upd-here, upd_cases, upd-map, none-some}
use Rattle.std.proofs.lemmas.Bool.{cases_lt}

module _ {K : Type 0} (rank : K → ℕ) (top : ℕ) (least : K) (ranked : Ranking rank top least) (born : ℕ) (frame : ℕ → Frame K)
    (shape : Shape rank top least born frame) where
  -- an entry's key is in its branch's range
  kid-held : (q : ℕ) → q < born → (j : K) → Holds rank top (frame q) j → Holds rank top (frame q) (kid (by rank) (frame q) j).0
  kid-held q b j h =
      let u = floor_ge rank j ((frame q).low, 0) _ _ (frame q).kids (shape.ascends q b) (omega arith) in
      let v = floor-le rank j ((frame q).low, 0) (frame q).kids h.0 in
      (u, omega arith)

  -- no two branches, nor two keys' entries of one level, share a child
  one_parent : (q : ℕ) → q < born → (r : ℕ) → r < born → (l m : ℕ) (i j : K) → (frame q).level ≡ suc l → (frame r).level ≡ suc m
      → Holds rank top (frame q) i → Holds rank top (frame r) j → (kid (by rank) (frame q) i).1 ≡ (kid (by rank) (frame r) j).1 → q ≡ r
  one_parent q b r c l m i j e e' h h' w =
      let s = shape.children q b l i e h in
      let t = shape.children r c m j e' h' in
      let same : (kid (by rank) (frame q) i).0 ≡ (kid (by rank) (frame r) j).0 = sym s.low_is ∙ ap (λ n. (frame n).low) w ∙ t.low_is in
      let level : l ≡ m = sym s.level_is ∙ ap (λ n. (frame n).level) w ∙ t.level_is in
      shape.apart q b r c (kid (by rank) (frame q) i).0 (e ∙ ap suc level ∙ sym e') (kid-held q b i h)
      (subst (Holds rank top (frame r)) (sym same) (kid-held r c j h'))

  -- no two pages share a foster child
  one-foster : (q : ℕ) → q < born → (r : ℕ) → r < born → (f g : K × ℕ) → (frame q).foster ≡ Some f → (frame r).foster ≡ Some g
      → f.1 ≡ g.1 → q ≡ r
  one-foster q b r c f g e e' w =
      let s = shape.fosters q b f e in
      let t = shape.fosters r c g e' in
      let same : f.0 ≡ g.0 = sym s.low_is ∙ ap (λ n. (frame n).low) w ∙ t.low_is in
      let level : (frame q).level ≡ (frame r).level = sym s.level_is ∙ ap (λ n. (frame n).level) w ∙ t.level_is in
      let x : edge rank top (upper (frame q)) ≡ rank f.0 = cc in
      let y : edge rank top (upper (frame r)) ≡ rank g.0 = cc in
      let z = ap rank same in
      let u = shape.spans q b in
      let v = shape.spans r c in
      elim (cases_lt (rank (frame q).low) (rank (frame r).low)) [
        | inl a ↦ shape.apart q b r c (frame r).low level (omega arith, omega arith) (omega arith, v)
        | inr a ↦ shape.apart q b r c (frame q).low level (omega arith, u) (a, omega arith)
      ]

module _ {K : Type 0} (rank : K → ℕ) (top : ℕ) (least : K) (ranked : Ranking rank top least) (born : ℕ) (frame : ℕ → Frame K)
    (shape : Shape rank top least born frame) (p y : ℕ) (k : K) (c : ℕ) (hp : p < born) (l : ℕ) (level : (frame p).level ≡ suc l) (j₀ : K)
    (holds : Holds rank top (frame p) j₀) (leads : (kid (by rank) (frame p) j₀).1 ≡ y) (foster : (frame y).foster ≡ Some (k, c)) where
  abbrev g : Frame K
  g = gaining (by rank) k c (frame p)

  abbrev z : Frame K
  z = ceding (by rank) k (frame y)

  abbrev after : ℕ → Frame K
  after = upd (upd frame p g) y z

  old-y : Points born frame y l (kid (by rank) (frame p) j₀).0 (bound (by rank) (frame p) j₀)
  old-y = subst (λ n. Points born frame n l (kid (by rank) (frame p) j₀).0 (bound (by rank) (frame p) j₀)) leads (shape.children p hp l j₀ level holds)

  hy : y < born
  hy = old-y.is_born

  old-c : Points born frame c (frame y).level k (frame y).high
  old-c = shape.fosters y hy (k, c) foster

  upper-y : upper (frame y) ≡ Some k
  upper-y = ap (λ f. upper_of f (frame y).high) foster

  key_above : rank (frame y).low < rank k
  key_above = omega (arith, shape.spans y hy, ap (edge rank top) upper-y)

  key_below : rank k < edge rank top (frame y).high
  key_below = shape.foster_below y hy (k, c) foster

  -- the foster key itself leads from p to y
  kid-k : kid (by rank) (frame p) k ≡ kid (by rank) (frame p) j₀
  kid-k = floor-same rank top (upper (frame p)) j₀ k _ _ _ (frame p).kids (shape.ascends p hp)
      (omega (arith, key_above, ap rank old-y.low_is)) (omega (arith, key_below, ap (edge rank top) old-y.high_is))

  bound-k : bound (by rank) (frame p) k ≡ (frame y).high
  bound-k = ceil-same rank top (upper (frame p)) j₀ k ((frame p).low, 0) _ _ (frame p).kids (shape.ascends p hp)
      (omega (arith, key_above, ap rank old-y.low_is)) (omega (arith, key_below, ap (edge rank top) old-y.high_is))
      ∙ sym old-y.high_is

  pub holds-k : Holds rank top (frame p) k
  holds-k = (
    omega (arith, key_above, ap rank old-y.low_is, (kid-held rank top least ranked born frame shape p hp j₀ holds).0),
    omega (arith, key_below, ap (edge rank top) bound-k, ceil-le rank top (upper (frame p)) k _ (frame p).kids (shape.ascends p hp)),
  )

  leads-k : (kid (by rank) (frame p) k).1 ≡ y
  leads-k = ap (λ x. x.1) kid-k ∙ leads

  pub absent_k : find (by rank) k (frame p).kids ≡ None
  absent_k = go (find (by rank) k (frame p).kids) refl
    where
      go : (o : Option ℕ) → find (by rank) k (frame p).kids ≡ o → find (by rank) k (frame p).kids ≡ None
      go None e = e
      go (Some n) e = absurd (omega (
        arith,
        floor-found rank k n ((frame p).low, 0) _ _ (frame p).kids (shape.ascends p hp) e,
        ap (λ x. rank x.0) kid-k,
        ap rank old-y.low_is,
        key_above,
      ))

  p≢y : p ≡ y → ⊥
  p≢y e = omega (arith, level, old-y.level_is, ap (λ n. (frame n).level) e)

  each : (C : ℕ → Frame K → Type 0) → C y z → C p g → ((q : ℕ) → (q ≡ p → ⊥) → (q ≡ y → ⊥) → C q (frame q)) → (q : ℕ) → C q (after q)
  each C a b o = upd_cases (upd frame p g) y z C a
      (λ q n. upd_cases frame p g (λ r x. (r ≡ y → ⊥) → C r x) (λ _. b) (λ r m n. o r m n) q n)

  keeps : {B : Type 0} (f : Frame K → B) → f z ≡ f (frame y) → f g ≡ f (frame p) → (q : ℕ) → f (after q) ≡ f (frame q)
  keeps f a b = each (λ q x. f x ≡ f (frame q)) a b (λ q _ _. refl)

  high-kept : (q : ℕ) → (q ≡ y → ⊥) → (after q).high ≡ (frame q).high
  high-kept = each (λ q x. (q ≡ y → ⊥) → x.high ≡ (frame q).high) (λ n. absurd (n refl)) (λ _. refl) (λ q _ _ _. refl)

  upper-kept : (q : ℕ) → upper (after q) ≡ upper (frame q)
  upper-kept = keeps upper (sym upper-y) refl

  held : (q : ℕ) (j : K) → Holds rank top (after q) j → Holds rank top (frame q) j
  held q j h = (
    omega (arith, h.0, ap rank (keeps (λ x. x.low) refl refl q)),
    omega (arith, h.1, ap (edge rank top) (upper-kept q)),
  )

  lift : {n m : ℕ} {x : K} {u : Option K} → (n ≡ y → ⊥) → Points born frame n m x u → Points born after n m x u
  lift {n} o h = record {
    inner = h.inner;
    is_born = h.is_born;
    level_is = keeps (λ x. x.level) refl refl n ∙ h.level_is;
    low_is = keeps (λ x. x.low) refl refl n ∙ h.low_is;
    high_is = high-kept n o ∙ h.high_is;
  }

  new-y : {x : K} → (frame y).low ≡ x → Points born after y l x (Some k)
  new-y e = record {
    inner = old-y.inner;
    is_born = hy;
    level_is = keeps (λ x. x.level) refl refl y ∙ old-y.level_is;
    low_is = keeps (λ x. x.low) refl refl y ∙ e;
    high_is = ap (λ x. x.high) (upd-here (upd frame p g) y z);
  }

  c≢y : c ≡ y → ⊥
  c≢y e = omega (arith, key_above, ap rank old-c.low_is, ap (λ n. rank (frame n).low) e)

  -- p's children after
  p-child : (m : ℕ) (j : K) → g.level ≡ suc m → Holds rank top g j
      → Points born after (kid (by rank) g j).1 m (kid (by rank) g j).0 (bound (by rank) g j)
  p-child m j e h = elim (cases_lt (rank j) (rank k)) [
    | inl a ↦ elim (cases_lt (rank k) (edge rank top (bound (by rank) (frame p) j))) [
      | inl b ↦
          let f = floor-same rank top (upper (frame p)) j k ((frame p).low, 0) _ _ (frame p).kids (shape.ascends p hp)
          (omega (arith, floor-le rank j ((frame p).low, 0) (frame p).kids h.0)) b in
          let ky : (kid (by rank) (frame p) j).1 ≡ y = sym (ap (λ x. x.1) f) ∙ leads-k in
          points_at (floor-set-below rank top (upper (frame p)) j k c _ _ _ (frame p).kids (shape.ascends p hp) a)
          (ceil-set-in rank top (upper (frame p)) j k c (frame p).kids a b)
          (subst₂ (λ n i. Points born after n i (kid (by rank) (frame p) j).0 (Some k)) (sym ky) l≡m
          (new-y (ap (λ n. (frame n).low) (sym ky) ∙ old.low_is)))
      | inr b ↦
          points_at (floor-set-below rank top (upper (frame p)) j k c _ _ _ (frame p).kids (shape.ascends p hp) a)
          (ceil_set_past rank top (upper (frame p)) ranked.one j k c _ _ (frame p).kids (shape.ascends p hp) b holds-k.1)
          (lift (λ w. omega (arith, key_below, ap (λ n. edge rank top (frame n).high) w, ap (edge rank top) old.high_is)) old)
    ]
    | inr a ↦ elim (cases_lt (rank j) (edge rank top (bound (by rank) (frame p) k))) [
      | inl b ↦
          points_at (floor-set-in rank top (upper (frame p)) j k c _ _ _ (frame p).kids (shape.ascends p hp) a b)
          (ceil-set-from rank top (upper (frame p)) j k c (frame p).kids a
          ∙ ceil-same rank top (upper (frame p)) k j ((frame p).low, 0) _ _ (frame p).kids (shape.ascends p hp)
          (omega (arith, floor-le rank k ((frame p).low, 0) (frame p).kids holds-k.0)) b
          ∙ bound-k)
          (subst (λ i. Points born after c i k (frame y).high) (old-y.level_is ∙ l≡m) (lift c≢y old-c))
      | inr b ↦
          points_at (floor-set-above rank top (upper (frame p)) j k c _ _ _ (frame p).kids (shape.ascends p hp) b h.1)
          (ceil-set-from rank top (upper (frame p)) j k c (frame p).kids a)
          (lift (λ w. omega (
            arith,
            b,
            ap (λ n. edge rank top (frame n).high) w,
            ap (edge rank top) old.high_is,
            ap (edge rank top) bound-k,
            ceil-above rank top (upper (frame p)) j (frame p).kids h.1,
          )) old)
    ]
  ]
    where
      old : Points born frame (kid (by rank) (frame p) j).1 m (kid (by rank) (frame p) j).0 (bound (by rank) (frame p) j)
      old = shape.children p hp m j e h

      l≡m : l ≡ m
      l≡m = omega (arith, e, level)

  foster-not-y : (q : ℕ) → q < born → (f : K × ℕ) → (frame q).foster ≡ Some f → f.1 ≡ y → ⊥
  foster-not-y q b f e w = shape.one_pointer q b p hp l f k e level holds-k (leads-k ∙ sym w)

  foster-was : (q : ℕ) (f : K × ℕ) → (after q).foster ≡ Some f → (q ≡ y → ⊥) × ((frame q).foster ≡ Some f)
  foster-was = each (λ q x. (f : K × ℕ) → x.foster ≡ Some f → (q ≡ y → ⊥) × ((frame q).foster ≡ Some f))
      (λ f e. absurd (none-some f e)) (λ f e. (p≢y, e)) (λ q _ n f e. (n, e))

  kid_was : (q : ℕ) (j : K) → Holds rank top (after q) j
      → ((kid (by rank) (after q) j).1 ≡ (kid (by rank) (frame q) j).1) ⊎ ((kid (by rank) (after q) j).1 ≡ c)
  kid_was = each (λ q x. (j : K) → Holds rank top x j → ((kid (by rank) x j).1 ≡ (kid (by rank) (frame q) j).1) ⊎ ((kid (by rank) x j).1 ≡ c))
      (λ j h. inl refl)
      (λ j h. elim (cases_lt (rank j) (rank k)) [
        | inl a ↦ inl (ap (λ x. x.1) (floor-set-below rank top (upper (frame p)) j k c _ _ _ (frame p).kids (shape.ascends p hp) a))
        | inr a ↦ elim (cases_lt (rank j) (edge rank top (bound (by rank) (frame p) k))) [
          | inl b ↦ inr (ap (λ x. x.1) (floor-set-in rank top (upper (frame p)) j k c ((frame p).low, 0) _ _ (frame p).kids (shape.ascends p hp) a b))
          | inr b ↦ inl (ap (λ x. x.1) (floor-set-above rank top (upper (frame p)) j k c _ _ _ (frame p).kids (shape.ascends p hp) b h.1))
        ]
      ])
      (λ q _ _ j h. inl refl)

  pub adopt-shape : Shape rank top least born after
  adopt-shape = record {
    any = shape.any;
    root_low = keeps (λ x. x.low) refl refl 0 ∙ shape.root_low;
    root_high = high-kept 0 (λ e. old-y.inner (sym e)) ∙ shape.root_high;
    tallest = λ q b. omega (arith, keeps (λ x. x.level) refl refl q, keeps (λ x. x.level) refl refl 0, shape.tallest q b);
    spans = λ q b. omega (arith, ap rank (keeps (λ x. x.low) refl refl q), ap (edge rank top) (upper-kept q), shape.spans q b);
    ascends = each (λ q x. q < born → Ascends rank (rank x.low) x.kids (edge rank top (upper x)))
        (λ b. subst (λ n. Ascends rank (rank (frame y).low) (frame y).kids n) (ap (edge rank top) upper-y) (shape.ascends y b))
        (λ b. set-ascends rank _ _ k c (frame p).kids (shape.ascends p b) holds-k.0 holds-k.1)
        (λ q _ _ b. shape.ascends q b);
    foster_below = each (λ q x. q < born → (f : K × ℕ) → x.foster ≡ Some f → rank f.0 < edge rank top x.high)
        (λ b f e. absurd (none-some f e))
        (λ b f e. shape.foster_below p b f e)
        (λ q _ _ b f e. shape.foster_below q b f e);
    fosters = each (λ q x. q < born → (f : K × ℕ) → x.foster ≡ Some f → Points born after f.1 x.level f.0 x.high)
        (λ b f e. absurd (none-some f e))
        (λ b f e. lift (foster-not-y p b f e) (shape.fosters p b f e))
        (λ q _ _ b f e. lift (foster-not-y q b f e) (shape.fosters q b f e));
    children = each
        (λ q x. q < born → (m : ℕ) (j : K) → x.level ≡ suc m → Holds rank top x j
        → Points born after (kid (by rank) x j).1 m (kid (by rank) x j).0 (bound (by rank) x j))
        (λ b m j e h.
        let h' : Holds rank top (frame y) j = (h.0, omega (arith, h.1, ap (edge rank top) upper-y)) in
        let old = shape.children y b m j e h' in
        points_at refl (ap (λ u. ceil (by rank) j (frame y).kids u) (sym upper-y))
        (lift (λ w. omega (arith, e, old.level_is, ap (λ n. (frame n).level) w)) old))
        (λ b m j e h. p-child m j e h)
        (λ q n _ b m j e h. lift
        (λ w. n (one_parent rank top least ranked born frame shape q b p hp m l j k e level h holds-k (w ∙ sym leads-k)))
        (shape.children q b m j e h));
    one_pointer = λ q b r b' m f j e e' h w. elim (kid_was r j h) [
      | inl u ↦ shape.one_pointer q b r b' m f j (foster-was q f e).1 (sym (keeps (λ x. x.level) refl refl r) ∙ e') (held r j h) (sym u ∙ w)
      | inr u ↦ (foster-was q f e).0 (one-foster rank top least ranked born frame shape q b y hy f (k, c) (foster-was q f e).1 foster (sym w ∙ u))
    ];
    apart = λ q b r d j e h h'. shape.apart q b r d j
        (sym (keeps (λ x. x.level) refl refl q) ∙ e ∙ keeps (λ x. x.level) refl refl r) (held q j h) (held r j h');
  }

module _ {K V : Type 0} (rank : K → ℕ) (top : ℕ) (least : K) (ranked : Ranking rank top least) (s : State K V)
    (sound : Sound rank top least s) (p y : ℕ) (k : K) (c : ℕ) (may : MayAdopt rank top s p y k c) where
  abbrev g_image : Image K V
  g_image = gaining_image (by rank) least k c (s.page p)

  abbrev z_image : Image K V
  z_image = ceding_image (by rank) least k (s.page y)

  frames-after : upd (upd (frames s) p g_image.frame) y z_image.frame ≡ frames (adopt (by rank) least p y k c s)
  frames-after = fun_ext (λ q. sym (
      upd-map (λ z. z.frame) (upd s.page p g_image) y z_image q
      ∙ ap (λ g. upd g y z_image.frame q) (fun_ext (λ r. upd-map (λ z. z.frame) s.page p g_image r))))

  pairs-kept : (q : ℕ) → ((adopt (by rank) least p y k c s).page q).pairs ≡ (s.page q).pairs
  pairs-kept = upd_cases (upd s.page p g_image) y z_image (λ q z. z.pairs ≡ (s.page q).pairs) refl
      (λ q _. upd_cases s.page p g_image (λ r z. z.pairs ≡ (s.page r).pairs) refl (λ r _. refl) q)

  upper-y-image : upper (s.page y).frame ≡ Some k
  upper-y-image = ap (λ f. upper_of f (s.page y).frame.high) may.foster

  stays : {B : Type 0} (f : Frame K → B) → f z_image.frame ≡ f (s.page y).frame → f g_image.frame ≡ f (s.page p).frame → (q : ℕ)
      → f ((adopt (by rank) least p y k c s).page q).frame ≡ f (s.page q).frame
  stays f a b = upd_cases (upd s.page p g_image) y z_image (λ q z. f z.frame ≡ f (s.page q).frame) a
      (λ q _. upd_cases s.page p g_image (λ r z. f z.frame ≡ f (s.page r).frame) b (λ r _. refl) q)

  pub adopt-stays : Sound rank top least (adopt (by rank) least p y k c s)
  adopt-stays = record {
    shape = subst (Shape rank top least s.born) frames-after
        (adopt-shape rank top least ranked s.born (frames s) sound.shape p y k c may.is_born may.below may.level may.key
        may.holds may.leads may.foster);
    pairs_ascend = λ q b. subst₃ (λ a es u. Ascends rank (rank a) es (edge rank top u)) (sym (stays (λ x. x.low) refl refl q)) (sym (pairs-kept q))
        (sym (stays upper (sym upper-y-image) refl q)) (sound.pairs_ascend q b);
    leaves = λ q b j e h. ap (find (by rank) j) (pairs-kept q) ∙ sound.leaves q b j (sym (stays (λ x. x.level) refl refl q) ∙ e) (
      omega (arith, h.0, ap rank (stays (λ x. x.low) refl refl q)),
      omega (arith, h.1, ap (edge rank top) (stays upper (sym upper-y-image) refl q)),
    );
  }
