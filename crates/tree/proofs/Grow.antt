use Rattle.std.proofs.Common.{◌≡◌, ℕ, suc, ◌<◌, ◌≤◌, ◌⊎◌, Some, None, Option, sym, refl, ap, ◌∙◌, subst, inl, inr, arith}
use mathlib.Core.Path.{fun_ext}
use Rattle.tree.specs.Rows.{find, Ascends, by}
use Rattle.tree.specs.Tree.{Frame, Image, State, Shape, Sound, Points, Ranking, upd, upper, edge, Holds, kid, bound, frames, grow, risen, risen_image}
use Rattle.tree.proofs.Divide.{points_at}
use Rattle.tree.proofs.Upd.{upd-here, upd_there, upd_cases, upd-map, none-some}

module _ {K : Type 0} (rank : K → ℕ) (top : ℕ) (least : K) (ranked : Ranking rank top least) (born : ℕ) (frame : ℕ → Frame K)
    (shape : Shape rank top least born frame) where
  abbrev root : Frame K
  root = risen least born (frame 0)

  abbrev after : ℕ → Frame K
  after = upd (upd frame born (frame 0)) 0 root

  -- what is shown of the root, of the newborn page and of every other page is shown of all
  each : (C : ℕ → Frame K → Type 0) → C 0 root → C born (frame 0) → ((q : ℕ) → q < born → (q ≡ 0 → ⊥) → C q (frame q))
      → (q : ℕ) → q < suc born → C q (after q)
  each C a b o =
      upd_cases (upd frame born (frame 0)) 0 root (λ q y. q < suc born → C q y) (λ _. a)
      (λ q n h. upd_cases frame born (frame 0) (λ r y. r < suc born → (r ≡ 0 → ⊥) → C r y) (λ _ _. b) (λ r m c n. o r (omega arith) n) q h n)

  new_is : after born ≡ frame 0
  new_is = upd_there (upd frame born (frame 0)) 0 root born (λ e. omega (arith, shape.any)) ∙ upd-here frame born (frame 0)

  root_is : after 0 ≡ root
  root_is = upd-here (upd frame born (frame 0)) 0 root

  other-is : (q : ℕ) → q < born → (q ≡ 0 → ⊥) → after q ≡ frame q
  other-is q b n = upd_there (upd frame born (frame 0)) 0 root q n ∙ upd_there frame born (frame 0) q (omega arith)

  lift : {n m : ℕ} {x : K} {u : Option K} → Points born frame n m x u → Points (suc born) after n m x u
  lift {n} h =
      let e = other-is n h.is_born h.inner in
      record {
        inner = h.inner;
        is_born = omega (arith, h.is_born);
        level_is = ap (λ x. x.level) e ∙ h.level_is;
        low_is = ap (λ x. x.low) e ∙ h.low_is;
        high_is = ap (λ x. x.high) e ∙ h.high_is;
      }

  -- the page that a page's content was in before, but for the root
  record Old (q : ℕ) (y : Frame K) : Type 0 where
    o : ℕ
    o_born : o < born
    was : y ≡ frame o
    which : ((q ≡ o) × (q ≡ 0 → ⊥)) ⊎ ((q ≡ born) × (o ≡ 0))
    lower : y.level ≤ (frame 0).level

  old : (q : ℕ) → q < suc born → (q ≡ 0) ⊎ Old q (after q)
  old = each (λ q y. (q ≡ 0) ⊎ Old q y) (inl refl)
      (inr (record { o = 0; o_born = shape.any; was = refl; which = inr (refl, refl); lower = omega arith }))
      (λ q b n. inr (record { o = q; o_born = b; was = refl; which = inl (refl, n); lower = shape.tallest q b }))

  root-kid : (j : K) → kid (by rank) root j ≡ (least, born)
  root-kid j = let t = ranked.from_least j in grind arith

  root-bound : (j : K) → bound (by rank) root j ≡ None
  root-bound j = let t = ranked.from_least j in grind arith

  newborn : (l : ℕ) → suc (frame 0).level ≡ suc l → Points (suc born) after born l least None
  newborn l e = record {
    inner = λ n. omega (arith, shape.any);
    is_born = omega arith;
    level_is = ap (λ x. x.level) new_is ∙ omega arith;
    low_is = ap (λ x. x.low) new_is ∙ shape.root_low;
    high_is = ap (λ x. x.high) new_is ∙ shape.root_high;
  }

  unpointed : (r : ℕ) → r < born → (f : K × ℕ) → (frame r).foster ≡ Some f → (q : ℕ) → q < suc born → (l : ℕ) (k : K) → (after q).level ≡ suc l
      → Holds rank top (after q) k → (kid (by rank) (after q) k).1 ≡ f.1 → ⊥
  unpointed r c f e q b l k e' h w = elim (old q b) [
    | inl n ↦ omega (arith, (shape.fosters r c f e).is_born, sym w ∙ ap (λ x. (kid (by rank) x k).1) (ap after n ∙ root_is) ∙ ap (λ x. x.1) (root-kid k))
    | inr v ↦ shape.one_pointer r c v.o v.o_born l f k e (ap (λ x. x.level) (sym v.was) ∙ e') (subst (λ x. Holds rank top x k) v.was h)
        (ap (λ x. (kid (by rank) x k).1) (sym v.was) ∙ w)
  ]

  alone : (p q : ℕ) (y z : Frame K) → Old p y → Old q z → (k : K) → y.level ≡ z.level → Holds rank top y k → Holds rank top z k → p ≡ q
  alone p q y z u v k e g h =
      let same = shape.apart u.o u.o_born v.o v.o_born k (ap (λ x. x.level) (sym u.was) ∙ e ∙ ap (λ x. x.level) v.was)
      (subst (λ x. Holds rank top x k) u.was g) (subst (λ x. Holds rank top x k) v.was h) in
      omega (arith, u.which, v.which, u.o_born, v.o_born)

  pub grow-shape : Shape rank top least (suc born) after
  grow-shape = record {
    any = omega arith;
    root_low = ap (λ x. x.low) root_is;
    root_high = ap (λ x. x.high) root_is;
    tallest = each (λ q y. y.level ≤ (after 0).level) (omega (arith, ap (λ x. x.level) root_is)) (omega (arith, ap (λ x. x.level) root_is))
        (λ q b _. omega (arith, ap (λ x. x.level) root_is, shape.tallest q b));
    spans = each (λ q y. rank y.low < edge rank top (upper y)) (ranked.below_top least) (shape.spans 0 shape.any) (λ q b _. shape.spans q b);
    ascends = each (λ q y. Ascends rank (rank y.low) y.kids (edge rank top (upper y)))
        (omega arith, ranked.below_top least, tt) (shape.ascends 0 shape.any) (λ q b _. shape.ascends q b);
    foster_below = each (λ q y. (f : K × ℕ) → y.foster ≡ Some f → rank f.0 < edge rank top y.high)
        (λ f e. absurd (none-some f e)) (shape.foster_below 0 shape.any) (λ q b _. shape.foster_below q b);
    fosters = each (λ q y. (f : K × ℕ) → y.foster ≡ Some f → Points (suc born) after f.1 y.level f.0 y.high)
        (λ f e. absurd (none-some f e)) (λ f e. lift (shape.fosters 0 shape.any f e)) (λ q b _ f e. lift (shape.fosters q b f e));
    children = each
        (λ q y. (l : ℕ) (j : K) → y.level ≡ suc l → Holds rank top y j
        → Points (suc born) after (kid (by rank) y j).1 l (kid (by rank) y j).0 (bound (by rank) y j))
        (λ l j e h. points_at (root-kid j) (root-bound j) (newborn l e))
        (λ l j e h. lift (shape.children 0 shape.any l j e h)) (λ q b _ l j e h. lift (shape.children q b l j e h));
    one_pointer = each
        (λ p y. (q : ℕ) → q < suc born → (l : ℕ) (f : K × ℕ) (k : K) → y.foster ≡ Some f → (after q).level ≡ suc l → Holds rank top (after q) k
        → (kid (by rank) (after q) k).1 ≡ f.1 → ⊥)
        (λ q b l f k e e' h w. none-some f e)
        (λ q b l f k e e' h w. unpointed 0 shape.any f e q b l k e' h w)
        (λ p c _ q b l f k e e' h w. unpointed p c f e q b l k e' h w);
    apart = λ p b q c k e g h. elim (old p b) [
      | inl n ↦ elim (old q c) [
        | inl m ↦ n ∙ sym m
        | inr v ↦ absurd (omega (arith, e, v.lower, ap (λ x. x.level) (ap after n ∙ root_is)))
      ]
      | inr u ↦ elim (old q c) [
        | inl m ↦ absurd (omega (arith, e, u.lower, ap (λ x. x.level) (ap after m ∙ root_is)))
        | inr v ↦ alone p q (after p) (after q) u v k e g h
      ]
    ];
  }

module _ {K V : Type 0} (rank : K → ℕ) (top : ℕ) (least : K) (ranked : Ranking rank top least) (s : State K V) (sound : Sound rank top least s) where
  abbrev root_image : Image K V
  root_image = risen_image (by rank) least s.born (s.page 0)

  frames-after : upd (upd (frames s) s.born (s.page 0).frame) 0 root_image.frame ≡ frames (grow (by rank) least s)
  frames-after = fun_ext (λ q. sym (
      upd-map (λ z. z.frame) (upd s.page s.born (s.page 0)) 0 root_image q
      ∙ ap (λ g. upd g 0 root_image.frame q) (fun_ext (λ r. upd-map (λ z. z.frame) s.page s.born (s.page 0) r))))

  each-image : (C : Image K V → Type 0) → C root_image → C (s.page 0) → ((q : ℕ) → q < s.born → C (s.page q))
      → (q : ℕ) → q < suc s.born → C ((grow (by rank) least s).page q)
  each-image C a b o =
      upd_cases (upd s.page s.born (s.page 0)) 0 root_image (λ q y. q < suc s.born → C y) (λ _. a)
      (λ q n h. upd_cases s.page s.born (s.page 0) (λ r y. r < suc s.born → C y) (λ _. b) (λ r m c. o r (omega arith)) q h)

  pub grow-stays : Sound rank top least (grow (by rank) least s)
  grow-stays = record {
    shape = subst (Shape rank top least (suc s.born)) frames-after
        (grow-shape rank top least ranked s.born (frames s) sound.shape);
    pairs_ascend = each-image (λ z. Ascends rank (rank z.frame.low) z.pairs (edge rank top (upper z.frame)))
        tt (sound.pairs_ascend 0 sound.shape.any) sound.pairs_ascend;
    leaves = each-image (λ z. (k : K) → z.frame.level ≡ 0 → Holds rank top z.frame k → find (by rank) k z.pairs ≡ s.stands k)
        (λ k e h. absurd (omega arith)) (sound.leaves 0 sound.shape.any) sound.leaves;
  }
