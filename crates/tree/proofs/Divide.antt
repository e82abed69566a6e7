use Rattle.std.proofs.Common.{◌≡◌, ℕ, suc, ◌<◌, ◌≤◌, ◌⊎◌, Some, None, Option, sym, refl, ap, ◌∙◌, subst, subst₂, inl, inr, arith}
use mathlib.Core.Path.{fun_ext}
use Rattle.tree.specs.Rows.{find, Ascends, by}
use Rattle.tree.specs.Tree.{Frame, Image, State, Shape, Sound, Points, Ranking, upd, upper, edge, Holds, kid, bound, frames, divide, lower_part, upper_part, lower_image, upper_image, MayDivide}
use Rattle.tree.proofs.Rows.{upto-ascends, from-ascends, floor-upto, floor-from, ceil-upto, ceil-from, find-upto, find-from}
use Rattle.tree.proofs.Upd.{upd-here, upd_there, upd_cases, upd-keeps, upd-map}

pub points_at : {K : Type 0} {born : ℕ} {frame : ℕ → Frame K} {l : ℕ} {c c' : K × ℕ} {u u' : Option K} → c ≡ c' → u ≡ u'
    → Points born frame c'.1 l c'.0 u' → Points born frame c.1 l c.0 u
points_at {born = born} {frame = frame} {l = l} e e' h =
    subst₂ (λ x w. Points born frame x.1 l x.0 w) (sym e) (sym e') h

module _ {K : Type 0} (rank : K → ℕ) (top : ℕ) (least : K) (ranked : Ranking rank top least) (born : ℕ) (frame : ℕ → Frame K)
    (shape : Shape rank top least born frame) (p : ℕ) (d : K) (hp : p < born)
    (above : rank (frame p).low < rank d) (below : rank d < edge rank top (upper (frame p)))
    (entry : (l : ℕ) → (frame p).level ≡ suc l → (c : ℕ) × (find (by rank) d (frame p).kids ≡ Some c)) where
  -- the page, its foster child, and the frames after
  abbrev lo : Frame K
  lo = lower_part (by rank) d born (frame p)

  abbrev hi : Frame K
  hi = upper_part (by rank) d (frame p)

  abbrev after : ℕ → Frame K
  after = upd (upd frame p lo) born hi

  -- what is shown of the child, of the page and of every other page is shown of all
  each : (C : ℕ → Frame K → Type 0) → C born hi → C p lo → ((q : ℕ) → q < born → (q ≡ p → ⊥) → C q (frame q))
      → (q : ℕ) → q < suc born → C q (after q)
  each C h l o =
      upd_cases (upd frame p lo) born hi (λ q y. q < suc born → C q y) (λ _. h)
      (λ q n b. upd_cases frame p lo (λ r y. r < born → C r y) (λ _. l) (λ r m c. o r c m) q (omega arith))

  -- the page that an entry or a range was in before
  record Old (q : ℕ) (y : Frame K) : Type 0 where
    o : ℕ
    o_born : o < born
    level_was : y.level ≡ (frame o).level
    held : (k : K) → Holds rank top y k → Holds rank top (frame o) k
    kid_was : (l : ℕ) (k : K) → y.level ≡ suc l → Holds rank top y k → kid (by rank) y k ≡ kid (by rank) (frame o) k
    bound_was : (l : ℕ) (k : K) → y.level ≡ suc l → Holds rank top y k → bound (by rank) y k ≡ bound (by rank) (frame o) k
    which : ((q ≡ born) × (o ≡ p) × ((k : K) → Holds rank top y k → rank d ≤ rank k))
        ⊎ ((q ≡ o) × ((k : K) → o ≡ p → Holds rank top y k → rank k < rank d))

  old : (q : ℕ) → q < suc born → Old q (after q)
  old = each Old
      (record {
        o = p;
        o_born = hp;
        level_was = refl;
        held = λ k h. (omega arith, h.1);
        kid_was = λ l k e h. floor-from rank k d _ _ _ _ _ (frame p).kids (shape.ascends p hp) h.0 (entry l e).1;
        bound_was = λ l k e h. ceil-from rank k d _ _ _ (frame p).kids (shape.ascends p hp) h.0;
        which = inl (refl, refl, λ k h. h.0);
      })
      (record {
        o = p;
        o_born = hp;
        level_was = refl;
        held = λ k h. (h.0, omega arith);
        kid_was = λ l k e h. floor-upto rank k d _ _ _ (frame p).kids (shape.ascends p hp) h.1;
        bound_was = λ l k e h. ceil-upto rank ranked.one k d _ _ _ _ (frame p).kids (shape.ascends p hp) h.1 (entry l e).1;
        which = inr (refl, λ k _ h. h.1);
      })
      (λ q b n. record {
        o = q;
        o_born = b;
        level_was = refl;
        held = λ k h. h;
        kid_was = λ l k e h. refl;
        bound_was = λ l k e h. refl;
        which = inr (refl, λ k e _. absurd (n e));
      })

  -- an old page keeps its level and its fences
  keeps : {B : Type 0} (f : Frame K → B) → f lo ≡ f (frame p) → (q : ℕ) → q < born → f (after q) ≡ f (frame q)
  keeps f e q b =
      ap f (upd_there (upd frame p lo) born hi q (omega arith)) ∙ upd-keeps frame p lo f e q

  lift : {c l : ℕ} {x : K} {u : Option K} → Points born frame c l x u → Points (suc born) after c l x u
  lift {c} h = record {
    inner = h.inner;
    is_born = omega (arith, h.is_born);
    level_is = keeps (λ y. y.level) refl c h.is_born ∙ h.level_is;
    low_is = keeps (λ y. y.low) refl c h.is_born ∙ h.low_is;
    high_is = keeps (λ y. y.high) refl c h.is_born ∙ h.high_is;
  }

  upper-high : edge rank top (upper (frame p)) ≤ edge rank top (frame p).high
  upper-high = go (frame p).foster refl
    where
      go : (f : Option (K × ℕ)) → (frame p).foster ≡ f → edge rank top (upper (frame p)) ≤ edge rank top (frame p).high
      go None e = grind arith
      go (Some f) e = let b : rank f.0 < edge rank top (frame p).high = shape.foster_below p hp f e in grind arith

  at_most : (q : ℕ) → q < born → (frame q).level ≤ (after 0).level
  at_most q b = omega (arith, shape.tallest q b, keeps (λ y. y.level) refl 0 shape.any)

  -- the page's new foster child
  newborn : Points (suc born) after born (frame p).level d (frame p).high
  newborn = record {
    inner = λ e. omega (arith, shape.any);
    is_born = omega arith;
    level_is = ap (λ y. y.level) (upd-here (upd frame p lo) born hi);
    low_is = ap (λ y. y.low) (upd-here (upd frame p lo) born hi);
    high_is = ap (λ y. y.high) (upd-here (upd frame p lo) born hi);
  }

  -- a former foster child is no branch's child
  unpointed : (r : ℕ) → r < born → (t : ℕ) → t < suc born → (l : ℕ) (f : K × ℕ) (k : K) → (frame r).foster ≡ Some f → (after t).level ≡ suc l
      → Holds rank top (after t) k → (kid (by rank) (after t) k).1 ≡ f.1 → ⊥
  unpointed r c t b l f k e e' h w =
      shape.one_pointer r c (old t b).o (old t b).o_born l f k e (sym (old t b).level_was ∙ e') ((old t b).held k h)
      (sym (ap (λ x. x.1) ((old t b).kid_was l k e' h)) ∙ w)

  alone : (q r : ℕ) (y z : Frame K) → Old q y → Old r z → (k : K) → y.level ≡ z.level → Holds rank top y k → Holds rank top z k → q ≡ r
  alone q r y z u v k e g h = go u.which v.which
    where
      same : u.o ≡ v.o
      same = shape.apart u.o u.o_born v.o v.o_born k (sym u.level_was ∙ e ∙ v.level_was) (u.held k g) (v.held k h)

      go : ((q ≡ born) × (u.o ≡ p) × ((j : K) → Holds rank top y j → rank d ≤ rank j))
          ⊎ ((q ≡ u.o) × ((j : K) → u.o ≡ p → Holds rank top y j → rank j < rank d))
          → ((r ≡ born) × (v.o ≡ p) × ((j : K) → Holds rank top z j → rank d ≤ rank j))
          ⊎ ((r ≡ v.o) × ((j : K) → v.o ≡ p → Holds rank top z j → rank j < rank d))
          → q ≡ r
      go (inl a) (inl b) = a.0 ∙ sym b.0
      go (inl a) (inr b) = absurd (omega (arith, a.2 k g, b.1 k (sym same ∙ a.1) h))
      go (inr a) (inl b) = absurd (omega (arith, a.1 k (same ∙ b.1) g, b.2 k h))
      go (inr a) (inr b) = a.0 ∙ same ∙ sym b.0

  pub divide-shape : Shape rank top least (suc born) after
  divide-shape = record {
    any = omega arith;
    root_low = keeps (λ y. y.low) refl 0 shape.any ∙ shape.root_low;
    root_high = keeps (λ y. y.high) refl 0 shape.any ∙ shape.root_high;
    tallest = each (λ q y. y.level ≤ (after 0).level) (at_most p hp) (at_most p hp) (λ q b _. at_most q b);
    spans = each (λ q y. rank y.low < edge rank top (upper y)) below above (λ q b n. shape.spans q b);
    ascends = each (λ q y. Ascends rank (rank y.low) y.kids (edge rank top (upper y)))
        (from-ascends rank _ _ d (frame p).kids (shape.ascends p hp)) (upto-ascends rank _ _ d (frame p).kids (shape.ascends p hp))
        (λ q b n. shape.ascends q b);
    foster_below = each (λ q y. (f : K × ℕ) → y.foster ≡ Some f → rank f.0 < edge rank top y.high)
        (λ f e. shape.foster_below p hp f e) (λ f e. let e' : (d, born) ≡ f = cc in subst (λ g. rank g.0 < edge rank top (frame p).high) e' (omega (arith, upper-high))) (λ q b n f e. shape.foster_below q b f e);
    fosters = each (λ q y. (f : K × ℕ) → y.foster ≡ Some f → Points (suc born) after f.1 y.level f.0 y.high)
        (λ f e. lift (shape.fosters p hp f e)) (λ f e. let e' : (d, born) ≡ f = cc in subst (λ g. Points (suc born) after g.1 (frame p).level g.0 (frame p).high) e' newborn) (λ q b n f e. lift (shape.fosters q b f e));
    children = λ q b l k e h. points_at ((old q b).kid_was l k e h) ((old q b).bound_was l k e h) (lift (shape.children (old q b).o (old q b).o_born l k (sym (old q b).level_was ∙ e) ((old q b).held k h)));
    one_pointer = λ q b. each
        (λ r y. (t : ℕ) → t < suc born → (l : ℕ) (f : K × ℕ) (k : K) → y.foster ≡ Some f → (after t).level ≡ suc l → Holds rank top (after t) k
        → (kid (by rank) (after t) k).1 ≡ f.1 → ⊥)
        (λ t b' l f k e e' h w. unpointed p hp t b' l f k e e' h w)
        (λ t b' l f k e e' h w. let e'' : (d, born) ≡ f = cc in
        omega (
          arith,
          (shape.children (old t b').o (old t b').o_born l k (sym (old t b').level_was ∙ e') ((old t b').held k h)).is_born,
          ap (λ x. x.1) ((old t b').kid_was l k e' h),
          ap (λ x. x.1) e'',
        ))
        (λ r c _ t b' l f k e e' h w. unpointed r c t b' l f k e e' h w) q b;
    apart = λ q b r c k e g h. alone q r (after q) (after r) (old q b) (old r c) k e g h;
  }

module _ {K V : Type 0} (rank : K → ℕ) (top : ℕ) (least : K) (ranked : Ranking rank top least) (s : State K V)
    (sound : Sound rank top least s) (p : ℕ) (d : K) (may : MayDivide rank top s p d) where
  abbrev lo_image : Image K V
  lo_image = lower_image (by rank) least d s.born (s.page p)

  abbrev hi_image : Image K V
  hi_image = upper_image (by rank) least d (s.page p)

  frames-after : upd (upd (frames s) p lo_image.frame) s.born hi_image.frame ≡ frames (divide (by rank) least p d s)
  frames-after = fun_ext (λ q. sym (
      upd-map (λ z. z.frame) (upd s.page p lo_image) s.born hi_image q
      ∙ ap (λ g. upd g s.born hi_image.frame q) (fun_ext (λ r. upd-map (λ z. z.frame) s.page p lo_image r))))

  each-image : (C : ℕ → Image K V → Type 0) → C s.born hi_image → C p lo_image → ((q : ℕ) → q < s.born → C q (s.page q))
      → (q : ℕ) → q < suc s.born → C q (upd (upd s.page p lo_image) s.born hi_image q)
  each-image C h l o =
      upd_cases (upd s.page p lo_image) s.born hi_image (λ q y. q < suc s.born → C q y) (λ _. h)
      (λ q n b. upd_cases s.page p lo_image (λ r y. r < s.born → C r y) (λ _. l) (λ r m c. o r c) q (omega arith))

  pub divide-stays : Sound rank top least (divide (by rank) least p d s)
  divide-stays = record {
    shape = subst (Shape rank top least (suc s.born)) frames-after
        (divide-shape rank top least ranked s.born (frames s) sound.shape p d may.is_born may.above may.below may.entry);
    pairs_ascend = each-image (λ q z. Ascends rank (rank z.frame.low) z.pairs (edge rank top (upper z.frame)))
        (from-ascends rank _ _ d (s.page p).pairs (sound.pairs_ascend p may.is_born))
        (upto-ascends rank _ _ d (s.page p).pairs (sound.pairs_ascend p may.is_born))
        sound.pairs_ascend;
    leaves = each-image
        (λ q z. (k : K) → z.frame.level ≡ 0 → Holds rank top z.frame k → find (by rank) k z.pairs ≡ s.stands k)
        (λ k e h. find-from rank k d (s.page p).pairs h.0 ∙ sound.leaves p may.is_born k e (omega (arith, may.above), h.1))
        (λ k e h. find-upto rank k d (s.page p).pairs h.1 ∙ sound.leaves p may.is_born k e (h.0, omega (arith, may.below)))
        sound.leaves;
  }
