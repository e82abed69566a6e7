use Rattle.std.proofs.Common.{◌≡◌, ℕ, zero, suc, ◌+◌, ◌-◌, ◌<◌, ◌≤◌, true, ltb, List, [], ◌∷◌, length, Some, None, Option, sym, refl, ap, ◌∙◌, subst, inl, inr, arith}
use Rattle.tree.specs.Rows.{by}
use Rattle.tree.specs.Tree.{Frame, State, Shape, Sound, Points, Ranking, upper, edge, Holds, kid, bound, frames, onward, Way, Found}
use Rattle.tree.specs.Tree.Way.{ends, goes}
use Rattle.tree.specs.Walk.{Fetched, Due, same_bound, check, onward_due, walk, or_failed, outcome, Visit, visit, visits, onto, due_root, Honest, Went}
use Rattle.tree.specs.Walk.Fetched.{Page, Failed}
use Rattle.tree.specs.Walk.Walked.{Met}
use Rattle.tree.proofs.Rows.{floor-le, floor_ge, ceil-above}
use Rattle.tree.proofs.Way.{key-found}
use Rattle.ranks.proofs.Tally.{In, All, tally, tally-lt, tally_most}
use Rattle.tree.proofs.Upd.{none-some}
use Rattle.std.proofs.lemmas.Bool.{cases_lt, cases_eq, lt-ltb, le-ltb, ltb-true}

same-bound : {K : Type 0} (rank : K → ℕ) (u : Option K) → same_bound (by rank) u u ≡ true
same-bound rank None = refl
same-bound rank (Some k) = grind arith

-- the numbers below another
unfoldable pub below : ℕ → List ℕ
below zero = []
below (suc n) = n ∷ below n

pub length-below : (n : ℕ) → length (below n) ≡ n
unfolding below
length-below zero = refl
length-below (suc n) = ap suc (length-below n)

pub in-below : (p n : ℕ) → p < n → In p (below n)
unfolding below
in-below p zero h = absurd (omega arith)
in-below p (suc n) h = elim (cases_eq p n) [ inl e ↦ inl e | inr e ↦ inr (in-below p n (omega arith)) ]

pub all-below : (P : ℕ → Type 0) → ((p : ℕ) → P p) → (n : ℕ) → All P (below n)
unfolding below
all-below P f zero = tt
all-below P f (suc n) = (f n, all-below P f n)

module _ {K : Type 0} (rank : K → ℕ) (top : ℕ) (least : K) (ranked : Ranking rank top least) (born : ℕ) (frame : ℕ → Frame K)
    (shape : Shape rank top least born frame) (k : K) where
  -- a page is what is due
  abbrev Fits : Due K → ℕ → Type 0
  Fits d q = check (by rank) d (frame q) ≡ 0

  fits : (c l : ℕ) (x : K) (u : Option K) → Points born frame c l x u → Fits (record { low = x; high = u; level = Some l }) c
  fits c l x u h =
      let a = ap rank h.low_is in
      let b : same_bound (by rank) u (frame c).high ≡ true = subst (λ w. same_bound (by rank) u w ≡ true) (sym h.high_is) (same-bound rank u) in
      let e = h.level_is in
      grind arith

  -- where the way goes on, it goes to a page that is what is due
  record On (p q : ℕ) : Type 0 where
    due : Due K
    is : onward_due (by rank) k (frame p) (frame p).foster ≡ Some (q, due)
    is_born : q < born
    fit : Fits due q
    low : rank (frame q).low ≤ rank k
    high : rank k < edge rank top (frame q).high
    falls : (frame q).level + (top - rank (frame q).low) < (frame p).level + (top - rank (frame p).low)

  on : (p : ℕ) → p < born → rank (frame p).low ≤ rank k → rank k < edge rank top (frame p).high → (q : ℕ) → onward (by rank) (frame p) k ≡ Some q → On p q
  on p b lo hi q e = go (frame p).foster refl (frame p).level refl
    where
      across : (f : K × ℕ) → (frame p).foster ≡ Some f → rank f.0 ≤ rank k → On p f.1
      across f e h =
          let t = shape.fosters p b f e in
          let x = ap rank t.low_is in
          let y = ap (edge rank top) t.high_is in
          record {
            due = record { low = f.0; high = (frame p).high; level = Some (frame p).level };
            is = grind arith;
            is_born = t.is_born;
            fit = fits f.1 (frame p).level f.0 (frame p).high t;
            low = omega arith;
            high = omega arith;
            falls =
                let u : edge rank top (upper (frame p)) ≡ rank f.0 = cc in
                omega (arith, t.level_is, shape.spans p b, ranked.below_top f.0);
          }

      down : (l : ℕ) → (frame p).level ≡ suc l → Holds rank top (frame p) k
          → onward_due (by rank) k (frame p) (frame p).foster
          ≡ Some ((kid (by rank) (frame p) k).1, record { low = (kid (by rank) (frame p) k).0; high = bound (by rank) (frame p) k; level = Some l })
          → On p (kid (by rank) (frame p) k).1
      down l e h i =
          let t = shape.children p b l k e h in
          let x = ap rank t.low_is in
          let y = ap (edge rank top) t.high_is in
          record {
            due = record { low = (kid (by rank) (frame p) k).0; high = bound (by rank) (frame p) k; level = Some l };
            is = i;
            is_born = t.is_born;
            fit = fits (kid (by rank) (frame p) k).1 l (kid (by rank) (frame p) k).0 (bound (by rank) (frame p) k) t;
            low = omega (arith, floor-le rank k ((frame p).low, 0) (frame p).kids lo);
            high = omega (arith, ceil-above rank top (upper (frame p)) k (frame p).kids h.1);
            falls = omega (arith, t.level_is, floor_ge rank k ((frame p).low, 0) _ _ (frame p).kids (shape.ascends p b) (omega arith));
          }

      go : (o : Option (K × ℕ)) → (frame p).foster ≡ o → (l : ℕ) → (frame p).level ≡ l → On p q
      go None i zero j = absurd (none-some q (let t : onward (by rank) (frame p) k ≡ None = cc in sym t ∙ e))
      go None i (suc l) j =
          let u : edge rank top (upper (frame p)) ≡ edge rank top (frame p).high = cc in
          let w : (kid (by rank) (frame p) k).1 ≡ q = cc in
          subst (On p) w (down l j (lo, omega arith) (cc))
      go (Some f) i zero j = elim (cases_lt (rank k) (rank f.0)) [
        | inl g ↦ absurd (none-some q (let t : onward (by rank) (frame p) k ≡ None = grind arith in sym t ∙ e))
        | inr g ↦ let w : f.1 ≡ q = grind arith in subst (On p) w (across f i g)
      ]
      go (Some f) i (suc l) j = elim (cases_lt (rank k) (rank f.0)) [
        | inl g ↦
            let u : edge rank top (upper (frame p)) ≡ rank f.0 = cc in
            let w : (kid (by rank) (frame p) k).1 ≡ q = grind arith in
            subst (On p) w (down l j (lo, omega arith) (grind arith))
        | inr g ↦ let w : f.1 ≡ q = grind arith in subst (On p) w (across f i g)
      ]

  -- the pages that the way may still meet after page p
  weight : ℕ → ℕ
  weight p = (frame p).level + (top - rank (frame p).low)

  left : ℕ → ℕ
  left p = tally (λ q. ltb (weight q) (weight p)) (below born)

  left-falls : (p q : ℕ) → q < born → weight q < weight p → left q < left p
  unfolding left
  left-falls p q b h = tally-lt (λ r. ltb (weight r) (weight q)) (λ r. ltb (weight r) (weight p)) q (below born)
      (all-below (λ r. ltb (weight r) (weight q) ≡ true → ltb (weight r) (weight p) ≡ true)
      (λ r e. lt-ltb (weight r) (weight p) (omega (arith, ltb-true (weight r) (weight q) e))) born)
      (le-ltb (weight q) (weight q) (omega arith)) (lt-ltb (weight q) (weight p) h) (in-below q born b)

  left_most : (p : ℕ) → p < born → left p < born
  unfolding left
  left_most p b =
      let t = tally-lt (λ r. ltb (weight r) (weight p)) (λ r. true) p (below born) (all-below (λ r. ltb (weight r) (weight p) ≡ true → true ≡ true) (λ r _. refl) born)
      (le-ltb (weight p) (weight p) (omega arith)) refl (in-below p born b) in
      omega (arith, t, tally_most (λ (r : ℕ). true) (below born), length-below born)

  falls-weight : (p q : ℕ) → (frame q).level + (top - rank (frame q).low) < (frame p).level + (top - rank (frame p).low) → weight q < weight p
  unfolding weight
  falls-weight p q h = h

  few-pages : {p q : ℕ} {ps : List ℕ} → Way (by rank) frame k p ps q → p < born → rank (frame p).low ≤ rank k → rank k < edge rank top (frame p).high
      → length ps ≤ suc (left p)
  few-pages (ends e) b lo hi = omega arith
  few-pages (goes {p = p} {q = q} e w) b lo hi =
      let o = on p b lo hi q e in
      let r = few-pages w o.is_born o.low o.high in
      omega (arith, left-falls p q o.is_born (falls-weight p q o.falls))

  -- the pages of the way are born
  way-born : {p q : ℕ} {ps : List ℕ} → Way (by rank) frame k p ps q → p < born → rank (frame p).low ≤ rank k → rank k < edge rank top (frame p).high
      → All (λ r. r < born) ps
  way-born (ends e) b lo hi = (b, tt)
  way-born (goes {p = p} {q = q} e w) b lo hi =
      let o = on p b lo hi q e in
      (b, way-born w o.is_born o.low o.high)

  off : (p : ℕ) → onward (by rank) (frame p) k ≡ None → onward_due (by rank) k (frame p) (frame p).foster ≡ None
  off p e = grind arith

module _ {K V : Type 0} (rank : K → ℕ) (top : ℕ) (least : K) (ranked : Ranking rank top least) (s : State K V) (sound : Sound rank top least s)
    (fetch : ℕ → Fetched K V) (honest : Honest s fetch) (k : K) where
  onto-outcome : (v : Visit K V) (vs : List (Visit K V)) (l : Visit K V) (ps : List ℕ) → onto v (outcome fetch ps (Met vs l)) ≡ outcome fetch ps (Met (v ∷ vs) l)
  onto-outcome v vs l [] = refl
  onto-outcome v vs l (p ∷ ps) = go (fetch p) (onto-outcome v vs l ps)
    where
      go : (f : Fetched K V) → onto v (outcome fetch ps (Met vs l)) ≡ outcome fetch ps (Met (v ∷ vs) l)
          → onto v (or_failed f (outcome fetch ps (Met vs l))) ≡ or_failed f (outcome fetch ps (Met (v ∷ vs) l))
      go (Page x) e = e
      go (Failed f) e = refl

  -- the pages of a way that goes on begin with its first
  more-visits : {p q r : ℕ} {ps : List ℕ} → Way (by rank) (frames s) k q ps r → visits s.page (p ∷ ps) ≡ visit p (s.page p) ∷ visits s.page ps
  more-visits (ends e) = refl
  more-visits (goes e w) = refl

  walked : {p q : ℕ} {ps : List ℕ} → Way (by rank) (frames s) k p ps q → p < s.born → rank (frames s p).low ≤ rank k
      → rank k < edge rank top (frames s p).high → (d : Due K) → check (by rank) d (frames s p) ≡ 0 → (n : ℕ) → length ps ≤ n
      → walk (by rank) fetch s.born k n p d ≡ outcome fetch ps (Met (visits s.page ps) (visit q (s.page q)))
  walked (ends e) b lo hi d c zero m = absurd (omega arith)
  walked (ends {p = p} e) b lo hi d c (suc n) m =
      let t = lt-ltb p s.born b in
      let o = off rank top least ranked s.born (frames s) sound.shape k p e in
      elim (honest p b) [ inl h ↦ cc | inr h ↦ let h' = h.1 in cc ]
  walked (goes e w) b lo hi d c zero m = absurd (omega arith)
  walked (goes {p = p} {q = q} {r = r} {ps = ps} e w) b lo hi d c (suc n) m =
      let t = lt-ltb p s.born b in
      let o = on rank top least ranked s.born (frames s) sound.shape k p b lo hi q e in
      let i = o.is in
      let v = walked w o.is_born o.low o.high o.due o.fit n (omega arith) in
      let u = onto-outcome (visit p (s.page p)) (visits s.page ps) (visit r (s.page r)) ps in
      let y = more-visits {p = p} w in
      elim (honest p b) [ inl h ↦ cc | inr h ↦ let h' = h.1 in cc ]

  root-due : check (by rank) (due_root least) (frames s 0) ≡ 0
  root-due =
      let a = ap rank sound.shape.root_low in
      let b : same_bound (by rank) None (frames s 0).high ≡ true = subst (λ w. same_bound (by rank) None w ≡ true) (sym sound.shape.root_high) refl in
      grind arith

  few : (f : Found (by rank) s k) → length f.pages ≤ suc (left rank top least ranked s.born (frames s) sound.shape k 0)
  few f = few-pages rank top least ranked s.born (frames s) sound.shape k f.way sound.shape.any
      (omega (arith, ap rank sound.shape.root_low, ranked.from_least k))
      (omega (arith, ap (edge rank top) sound.shape.root_high, ranked.below_top k))

  pub way-walked : Went (by rank) least s fetch k
  way-walked =
      let f = key-found rank top least ranked s sound k in
      let most = left_most rank top least ranked s.born (frames s) sound.shape k 0 sound.shape.any in
      record {
        found = f;
        comes_to = λ n m. walked f.way sound.shape.any
            (omega (arith, ap rank sound.shape.root_low, ranked.from_least k))
            (omega (arith, ap (edge rank top) sound.shape.root_high, ranked.below_top k)) (due_root least) root-due n (omega (arith, few f, most));
      }

  pub pages-born : (f : Found (by rank) s k) → All (λ r. r < s.born) f.pages
  pages-born f = way-born rank top least ranked s.born (frames s) sound.shape k f.way sound.shape.any
      (omega (arith, ap rank sound.shape.root_low, ranked.from_least k))
      (omega (arith, ap (edge rank top) sound.shape.root_high, ranked.below_top k))
