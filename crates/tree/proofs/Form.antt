-- A record that suits a well-formed image makes a well-formed image, whatever the log.
use Rattle.std.proofs.Common.{◌≡◌, ℕ, zero, suc, ◌<◌, ◌≤◌, Bool, true, false, cond, not, eqb, ltb, List, [], ◌∷◌, Some, None, Option, sym, refl, ap, ◌∙◌, subst, inl, inr, arith}
use Rattle.std.proofs.Math.Dec.{is_le, compare_is_eq}
use Rattle.tree.specs.Rows.{set, find, upto, from, Ascends, by}
use Rattle.tree.specs.Tree.{Frame, Image, Ranking, edge, upper, upper_of, lower_image, upper_image, ceding_image, gaining_image}
use Rattle.tree.specs.Log.{Change, Rec, Source, source, source_of, make, blank, Built, then_make, at_source, at_slot, rebuild}
use Rattle.tree.specs.Log.Change.{Format, Put, Remove, Foster, Adopt, Grow}
use Rattle.tree.specs.Log.Source.{Out, Fresh, Earlier}
use Rattle.tree.specs.Log.Built.{Done, Lost, Misfit}
use Rattle.tree.specs.Halves.{some, divides_row}
use Rattle.tree.specs.Suits.{below, in_bounds, is_foster, divides_page, adopts, suits, Form, first_of}
use Rattle.tree.proofs.Rows.{set-ascends, without-ascends, upto-ascends, from-ascends, find-below, less-true}
use Rattle.tree.proofs.Upd.{none-some}
use Rattle.std.proofs.lemmas.Bool.{cond_both, cases_lt, leb-true, and_parts}

module _ {K : Type 0} (rank : K → ℕ) (top : ℕ) (least : K) (ranked : Ranking rank top least) where
  -- what a bound tells
  bounded : (x : Frame K) (k : K) → in_bounds (by rank) k x ≡ true → (rank x.low ≤ rank k) × (rank k < edge rank top (upper x))
  bounded x k t =
      let p = and_parts (is_le (by rank x.low k)) (below (by rank) k (upper x)) t in
      (leb-true (rank x.low) (rank k) p.0, go (upper x) p.1)
    where
      go : (u : Option K) → below (by rank) k u ≡ true → rank k < edge rank top u
      go None e = ranked.below_top k
      go (Some u) e = less-true (rank k) (rank u) e

module _ {K A : Type 0} (rank : K → ℕ) where
  some_is : (o : Option A) → some o ≡ true → (a : A) × (o ≡ Some a)
  some_is None t = let z : ◌≡◌ {A = ℕ} 0 1 = cc in absurd (omega arith)
  some_is (Some a) t = (a, refl)

  -- a dividing key is an entry above the first
  record Inner (d : K) (es : List (K × A)) (a : ℕ) : Type 0 where
    value : A
    entry : find (by rank) d es ≡ Some value
    above : a < rank d

  inner : (d : K) (a b : ℕ) (es : List (K × A)) → Ascends rank a es b → divides_row (by rank) d es ≡ true → Inner d es a
  inner d a b [] n t = let z : ◌≡◌ {A = ℕ} 0 1 = cc in absurd (omega arith)
  inner d a b (e ∷ es) n t =
      let p = and_parts (not (compare_is_eq (by rank d e.0))) (some (find (by rank) d es)) t in
      let v = some_is (find (by rank) d es) p.1 in
      let i = v.1 in
      let q = p.0 in
      let w : rank d < suc (rank e.0) → find (by rank) d es ≡ None = find-below rank d (suc (rank e.0)) b es n.2 in
      record {
        value = v.0;
        entry = grind arith;
        above = elim (cases_lt (rank d) (suc (rank e.0))) [
          | inl g ↦ absurd (none-some v.0 (sym (w g) ∙ i))
          | inr g ↦ omega arith
        ];
      }

  first-upto : (k d : K) (es : List (K × A)) → first_of es ≡ Some k → rank k < rank d → first_of (upto (by rank) d es) ≡ Some k
  first-upto k d [] e h = e
  first-upto k d (x ∷ es) e h = let i : x.0 ≡ k = cc in let j = ap rank i in grind arith

  first-from : (inj : (x y : K) → rank x ≡ rank y → x ≡ y) (d : K) (c : A) (a b : ℕ) (es : List (K × A)) → Ascends rank a es b → find (by rank) d es ≡ Some c
      → first_of (from (by rank) d es) ≡ Some d
  first-from inj d c a b [] n e = absurd (none-some c e)
  first-from inj d c a b (x ∷ es) n e =
      let r : find (by rank) d es ≡ Some c → first_of (from (by rank) d es) ≡ Some d = first-from inj d c (suc (rank x.0)) b es n.2 in
      let w : rank d < suc (rank x.0) → find (by rank) d es ≡ None = find-below rank d (suc (rank x.0)) b es n.2 in
      let i : rank d ≡ rank x.0 → d ≡ x.0 = inj d x.0 in
      grind arith

  first-set : (inj : (x y : K) → rank x ≡ rank y → x ≡ y) (l k : K) (c : A) (es : List (K × A)) → first_of es ≡ Some l → rank l ≤ rank k
      → first_of (set (by rank) k c es) ≡ Some l
  first-set inj l k c [] e h = absurd (none-some l e)
  first-set inj l k c (x ∷ es) e h =
      let i : x.0 ≡ l = cc in
      let j = ap rank i in
      let g : rank k ≡ rank x.0 → k ≡ x.0 = inj k x.0 in
      grind arith

module _ {K V : Type 0} (rank : K → ℕ) (top : ℕ) (least : K) (ranked : Ranking rank top least) (pair_cost : K × V → ℕ) (kid_cost : K × ℕ → ℕ) where
  abbrev ok : Change K V → ℕ → Image K V → Bool
  ok = suits (by rank) pair_cost kid_cost

  blank-formed : Form rank top (blank {V = V} (by rank) least)
  blank-formed = record
      { spans = ranked.below_top least; foster_below = λ f e. absurd (none-some f e); pairs_ascend = tt; kids_ascend = tt; first_is = λ l e. absurd (omega arith) }

  upper-high : (x : Image K V) → Form rank top x → edge rank top (upper x.frame) ≤ edge rank top x.frame.high
  upper-high x form = go x.frame.foster refl
    where
      go : (o : Option (K × ℕ)) → x.frame.foster ≡ o → edge rank top (upper x.frame) ≤ edge rank top x.frame.high
      go None e = grind arith
      go (Some f) e = let t = form.foster_below f e in grind arith

  -- a dividing key is above the low fence, and an entry of a branch
  record Cut (d : K) (x : Image K V) : Type 0 where
    above : rank x.frame.low < rank d
    below_is : rank d < edge rank top (upper x.frame)
    entry : (l : ℕ) → x.frame.level ≡ suc l → (c : ℕ) × (find (by rank) d x.frame.kids ≡ Some c)

  cut : (d : K) (x : Image K V) → Form rank top x → in_bounds (by rank) d x.frame ≡ true → divides_page (by rank) pair_cost kid_cost d x.frame.level x ≡ true → Cut d x
  cut d x form i t = go x.frame.level refl t
    where
      go : (l : ℕ) → x.frame.level ≡ l → divides_page (by rank) pair_cost kid_cost d l x ≡ true → Cut d x
      go zero e s = record {
        above = (inner rank d _ _ x.pairs form.pairs_ascend s).above;
        below_is = (bounded rank top least ranked x.frame d i).1;
        entry = λ l j. absurd (omega arith);
      }
      go (suc l) e s =
          let n = inner rank d _ _ x.frame.kids form.kids_ascend s in
          record { above = n.above; below_is = (bounded rank top least ranked x.frame d i).1; entry = λ _ _. (n.value, n.entry) }

  ceded : (k : K) (c : ℕ) (x : Image K V) → Form rank top x → is_foster (by rank) k c x.frame.foster ≡ true → Form rank top (ceding_image (by rank) least k x)
  ceded k c x form t = record {
    spans = subst (λ n. rank x.frame.low < n) same form.spans;
    foster_below = λ f e. absurd (none-some f e);
    pairs_ascend = subst (λ n. Ascends rank (rank x.frame.low) x.pairs n) same form.pairs_ascend;
    kids_ascend = subst (λ n. Ascends rank (rank x.frame.low) x.frame.kids n) same form.kids_ascend;
    first_is = form.first_is;
  }
    where
      go : (o : Option (K × ℕ)) → is_foster (by rank) k c o ≡ true → edge rank top (upper_of o x.frame.high) ≡ rank k
      go None e = let z : ◌≡◌ {A = ℕ} 0 1 = cc in absurd (omega arith)
      go (Some f) e = let h = (and_parts (compare_is_eq (by rank k f.0)) (eqb c f.1) e).0 in grind arith

      same : edge rank top (upper x.frame) ≡ rank k
      same = go x.frame.foster t

  gained : (k : K) (c : ℕ) (x : Image K V) → Form rank top x → (l : ℕ) → x.frame.level ≡ l → adopts (by rank) pair_cost kid_cost k c l x ≡ true
      → Form rank top (gaining_image (by rank) least k c x)
  gained k c x form zero i t = let z : ◌≡◌ {A = ℕ} 0 1 = cc in absurd (omega arith)
  gained k c x form (suc l) i t =
      let h = bounded rank top least ranked x.frame k (and_parts (in_bounds (by rank) k x.frame) _ t).0 in
      record {
        spans = form.spans;
        foster_below = form.foster_below;
        pairs_ascend = form.pairs_ascend;
        kids_ascend = set-ascends rank _ _ k c x.frame.kids form.kids_ascend h.0 h.1;
        first_is = λ m e. first-set rank ranked.one x.frame.low k c x.frame.kids (form.first_is m e) h.0;
      }

  made-formed : (c : Change K V) (p : ℕ) (x : Image K V) → ok c p x ≡ true → Form rank top x → Form rank top (make (by rank) least c p x)
  made-formed Format p x t form = blank-formed
  made-formed (Put q k v) p x t form =
      let i = bounded rank top least ranked x.frame k (and_parts (in_bounds (by rank) k x.frame) _ (and_parts (eqb x.frame.level 0) _ t).1).0 in
      record {
        spans = form.spans;
        foster_below = form.foster_below;
        pairs_ascend = set-ascends rank _ _ k v x.pairs form.pairs_ascend i.0 i.1;
        kids_ascend = form.kids_ascend;
        first_is = form.first_is;
      }
  made-formed (Remove q k) p x t form = record {
    spans = form.spans;
    foster_below = form.foster_below;
    pairs_ascend = without-ascends rank _ _ k x.pairs form.pairs_ascend;
    kids_ascend = form.kids_ascend;
    first_is = form.first_is;
  }
  made-formed (Foster q o d) p x t form =
      let h = and_parts (in_bounds (by rank) d x.frame) _ t in
      let n = cut d x form h.0 h.1 in
      cond_both (eqb p o) (upper_image (by rank) least d x) (lower_image (by rank) least d o x) (Form rank top)
      (λ _. record {
        spans = n.below_is;
        foster_below = form.foster_below;
        pairs_ascend = from-ascends rank _ _ d x.pairs form.pairs_ascend;
        kids_ascend = from-ascends rank _ _ d x.frame.kids form.kids_ascend;
        first_is = λ l e. let c = n.entry l e in first-from rank ranked.one d c.0 _ _ x.frame.kids form.kids_ascend c.1;
      })
      (λ _. record {
        spans = n.above;
        foster_below = λ f e. let u : d ≡ f.0 = ap (λ w. elim w [ None ↦ d | Some z ↦ z.0 ]) e in omega (arith, ap rank u, n.below_is, upper-high x form);
        pairs_ascend = upto-ascends rank _ _ d x.pairs form.pairs_ascend;
        kids_ascend = upto-ascends rank _ _ d x.frame.kids form.kids_ascend;
        first_is = λ l e. first-upto rank x.frame.low d x.frame.kids (form.first_is l e) n.above;
      })
  made-formed (Adopt q o k c) p x t form = cond_both (eqb p o) (ceding_image (by rank) least k x) (gaining_image (by rank) least k c x) (Form rank top)
      (λ e. ceded k c x form (sym (ap (λ b. cond b (is_foster (by rank) k c x.frame.foster) (adopts (by rank) pair_cost kid_cost k c x.frame.level x)) e) ∙ t))
      (λ e. gained k c x form x.frame.level refl (sym (ap (λ b. cond b (is_foster (by rank) k c x.frame.foster) (adopts (by rank) pair_cost kid_cost k c x.frame.level x)) e) ∙ t))
  made-formed (Grow o) p x t form = cond_both (eqb p 0) _ x (Form rank top)
      (λ _. record {
        spans = ranked.below_top least;
        foster_below = λ f e. absurd (none-some f e);
        pairs_ascend = tt;
        kids_ascend = (omega arith, ranked.below_top least, tt);
        first_is = λ l e. refl;
      })
      (λ _. form)

  fresh-formed : (c : Change K V) (a b p : ℕ) → source_of c a b p ≡ Fresh → Form rank top (make (by rank) least c p (blank (by rank) least))
  fresh-formed Format a b p e = blank-formed
  fresh-formed (Put q k v) a b p e = absurd (grind arith)
  fresh-formed (Remove q k) a b p e = absurd (grind arith)
  fresh-formed (Foster q o d) a b p e = absurd (grind arith)
  fresh-formed (Adopt q o k c) a b p e = absurd (grind arith)
  fresh-formed (Grow o) a b p e = absurd (grind arith)

  done-is : (y x : Image K V) → Done y ≡ Done x → y ≡ x
  done-is y x e = cc

  lost-done : (n : ℕ) (x : Image K V) → Lost n ≡ Done x → ⊥
  lost-done n x e = let z : ◌≡◌ {A = ℕ} 0 1 = cc in omega arith

  misfit-done : (n : ℕ) (x : Image K V) → Misfit n ≡ Done x → ⊥
  misfit-done n x e = let z : ◌≡◌ {A = ℕ} 0 1 = cc in omega arith

  pub built_formed : (read : ℕ → Option (Rec K V)) (f p n : ℕ) (x : Image K V) → rebuild (by rank) least ok read f p n ≡ Done x → Form rank top x
  built_formed read zero p n x e = absurd (misfit-done n x e)
  built_formed read (suc f) p n x e = slot (read n) e (built_formed read f)
    where
      made_of : (c : Change K V) (b : Built K V) → ((y : Image K V) → b ≡ Done y → Form rank top y)
          → then_make n (ok c p) (make (by rank) least c p) b ≡ Done x → Form rank top x
      made_of c (Done y) ih i = suited (ok c p y) refl i
        where
          suited : (t : Bool) → ok c p y ≡ t → cond t (Done (make (by rank) least c p y)) (Misfit n) ≡ Done x → Form rank top x
          suited true j i = subst (Form rank top) (done-is (make (by rank) least c p y) x i) (made-formed c p y j (ih y refl))
          suited false j i = absurd (misfit-done n x i)
      made_of c (Lost m) ih i = absurd (lost-done m x i)
      made_of c (Misfit m) ih i = absurd (misfit-done m x i)

      from-source : (r : Rec K V) (w : Source) → source r p ≡ w → at_source (by rank) least ok r.change p n (rebuild (by rank) least ok read f) w ≡ Done x
          → ((q m : ℕ) (y : Image K V) → rebuild (by rank) least ok read f q m ≡ Done y → Form rank top y) → Form rank top x
      from-source r Out j i ih = absurd (misfit-done n x i)
      from-source r Fresh j i ih = subst (Form rank top) (done-is (make (by rank) least r.change p (blank (by rank) least)) x i) (fresh-formed r.change r.prev r.prev_other p j)
      from-source r (Earlier q m) j i ih = go (ltb m n) i
        where
          go : (t : Bool) → cond t (then_make n (ok r.change p) (make (by rank) least r.change p) (rebuild (by rank) least ok read f q m)) (Misfit n) ≡ Done x → Form rank top x
          go true i = made_of r.change (rebuild (by rank) least ok read f q m) (ih q m) i
          go false i = absurd (misfit-done n x i)

      slot : (o : Option (Rec K V)) → at_slot (by rank) least ok p n (rebuild (by rank) least ok read f) o ≡ Done x
          → ((q m : ℕ) (y : Image K V) → rebuild (by rank) least ok read f q m ≡ Done y → Form rank top y) → Form rank top x
      slot None i ih = absurd (lost-done n x i)
      slot (Some r) i ih = from-source r (source r p) refl i ih
