-- What is made again from a chain can be written and read back, but for numbers that a page may not point to.
use Rattle.std.proofs.Common.{◌≡◌, ℕ, zero, suc, ◌^◌, ◌<◌, ◌≤◌, Bool, true, false, cond, eqb, ltb, [], length, Some, None, Option, sym, refl, ap, ◌∙◌, subst, arith}
use Prim.Native.Nat.{Ordering}
use Rattle.std.proofs.lemmas.Bool.{cond_both, and_parts, leb-true, eqb-true}
use Rattle.ranks.specs.Lists.{All}
use Rattle.tree.specs.Rows.{set, without, upto, from}
use Rattle.tree.specs.Tree.{Image, lower_image, upper_image, gaining_image, ceding_image, risen_image}
use Rattle.tree.specs.Log.{Change, Rec, Source, source, source_of, make, blank, Built, then_make, at_source, at_slot, rebuild}
use Rattle.tree.specs.Log.Change.{Format, Put, Remove, Foster, Adopt, Grow}
use Rattle.tree.specs.Log.Source.{Out, Fresh, Earlier}
use Rattle.tree.specs.Log.Built.{Done, Lost, Misfit}
use Rattle.tree.specs.Halves.{total}
use Rattle.tree.specs.Suits.{in_bounds, is_foster, adopts, suits}
use Rattle.tree.proofs.Upd.{none-some}
use Rattle.images.specs.Keys.{Key, Value, empty_key, pair_cost, kid_cost}
use Rattle.endings.proofs.Rows.{all_set, all_without, all-upto, all_from, without-costs, upto-costs, from-costs}

-- an image that its own page's bytes tell, whatever the page
pub record Sturdy (x : Image Key Value) : Type 0 where
  pub leaf_kids : x.frame.level ≡ 0 → x.frame.kids ≡ []
  pub branch_pairs : (l : ℕ) → x.frame.level ≡ suc l → x.pairs ≡ []
  pub named : All (λ (e : Key × Value). 0 < length e.0.bytes) x.pairs
  pub fosters : (f : Key × ℕ) → x.frame.foster ≡ Some f → (f.1 ≡ 0 → ⊥) × (f.1 < 2 ^ 32)
  pub kids : All (λ (e : Key × ℕ). e.1 < 2 ^ 32) x.frame.kids
  pub pairs_room : total pair_cost x.pairs ≤ 436
  pub kids_room : total kid_cost x.frame.kids ≤ 436

-- a change as records tell it
abbrev pub Plain : Change Key Value → Type 0
Plain Format = Unit {0}
Plain (Put p k v) = 0 < length k.bytes
Plain (Remove p k) = Unit {0}
Plain (Foster p o d) = (o ≡ 0 → ⊥) × (o < 2 ^ 32)
Plain (Adopt p o k c) = c < 2 ^ 32
Plain (Grow o) = o < 2 ^ 32

-- what each change keeps of an image, and a new page has, an image made again has
module _ {K V : Type 0} (cmp : K → K → Ordering) (least : K) (ok : Change K V → ℕ → Image K V → Bool) (Good : Change K V → Type 0) (P : Image K V → Type 0)
    (blank-is : P (blank cmp least)) (made-is : (c : Change K V) (p : ℕ) (x : Image K V) → ok c p x ≡ true → Good c → P x → P (make cmp least c p x))
    (read : ℕ → Option (Rec K V)) (good : (n : ℕ) (r : Rec K V) → read n ≡ Some r → Good r.change) where
  fresh-is : (c : Change K V) (a b p : ℕ) → source_of c a b p ≡ Fresh → P (make cmp least c p (blank cmp least))
  fresh-is Format a b p e = blank-is
  fresh-is (Put q k v) a b p e = absurd (grind arith)
  fresh-is (Remove q k) a b p e = absurd (grind arith)
  fresh-is (Foster q o d) a b p e = absurd (grind arith)
  fresh-is (Adopt q o k c) a b p e = absurd (grind arith)
  fresh-is (Grow o) a b p e = absurd (grind arith)

  done-is : (y x : Image K V) → Done y ≡ Done x → y ≡ x
  done-is y x e = cc

  lost-done : (n : ℕ) (x : Image K V) → Lost n ≡ Done x → ⊥
  lost-done n x e = let z : ◌≡◌ {A = ℕ} 0 1 = cc in omega arith

  misfit-done : (n : ℕ) (x : Image K V) → Misfit n ≡ Done x → ⊥
  misfit-done n x e = let z : ◌≡◌ {A = ℕ} 0 1 = cc in omega arith

  pub built-is : (f p n : ℕ) (x : Image K V) → rebuild cmp least ok read f p n ≡ Done x → P x
  built-is zero p n x e = absurd (misfit-done n x e)
  built-is (suc f) p n x e = slot (read n) refl e (built-is f)
    where
      made_of : (c : Change K V) → Good c → (b : Built K V) → ((y : Image K V) → b ≡ Done y → P y) → then_make n (ok c p) (make cmp least c p) b ≡ Done x → P x
      made_of c g (Done y) ih i = suited (ok c p y) refl i
        where
          suited : (t : Bool) → ok c p y ≡ t → cond t (Done (make cmp least c p y)) (Misfit n) ≡ Done x → P x
          suited true j i = subst P (done-is (make cmp least c p y) x i) (made-is c p y j g (ih y refl))
          suited false j i = absurd (misfit-done n x i)
      made_of c g (Lost m) ih i = absurd (lost-done m x i)
      made_of c g (Misfit m) ih i = absurd (misfit-done m x i)

      from-source : (r : Rec K V) → Good r.change → (w : Source) → source r p ≡ w → at_source cmp least ok r.change p n (rebuild cmp least ok read f) w ≡ Done x
          → ((q m : ℕ) (y : Image K V) → rebuild cmp least ok read f q m ≡ Done y → P y) → P x
      from-source r g Out j i ih = absurd (misfit-done n x i)
      from-source r g Fresh j i ih =
          subst P (done-is (make cmp least r.change p (blank cmp least)) x i) (fresh-is r.change r.prev r.prev_other p j)
      from-source r g (Earlier q m) j i ih = go (ltb m n) i
        where
          go : (t : Bool) → cond t (then_make n (ok r.change p) (make cmp least r.change p) (rebuild cmp least ok read f q m)) (Misfit n) ≡ Done x → P x
          go true i = made_of r.change g (rebuild cmp least ok read f q m) (ih q m) i
          go false i = absurd (misfit-done n x i)

      slot : (o : Option (Rec K V)) → read n ≡ o → at_slot cmp least ok p n (rebuild cmp least ok read f) o ≡ Done x
          → ((q m : ℕ) (y : Image K V) → rebuild cmp least ok read f q m ≡ Done y → P y) → P x
      slot None s i ih = absurd (lost-done n x i)
      slot (Some r) s i ih = from-source r (good n r s) (source r p) refl i ih

module _ (cmp : Key → Key → Ordering) where
  abbrev ok : Change Key Value → ℕ → Image Key Value → Bool
  ok = suits cmp pair_cost kid_cost

  blank_sturdy : Sturdy (blank cmp empty_key)
  blank_sturdy = record {
    leaf_kids = λ e. refl;
    branch_pairs = λ l e. refl;
    named = tt;
    fosters = λ f e. absurd (none-some f e);
    kids = tt;
    pairs_room = omega arith;
    kids_room = omega arith;
  }

  gained : (k : Key) (c : ℕ) (x : Image Key Value) → c < 2 ^ 32 → Sturdy x → (l : ℕ) → x.frame.level ≡ l → adopts cmp pair_cost kid_cost k c l x ≡ true
      → Sturdy (gaining_image cmp empty_key k c x)
  gained k c x h s zero e t = let z : ◌≡◌ {A = ℕ} 0 1 = cc in absurd (omega arith)
  gained k c x h s (suc l) e t = record {
    leaf_kids = λ i. absurd (omega arith);
    branch_pairs = s.branch_pairs;
    named = s.named;
    fosters = s.fosters;
    kids = all_set cmp (λ (i : Key × ℕ). i.1 < 2 ^ 32) k c x.frame.kids h s.kids;
    pairs_room = s.pairs_room;
    kids_room = leb-true (total kid_cost (set cmp k c x.frame.kids)) 436 (and_parts _ _ (and_parts (in_bounds cmp k x.frame) _ t).1).1;
  }

  made_sturdy : (c : Change Key Value) (p : ℕ) (x : Image Key Value) → ok c p x ≡ true → Plain c → Sturdy x → Sturdy (make cmp empty_key c p x)
  made_sturdy Format p x t h s = blank_sturdy
  made_sturdy (Put q k v) p x t h s =
      let a = and_parts (eqb x.frame.level 0) _ t in
      let b = and_parts (in_bounds cmp k x.frame) _ a.1 in
      let leaf = eqb-true x.frame.level 0 a.0 in
      record {
        leaf_kids = s.leaf_kids;
        branch_pairs = λ l e. absurd (omega arith);
        named = all_set cmp (λ (e : Key × Value). 0 < length e.0.bytes) k v x.pairs h s.named;
        fosters = s.fosters;
        kids = s.kids;
        pairs_room = leb-true (total pair_cost (set cmp k v x.pairs)) 436 b.1;
        kids_room = s.kids_room;
      }
  made_sturdy (Remove q k) p x t h s = record {
    leaf_kids = s.leaf_kids;
    branch_pairs = λ l e. ap (without cmp k) (s.branch_pairs l e);
    named = all_without cmp (λ (e : Key × Value). 0 < length e.0.bytes) k x.pairs s.named;
    fosters = s.fosters;
    kids = s.kids;
    pairs_room = omega (arith, s.pairs_room, without-costs cmp pair_cost k x.pairs);
    kids_room = s.kids_room;
  }
  made_sturdy (Foster q o d) p x t h s = cond_both (eqb p o) (upper_image cmp empty_key d x) (lower_image cmp empty_key d o x) Sturdy
      (λ _. record {
        leaf_kids = λ e. ap (from cmp d) (s.leaf_kids e);
        branch_pairs = λ l e. ap (from cmp d) (s.branch_pairs l e);
        named = all_from cmp (λ (e : Key × Value). 0 < length e.0.bytes) d x.pairs s.named;
        fosters = s.fosters;
        kids = all_from cmp (λ (e : Key × ℕ). e.1 < 2 ^ 32) d x.frame.kids s.kids;
        pairs_room = omega (arith, s.pairs_room, from-costs cmp pair_cost d x.pairs);
        kids_room = omega (arith, s.kids_room, from-costs cmp kid_cost d x.frame.kids);
      })
      (λ _. record {
        leaf_kids = λ e. ap (upto cmp d) (s.leaf_kids e);
        branch_pairs = λ l e. ap (upto cmp d) (s.branch_pairs l e);
        named = all-upto cmp (λ (e : Key × Value). 0 < length e.0.bytes) d x.pairs s.named;
        fosters = λ f e. let u : o ≡ f.1 = ap (λ w. elim w [ None ↦ o | Some z ↦ z.1 ]) e in (λ z. h.0 (u ∙ z), omega (arith, u, h.1));
        kids = all-upto cmp (λ (e : Key × ℕ). e.1 < 2 ^ 32) d x.frame.kids s.kids;
        pairs_room = omega (arith, s.pairs_room, upto-costs cmp pair_cost d x.pairs);
        kids_room = omega (arith, s.kids_room, upto-costs cmp kid_cost d x.frame.kids);
      })
  made_sturdy (Adopt q o k c) p x t h s = cond_both (eqb p o) (ceding_image cmp empty_key k x) (gaining_image cmp empty_key k c x) Sturdy
      (λ _. record {
        leaf_kids = s.leaf_kids;
        branch_pairs = s.branch_pairs;
        named = s.named;
        fosters = λ f e. absurd (none-some f e);
        kids = s.kids;
        pairs_room = s.pairs_room;
        kids_room = s.kids_room;
      })
      (λ e. gained k c x h s x.frame.level refl
      (sym (ap (λ b. cond b (is_foster cmp k c x.frame.foster) (adopts cmp pair_cost kid_cost k c x.frame.level x)) e) ∙ t))
  made_sturdy (Grow o) p x t h s = cond_both (eqb p 0) (risen_image cmp empty_key o x) x Sturdy
      (λ _. record {
        leaf_kids = λ e. absurd (omega arith);
        branch_pairs = λ l e. refl;
        named = tt;
        fosters = λ f e. absurd (none-some f e);
        kids = (h, tt);
        pairs_room = omega arith;
        kids_room = omega arith;
      })
      (λ _. s)

  pub built_sturdy : (read : ℕ → Option (Rec Key Value)) → ((n : ℕ) (r : Rec Key Value) → read n ≡ Some r → Plain r.change)
      → (f p n : ℕ) (x : Image Key Value) → rebuild cmp empty_key ok read f p n ≡ Done x → Sturdy x
  built_sturdy read plain f p n x e = built-is cmp empty_key ok Plain Sturdy blank_sturdy made_sturdy read plain f p n x e
