-- A shaped image's content is ordered, by any order that its ranks tell.
use Rattle.std.proofs.Common.{◌≡◌, ℕ, zero, suc, ◌<◌, ◌≤◌, true, ◌&&◌, List, [], ◌∷◌, Some, None, Option, Ordering, Less, Equal, Greater, refl, ap, ◌∙◌, arith}
use Prim.Native.Nat.{compare}
use Rattle.std.specs.Ordering.{is_eq, is_lt, is_le}
use Rattle.std.proofs.lemmas.Bool.{and_from}
use Rattle.order.specs.Fences.{Bound, is_below}
use Rattle.order.specs.Lawful.{Says}
use Rattle.page.specs.Content.{entry_key}
use Rattle.page.specs.Content as page
use Rattle.page.specs.Form.{is_between, are_fences, is_rising, is_first, are_keys, is_ordered}
use Rattle.tree.specs.Rows.{Ascends}
use Rattle.tree.specs.Tree.{Image, edge, upper, upper_of}
use Rattle.tree.specs.Suits.{first_of}
use Rattle.images.specs.Keys.{Key, Value, number}
use Rattle.images.specs.Images.{bound_of, foster_of, leaves, branches, entries_of, content_of}
use Rattle.images.specs.Laws.{Ranked, Shaped}

lt-told : (o : Ordering) (a b : ℕ) → number o ≡ compare a b → a < b → is_lt o ≡ true
lt-told Less a b e h = refl
lt-told Equal a b e h = grind arith
lt-told Greater a b e h = grind arith

le-told : (o : Ordering) (a b : ℕ) → number o ≡ compare a b → a ≤ b → is_le o ≡ true
le-told Less a b e h = refl
le-told Equal a b e h = refl
le-told Greater a b e h = grind arith

eq-told : (o : Ordering) (a b : ℕ) → number o ≡ compare a b → a ≡ b → is_eq o ≡ true
eq-told Less a b e h = grind arith
eq-told Equal a b e h = refl
eq-told Greater a b e h = grind arith

upper_is : (high : Option Key) (f : Option (Key × ℕ)) → page.upper_of (bound_of high) (foster_of f) ≡ bound_of (upper_of f high)
unfolding page.upper_of
upper_is high None = refl
upper_is high (Some f) = refl

module _ (says : Says) (r : Ranked says) where
  less : (j k : Key) → r.rank j < r.rank k → is_lt (says j.bytes k.bytes) ≡ true
  less j k h = lt-told (says j.bytes k.bytes) (r.rank j) (r.rank k) (λ i. r.told i j k) h

  at_most : (j k : Key) → r.rank j ≤ r.rank k → is_le (says j.bytes k.bytes) ≡ true
  at_most j k h = le-told (says j.bytes k.bytes) (r.rank j) (r.rank k) (λ i. r.told i j k) h

  equal : (j k : Key) → r.rank j ≡ r.rank k → is_eq (says j.bytes k.bytes) ≡ true
  equal j k h = eq-told (says j.bytes k.bytes) (r.rank j) (r.rank k) (λ i. r.told i j k) h

  below : (j : Key) (u : Option Key) → r.rank j < edge r.rank r.top u → is_below says j.bytes (bound_of u) ≡ true
  below j None h = refl
  below j (Some k) h = less j k h

  between : (low : Key) (high : Option Key) (f : Option (Key × ℕ)) → r.rank low < edge r.rank r.top (upper_of f high)
      → ((g : Key × ℕ) → f ≡ Some g → r.rank g.0 < edge r.rank r.top high)
      → (is_below says low.bytes (bound_of high) && is_between says low.bytes (bound_of high) (foster_of f)) ≡ true
  unfolding is_between
  between low high None h g = and_from _ _ (below low high h) refl
  between low high (Some f) h g =
      let t = g f refl in
      and_from _ _ (below low high (omega arith)) (and_from _ _ (less low f.0 h) (below f.0 high t))

  leaves_rise : (j : Key) (u : Option Key) (es : List (Key × Value)) → r.rank j < edge r.rank r.top u
      → Ascends r.rank (suc (r.rank j)) es (edge r.rank r.top u) → is_rising says (bound_of u) j.bytes (leaves es) ≡ true
  unfolding is_rising leaves entry_key
  leaves_rise j u [] h a = below j u h
  leaves_rise j u (e ∷ es) h a = and_from _ _ (less j e.0 a.0) (leaves_rise e.0 u es a.1 a.2)

  branches_rise : (j : Key) (u : Option Key) (es : List (Key × ℕ)) → r.rank j < edge r.rank r.top u
      → Ascends r.rank (suc (r.rank j)) es (edge r.rank r.top u) → is_rising says (bound_of u) j.bytes (branches es) ≡ true
  unfolding is_rising branches entry_key
  branches_rise j u [] h a = below j u h
  branches_rise j u (e ∷ es) h a = and_from _ _ (less j e.0 a.0) (branches_rise e.0 u es a.1 a.2)

  leaf-keys : (low : Key) (u : Option Key) (es : List (Key × Value)) → r.rank low < edge r.rank r.top u
      → Ascends r.rank (r.rank low) es (edge r.rank r.top u) → are_keys says 0 (bound_of u) low.bytes (leaves es) ≡ true
  unfolding are_keys is_first leaves entry_key
  leaf-keys low u [] h a = below low u h
  leaf-keys low u (e ∷ es) h a = and_from _ _ (at_most low e.0 a.0) (leaves_rise e.0 u es a.1 a.2)

  branch-keys : (l : ℕ) (low : Key) (u : Option Key) (es : List (Key × ℕ)) → r.rank low < edge r.rank r.top u
      → Ascends r.rank (r.rank low) es (edge r.rank r.top u) → first_of es ≡ Some low
      → are_keys says (suc l) (bound_of u) low.bytes (branches es) ≡ true
  unfolding are_keys is_first branches entry_key
  branch-keys l low u [] h a f = below low u h
  branch-keys l low u (e ∷ es) h a f =
      let z : low ≡ e.0 = cc in
      and_from _ _ (equal low e.0 (ap r.rank z)) (branches_rise e.0 u es a.1 a.2)

  module _ (p : ℕ) (x : Image Key Value) (h : Shaped r.rank r.top p x) where
    keys_pass : (l : ℕ) → x.frame.level ≡ l → are_keys says l (bound_of (upper x.frame)) x.frame.low.bytes (entries_of l x) ≡ true
    keys_pass zero e = leaf-keys x.frame.low (upper x.frame) x.pairs h.form.spans h.form.pairs_ascend
    keys_pass (suc l) e = branch-keys l x.frame.low (upper x.frame) x.frame.kids h.form.spans h.form.kids_ascend (h.form.first_is l e)

    pub has_order : (n : ℕ) → is_ordered says (content_of p n x) ≡ true
    unfolding is_ordered are_fences page.upper content_of
    has_order n =
        and_from _ _ (between x.frame.low x.frame.high x.frame.foster h.form.spans h.form.foster_below)
        (ap (λ (u : Bound). are_keys says x.frame.level u x.frame.low.bytes (entries_of x.frame.level x)) (upper_is x.frame.high x.frame.foster)
        ∙ keys_pass x.frame.level refl)
