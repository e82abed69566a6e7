-- What a page that passes tells, whatever its bytes: its image is well formed, and one that was written is read back or does not pass.
use Rattle.std.proofs.Common.{◌≡◌, ℕ, zero, suc, ◌^◌, ◌<◌, ◌≤◌, Bool, true, false, cond, ◌&&◌, eqb, ◌⊎◌, List, [], ◌∷◌, length, Some, None, Option, Ordering, Less, Equal, Greater, sym, refl, ap, ◌∙◌, subst, inl, inr, arith}
use Prim.Native.Nat.{compare}
use Rattle.std.specs.Ordering.{is_eq, is_lt}
use Rattle.std.proofs.lemmas.Bool.{and_parts, eqb-true}
use Rattle.field.specs.Fields.{word}
use Rattle.seal.specs.Seal.{is_sealed}
use Rattle.order.specs.Fences.{Bound, is_below}
use Rattle.order.specs.Lawful.{Says}
use Rattle.ranks.specs.Lists.{All}
use Rattle.page.specs.Content as page
use Rattle.page.specs.Content.{Content, Entry, entry_key, foster_key, foster_child, costs}
use Rattle.page.specs.Content.{Foster as Fostered}
use Rattle.page.specs.Content.Entry.{leaf, branch}
use Rattle.page.specs.Image as page-image
use Rattle.page.specs.Image.{header, page_body, encode_page, parse_page}
use Rattle.page.specs.Form.{is_between, are_fences, is_rising, is_first, are_keys, is_ordered, is_laid, is_sound, decode_page}
use Rattle.page.specs.Laws.{AllKinded}
use Rattle.page.proofs.Standing.{Short}
use Rattle.page.proofs.Pages.{Fit, parse-encode}
use Rattle.page.proofs.Parsed.{foster-some}
use Rattle.device.specs.Disk.{Page, holds, unreadable}
use Rattle.tree.specs.Rows.{Ascends}
use Rattle.tree.specs.Tree.{Image, edge, upper_of}
use Rattle.tree.specs.Walk.{Formed}
use Rattle.tree.specs.Worlds.{passes}
use Rattle.tree.proofs.Upd.{none-some}
use Rattle.images.specs.Keys.{Key, Value, number, fence_of}
use Rattle.images.specs.Images.{bound_of, foster_of, branches, entries_of, content_of, encode_image, bound_in, foster_in, pairs_in, kids_in, entries_in, image_in, stored_as, stored_in, stored_page}
use Rattle.images.specs.Laws.{Ranked}
use Rattle.images.proofs.Strings.{key_length, opt-some, opt-parts, fence_back, fence_bytes}
use Rattle.images.proofs.Formed.{leaves-cost, branches-cost, leaves-kinded, bound_back, foster_back, pairs_back, kids_back}
use Rattle.endings.proofs.Sturdy.{Sturdy}

-- what a page that passes has passed
pub record Passed (says : Says) (p n : ℕ) (b : List ℕ) (x : Image Key Value) : Type 0 where
  pub own : word b 0 ≡ p
  pub at : word b 4 ≡ n
  pub ordered : is_ordered says (parse_page b) ≡ true
  pub image : image_in (parse_page b) ≡ Some x

held : (n m : ℕ) (o : Option (Image Key Value)) (x : Image Key Value) → passes n (stored_as m o) ≡ Some x → (m ≡ n) × (o ≡ Some x)
unfolding stored_as
held n m None x e = absurd (none-some x e)
held n m (Some y) x e = go (eqb m n) refl e
  where
    go : (t : Bool) → eqb m n ≡ t → cond t (Some y) None ≡ Some x → (m ≡ n) × (Some y ≡ Some x)
    go true i j = (eqb-true m n i, j)
    go false i j = absurd (none-some x j)

parts : (n : ℕ) (s o f : Bool) (c : Content) (x : Image Key Value) → passes n (cond s (cond o (stored_in (cond f (Some c) None)) None) None) ≡ Some x
    → (o ≡ true) × (f ≡ true) × (c.lsn ≡ n) × (image_in c ≡ Some x)
unfolding stored_in
parts n true true true c x e = let h = held n c.lsn (image_in c) x e in (refl, refl, h.0, h.1)
parts n true true false c x e = absurd (none-some x e)
parts n true false f c x e = absurd (none-some x e)
parts n false o f c x e = absurd (none-some x e)

pub passed : (says : Says) (p n : ℕ) (b : List ℕ) (x : Image Key Value) → passes n (stored_page says p (holds b)) ≡ Some x → Passed says p n b x
unfolding stored_page decode_page is_sound parse_page
passed says p n b x e =
    let h = parts n (is_sealed b) (eqb (word b 0) p) (is_sound says b) (parse_page b) x e in
    record { own = eqb-true (word b 0) p h.0; at = h.2; ordered = (and_parts (is_laid b) (is_ordered says (parse_page b)) h.1).1; image = h.3 }

-- Well formed.

lt_back : (o : Ordering) (a b : ℕ) → number o ≡ compare a b → is_lt o ≡ true → a < b
lt_back Less a b e h = grind arith
lt_back Equal a b e h = let z : ◌≡◌ {A = ℕ} 0 1 = cc in absurd (omega arith)
lt_back Greater a b e h = let z : ◌≡◌ {A = ℕ} 0 1 = cc in absurd (omega arith)

eq_back : (o : Ordering) (a b : ℕ) → number o ≡ compare a b → is_eq o ≡ true → a ≡ b
eq_back Less a b e h = let z : ◌≡◌ {A = ℕ} 0 1 = cc in absurd (omega arith)
eq_back Equal a b e h = grind arith
eq_back Greater a b e h = let z : ◌≡◌ {A = ℕ} 0 1 = cc in absurd (omega arith)

upper_is : (high : Option Key) (f : Option (Key × ℕ)) → page.upper_of (bound_of high) (foster_of f) ≡ bound_of (upper_of f high)
unfolding page.upper_of
upper_is high None = refl
upper_is high (Some f) = refl

bound-told : (h : Bound) (u : Option Key) → bound_in h ≡ Some u → bound_of u ≡ h
unfolding bound_in
bound-told None u e = let z : None ≡ u = cc in ap bound_of (sym z)
bound-told (Some s) u e =
    let x = opt-parts (fence_of s) _ u e in
    let i = x.2 in
    let z : Some x.0 ≡ u = cc in
    ap bound_of (sym z) ∙ ap {B = Bound} (λ (t : List ℕ). Some t) (fence_bytes s x.0 x.1)

foster-told : (f : Option Fostered) (u : Option (Key × ℕ)) → foster_in f ≡ Some u → foster_of u ≡ f
unfolding foster_in
foster-told None u e = let z : None ≡ u = cc in ap foster_of (sym z)
foster-told (Some f) u e =
    let x = opt-parts (fence_of f.key) _ u e in
    let i = x.2 in
    let z : Some (x.0, f.child) ≡ u = cc in
    ap foster_of (sym z) ∙ ap {B = Option Fostered} (λ (t : List ℕ). Some (record { key = t; child = f.child })) (fence_bytes f.key x.0 x.1)

kids-told : (es : List Entry) (ks : List (Key × ℕ)) → kids_in es ≡ Some ks → branches ks ≡ es
unfolding kids_in branches
kids-told [] ks e = let z : [] ≡ ks = cc in ap branches (sym z)
kids-told (leaf k v ∷ es) ks e = absurd (none-some ks e)
kids-told (branch k c ∷ es) ks e =
    let x = opt-parts (fence_of k) _ ks e in
    let y = opt-parts (kids_in es) _ ks x.2 in
    let i = y.2 in
    let z : ((x.0, c) ∷ y.0) ≡ ks = cc in
    let k-is = fence_bytes k x.0 x.1 in
    let es-is = kids-told es y.0 y.1 in
    ap branches (sym z) ∙ (λ i. branch (k-is i) c ∷ es-is i)

module _ (says : Says) (r : Ranked says) where
  less_back : (j k : Key) → is_lt (says j.bytes k.bytes) ≡ true → r.rank j < r.rank k
  less_back j k h = lt_back (says j.bytes k.bytes) (r.rank j) (r.rank k) (λ i. r.told i j k) h

  below_back : (j : Key) (u : Option Key) → is_below says j.bytes (bound_of u) ≡ true → r.rank j < edge r.rank r.top u
  below_back j None h = r.ranking.below_top j
  below_back j (Some k) h = less_back j k h

  foster_up : (low : Key) (h : Bound) (g : Option (Key × ℕ)) → is_between says low.bytes h (foster_of g) ≡ true
      → (f : Key × ℕ) → g ≡ Some f → r.rank low < r.rank f.0
  unfolding is_between
  foster_up low h None t f e = absurd (none-some f e)
  foster_up low h (Some g) t f e =
      let z : g ≡ f = cc in
      subst (λ (i : Key × ℕ). r.rank low < r.rank i.0) z (less_back low g.0 (and_parts (is_lt (says low.bytes g.0.bytes)) _ t).0)

  rises-below : (u : Option Key) (j : Key) (ks : List (Key × ℕ)) → is_rising says (bound_of u) j.bytes (branches ks) ≡ true
      → r.rank j < edge r.rank r.top u
  unfolding is_rising branches entry_key
  rises-below u j [] t = below_back j u t
  rises-below u j (e ∷ es) t =
      let h = and_parts (is_lt (says j.bytes e.0.bytes)) (is_rising says (bound_of u) e.0.bytes (branches es)) t in
      omega (arith, less_back j e.0 h.0, rises-below u e.0 es h.1)

  rises : (u : Option Key) (j : Key) (ks : List (Key × ℕ)) → is_rising says (bound_of u) j.bytes (branches ks) ≡ true
      → Ascends r.rank (suc (r.rank j)) ks (edge r.rank r.top u)
  unfolding is_rising branches entry_key
  rises u j [] t = tt
  rises u j (e ∷ es) t =
      let h = and_parts (is_lt (says j.bytes e.0.bytes)) (is_rising says (bound_of u) e.0.bytes (branches es)) t in
      (less_back j e.0 h.0, rises-below u e.0 es h.1, rises u e.0 es h.1)

  keys_ascend : (l : ℕ) (u : Option Key) (low : Key) (ks : List (Key × ℕ)) → are_keys says (suc l) (bound_of u) low.bytes (branches ks) ≡ true
      → Ascends r.rank (r.rank low) ks (edge r.rank r.top u)
  unfolding are_keys is_first branches entry_key
  keys_ascend l u low [] t = tt
  keys_ascend l u low (e ∷ es) t =
      let h = and_parts (is_eq (says low.bytes e.0.bytes)) (is_rising says (bound_of u) e.0.bytes (branches es)) t in
      let i = eq_back (says low.bytes e.0.bytes) (r.rank low) (r.rank e.0) (λ i. r.told i low e.0) h.0 in
      (omega arith, rises-below u e.0 es h.1, rises u e.0 es h.1)

  entries_ascend : (l : ℕ) (u : Option Key) (low : Key) (es : List Entry) (y : List (Key × ℕ) × List (Key × Value)) → entries_in l es ≡ Some y
      → are_keys says l (bound_of u) low.bytes es ≡ true → Ascends r.rank (r.rank low) y.0 (edge r.rank r.top u)
  unfolding entries_in
  entries_ascend zero u low es y e t =
      let x = opt-parts (pairs_in es) _ y e in
      let i = x.2 in
      let z : ◌≡◌ {A = List (Key × ℕ) × List (Key × Value)} ([], x.0) y = cc in
      subst (λ (i : List (Key × ℕ) × List (Key × Value)). Ascends r.rank (r.rank low) i.0 (edge r.rank r.top u)) z tt
  entries_ascend (suc l) u low es y e t =
      let x = opt-parts (kids_in es) _ y e in
      let i = x.2 in
      let z : ◌≡◌ {A = List (Key × ℕ) × List (Key × Value)} (x.0, []) y = cc in
      subst (λ (i : List (Key × ℕ) × List (Key × Value)). Ascends r.rank (r.rank low) i.0 (edge r.rank r.top u)) z
      (keys_ascend l u low x.0 (ap (are_keys says (suc l) (bound_of u) low.bytes) (kids-told es x.0 x.1) ∙ t))

  ordered-formed : (c : Content) (x : Image Key Value) → is_ordered says c ≡ true → image_in c ≡ Some x → Formed r.rank r.top x
  unfolding is_ordered are_fences page.upper image_in
  ordered-formed c x o e =
      let low = opt-parts (fence_of c.low) _ x e in
      let high = opt-parts (bound_in c.high) _ x low.2 in
      let foster = opt-parts (foster_in c.foster) _ x high.2 in
      let es = opt-parts (entries_in c.level c.entries) _ x foster.2 in
      let low_is = fence_bytes c.low low.0 low.1 in
      let high_is = bound-told c.high high.0 high.1 in
      let foster-is = foster-told c.foster foster.0 foster.1 in
      let h = and_parts (is_below says c.low c.high && is_between says c.low c.high c.foster) _ o in
      let between = (and_parts (is_below says c.low c.high) (is_between says c.low c.high c.foster) h.0).1 in
      let fenced : is_between says low.0.bytes (bound_of high.0) (foster_of foster.0) ≡ true =
      (λ i. is_between says (low_is i) (high_is i) (foster-is i)) ∙ between in
      let keys : are_keys says c.level (bound_of (upper_of foster.0 high.0)) low.0.bytes c.entries ≡ true =
      ap (λ (u : Bound). are_keys says c.level u low.0.bytes c.entries) (sym (upper_is high.0 foster.0))
      ∙ (λ i. are_keys says c.level (page.upper_of (high_is i) (foster-is i)) (low_is i) c.entries) ∙ h.1 in
      let y : Image Key Value = record { frame = record { level = c.level; low = low.0; high = high.0; foster = foster.0; kids = es.0.0 }; pairs = es.0.1 } in
      let i : ◌≡◌ {A = Option (Image Key Value)} (Some y) (Some x) = es.2 in
      let z : y ≡ x = cc in
      let formed : Formed r.rank r.top y = record {
        foster_above = foster_up low.0 (bound_of high.0) foster.0 fenced;
        ascends = entries_ascend c.level (upper_of foster.0 high.0) low.0 c.entries es.0 es.1 keys;
      } in
      subst (λ (i : Image Key Value). Formed r.rank r.top i) z formed

  -- whatever the bytes
  pub passed-formed : (p n : ℕ) (q : Page) (x : Image Key Value) → passes n (stored_page says p q) ≡ Some x → Formed r.rank r.top x
  unfolding stored_page
  passed-formed p n unreadable x e = absurd (none-some x e)
  passed-formed p n (holds b) x e = let h = passed says p n b x e in ordered-formed (parse_page b) x h.ordered h.image

-- Written and read back.

-- the numbers at the head of an image have 32 bits
head-fits : (c : Content) → (word (encode_page c) 0 < 2 ^ 32) × (word (encode_page c) 4 < 2 ^ 32)
unfolding encode_page page_body header word
head-fits c = (omega arith, omega arith)

bound-short : (h : Option Key) → Short (bound_of h)
bound-short None = tt
bound-short (Some k) = key_length k

foster-fits : (f : Option (Key × ℕ)) → ((g : Key × ℕ) → f ≡ Some g → (g.1 ≡ 0 → ⊥) × (g.1 < 2 ^ 32))
    → (foster_child (foster_of f) < 2 ^ 32) × (page-image.foster_of (foster_key (foster_of f)) (foster_child (foster_of f)) ≡ foster_of f) × (length (foster_key (foster_of f)) ≤ 16)
unfolding foster_child foster_key page-image.foster_of
foster-fits None h = (omega arith, refl, omega arith)
foster-fits (Some f) h = let t = h f refl in (t.1, foster-some f.0.bytes f.1 t.0, key_length f.0)

branches-kinded : (l : ℕ) (es : List (Key × ℕ)) → All (λ (e : Key × ℕ). e.1 < 2 ^ 32) es → AllKinded (suc l) (branches es)
unfolding branches
branches-kinded l [] h = tt
branches-kinded l (e ∷ es) h = (h.0, branches-kinded l es h.1)

module _ (x : Image Key Value) (h : Sturdy x) where
  kinded : (l : ℕ) → AllKinded l (entries_of l x)
  kinded zero = leaves-kinded x.pairs
  kinded (suc l) = branches-kinded l x.frame.kids h.kids

  room : (l : ℕ) → costs (entries_of l x) ≤ 436
  room zero = omega (arith, leaves-cost x.pairs, h.pairs_room)
  room (suc l) = omega (arith, branches-cost x.frame.kids, h.kids_room)

  fits : (p n : ℕ) → p < 2 ^ 32 → n < 2 ^ 32 → Fit (content_of p n x)
  unfolding content_of
  fits p n hp hn =
      let f = foster-fits x.frame.foster h.fosters in
      record {
        number = hp;
        lsn = hn;
        child = f.0;
        foster = f.1;
        low = key_length x.frame.low;
        high = bound-short x.frame.high;
        fkey = f.2;
        kinded = kinded x.frame.level;
        room = room x.frame.level;
      }

  entries_back : (l : ℕ) → x.frame.level ≡ l → entries_in l (entries_of l x) ≡ Some (x.frame.kids, x.pairs)
  unfolding entries_in
  entries_back zero e =
      opt-some _ x.pairs _ _ (pairs_back x.pairs h.named)
      (ap {B = Option (List (Key × ℕ) × List (Key × Value))} (λ (y : List (Key × ℕ)). Some (y, x.pairs)) (sym (h.leaf_kids e)))
  entries_back (suc l) e =
      opt-some _ x.frame.kids _ _ (kids_back x.frame.kids)
      (ap {B = Option (List (Key × ℕ) × List (Key × Value))} (λ (y : List (Key × Value)). Some (x.frame.kids, y)) (sym (h.branch_pairs l e)))

  image_back : (p n : ℕ) → image_in (content_of p n x) ≡ Some x
  unfolding image_in content_of
  image_back p n =
      opt-some _ x.frame.low _ _ (fence_back x.frame.low)
      (opt-some _ x.frame.high _ _ (bound_back x.frame.high)
      (opt-some _ x.frame.foster _ _ (foster_back x.frame.foster)
      (opt-some _ (x.frame.kids, x.pairs) _ _ (entries_back x.frame.level refl) refl)))

  same-image : (says : Says) (p n : ℕ) (y : Image Key Value) → Passed says p n (encode_image p n x) y → y ≡ x
  unfolding encode_image
  same-image says p n y t =
      let own = t.own in
      let at = t.at in
      let w = head-fits (content_of p n x) in
      let back = parse-encode (content_of p n x) (fits p n (omega arith) (omega arith)) in
      let e : Some y ≡ Some x = sym t.image ∙ ap image_in back ∙ image_back p n in
      cc

  -- an image that was written passes as what it was, or does not pass
  pub reads_back : (says : Says) (p n : ℕ) → (passes n (stored_page says p (holds (encode_image p n x))) ≡ None)
      ⊎ (passes n (stored_page says p (holds (encode_image p n x))) ≡ Some x)
  reads_back says p n = go (passes n (stored_page says p (holds (encode_image p n x)))) refl
    where
      go : (o : Option (Image Key Value)) → passes n (stored_page says p (holds (encode_image p n x))) ≡ o → (o ≡ None) ⊎ (o ≡ Some x)
      go None e = inl refl
      go (Some y) e = inr (ap {B = Option (Image Key Value)} (λ (z : Image Key Value). Some z) (same-image says p n y (passed says p n (encode_image p n x) y e)))
