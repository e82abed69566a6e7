use Rattle.std.proofs.Common.{◌≡◌, ℕ, suc, ◌+◌, ◌*◌, ◌<◌, ◌≤◌, true, cond, List, [], ◌∷◌, Some, sym, refl, ap, ◌∙◌, inl, inr, arith}
use Rattle.tree.specs.Rows.{find, upto, from, Ascends, by}
use Rattle.tree.specs.Halves.{total, some, divides_row, first_key, key_after, Cheap, Divides}
use Rattle.tree.proofs.Rows.{upto-none}
use Rattle.std.proofs.lemmas.Bool.{cases_lt, le-leb, lt-leb}

module _ {K A : Type 0} (rank : K → ℕ) (cost : K × A → ℕ) where
  pub parts : (d : K) (es : List (K × A)) → total cost (upto (by rank) d es) + total cost (from (by rank) d es) ≡ total cost es
  parts d [] = refl
  parts d (e ∷ es) = let r = parts d es in grind arith

  upto_cons : (d : K) (e : K × A) (es : List (K × A)) → rank e.0 < rank d → upto (by rank) d (e ∷ es) ≡ e ∷ upto (by rank) d es
  upto_cons d e es h = grind arith

  upto_skip : (d : K) (e : K × A) (es : List (K × A)) → rank d ≤ rank e.0 → upto (by rank) d (e ∷ es) ≡ upto (by rank) d es
  upto_skip d e es h = grind arith

  find_cons : (d : K) (e : K × A) (es : List (K × A)) → rank e.0 < rank d → find (by rank) d (e ∷ es) ≡ find (by rank) d es
  find_cons d e es h = grind arith

  find-here : (e : K × A) (es : List (K × A)) → find (by rank) e.0 (e ∷ es) ≡ Some e.1
  find-here e es = grind arith

  inner-row : (d : K) (v : A) (e : K × A) (es : List (K × A)) → rank e.0 < rank d → find (by rank) d (e ∷ es) ≡ Some v → divides_row (by rank) d (e ∷ es) ≡ true
  inner-row d v e es h g =
      let t : find (by rank) d es ≡ Some v = sym (find_cons d e es h) ∙ g in
      let u = ap some t in
      grind arith

  record Split (t n m : ℕ) (e : K × A) (es : List (K × A)) (b : ℕ) : Type 0 where
    key : K
    value : A
    is : key_after cost t n (e ∷ es) ≡ Some key
    above : rank e.0 < rank key
    below : rank key < b
    entry : find (by rank) key (e ∷ es) ≡ Some value
    enough : t ≤ 2 * (n + total cost (upto (by rank) key (e ∷ es)))
    little : 2 * (n + total cost (upto (by rank) key (e ∷ es))) < t + 2 * m

  split : (t n m : ℕ) (e : K × A) (es : List (K × A)) (a b : ℕ) → Ascends rank a (e ∷ es) b → Cheap cost m (e ∷ es) → n + total cost (e ∷ es) ≡ t
      → 2 * n < t → 2 * m < t → Split t n m e es b
  split t n m e [] a b asc cheap s h g = absurd (omega arith)
  split t n m e (f ∷ es) a b asc cheap s h g = elim (cases_lt (2 * (n + cost e)) t) [
    | inl l ↦
        let r = split t (n + cost e) m f es (suc (rank e.0)) b asc.2 cheap.1 (omega arith) l g in
        let u = lt-leb t (2 * (n + cost e)) l in
        let i = r.is in
        let v = r.entry in
        let x : rank e.0 < rank r.key = omega (arith, r.above, asc.2.0) in
        let y : upto (by rank) r.key (e ∷ f ∷ es) ≡ e ∷ upto (by rank) r.key (f ∷ es) = upto_cons r.key e (f ∷ es) x in
        let z = ap (total cost) y in
        record {
          key = r.key;
          value = r.value;
          is = ap (λ o. cond o (first_key cost (f ∷ es)) (key_after cost t (n + cost e) (f ∷ es))) u ∙ i;
          above = x;
          below = r.below;
          entry = find_cons r.key e (f ∷ es) x ∙ v;
          enough = omega (arith, r.enough);
          little = omega (arith, r.little);
        }
    | inr l ↦
        let u = le-leb t (2 * (n + cost e)) l in
        let x : rank e.0 < rank f.0 = omega (arith, asc.2.0) in
        let w : upto (by rank) f.0 es ≡ [] = upto-none rank f.0 (suc (rank f.0)) b es asc.2.2 (omega arith) in
        let y : upto (by rank) f.0 (e ∷ f ∷ es) ≡ e ∷ [] = upto_cons f.0 e (f ∷ es) x ∙ ap (λ l. e ∷ l) (upto_skip f.0 f es (omega arith) ∙ w) in
        let z = ap (total cost) y in
        record {
          key = f.0;
          value = f.1;
          is = ap (λ o. cond o (first_key cost (f ∷ es)) (key_after cost t (n + cost e) (f ∷ es))) u;
          above = x;
          below = asc.2.1;
          entry = find_cons f.0 e (f ∷ es) x ∙ find-here f es;
          enough = omega arith;
          little = omega (arith, cheap.0);
        }
  ]

  pub divides : (m a b : ℕ) (es : List (K × A)) → Ascends rank a es b → Cheap cost m es → 2 * m < total cost es → Divides rank cost m a b es
  divides m a b [] asc cheap h = absurd (omega arith)
  divides m a b (e ∷ es) asc cheap h =
      let r = split (total cost (e ∷ es)) 0 m e es a b asc cheap (omega arith) (omega arith) h in
      let p = parts r.key (e ∷ es) in
      let q = r.above in
      let t = r.entry in
      record {
        key = r.key;
        value = r.value;
        is = r.is;
        inner = inner-row r.key r.value e es q t;
        above = omega (arith, r.above, asc.0);
        below = r.below;
        entry = r.entry;
        lower = omega (arith, r.little);
        upper = omega (arith, r.enough);
      }
