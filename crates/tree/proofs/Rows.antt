use Rattle.std.proofs.Common.{◌≡◌, ℕ, suc, ◌<◌, ◌≤◌, true, false, eqb, leb, List, [], ◌∷◌, Some, None, Option, refl, subst, inl, inr, arith}
use Prim.Native.Nat.{compare}
use Rattle.tree.specs.Rows.{find, upto, from, set, without, above, floor, ceil, Ascends, by, is_less}
use Rattle.tree.specs.Tree.{edge}
use Rattle.std.proofs.lemmas.Bool.Decides.{nat_tests}
use Rattle.std.proofs.lemmas.Bool.{cond_both, cases_lt, leb-true, eqb-true, eqb-false}

pub less-true : (a b : ℕ) → is_less (compare a b) ≡ true → a < b
less-true a b t = grind arith

pub less_false : (a b : ℕ) → is_less (compare a b) ≡ false → b ≤ a
less_false a b t = grind arith

module _ {K A : Type 0} (rank : K → ℕ) where
  pub find-set : (j k : K) (a : A) (es : List (K × A)) → rank j ≡ rank k → find (by rank) j (set (by rank) k a es) ≡ Some a
  find-set j k a [] n = grind (arith, nat_tests)
  find-set j k a (e ∷ es) n = let h = find-set j k a es n in grind (arith, nat_tests)

  pub find-set-other : (j k : K) (a : A) (es : List (K × A)) → (rank j ≡ rank k → ⊥) → find (by rank) j (set (by rank) k a es) ≡ find (by rank) j es
  find-set-other j k a [] n = grind (arith, nat_tests)
  find-set-other j k a (e ∷ es) n = let h = find-set-other j k a es n in grind (arith, nat_tests)

  pub find-upto : (j d : K) (es : List (K × A)) → rank j < rank d → find (by rank) j (upto (by rank) d es) ≡ find (by rank) j es
  find-upto j d [] n = refl
  find-upto j d (e ∷ es) n = let h = find-upto j d es n in grind (arith, nat_tests)

  pub find-from : (j d : K) (es : List (K × A)) → rank d ≤ rank j → find (by rank) j (from (by rank) d es) ≡ find (by rank) j es
  find-from j d [] n = refl
  find-from j d (e ∷ es) n = let h = find-from j d es n in grind (arith, nat_tests)

  pub ascends_wider : (a a' b b' : ℕ) (es : List (K × A)) → a' ≤ a → b ≤ b' → Ascends rank a es b → Ascends rank a' es b'
  ascends_wider a a' b b' [] p q n = tt
  ascends_wider a a' b b' (e ∷ es) p q n =
      (omega arith, omega arith, ascends_wider (suc (rank e.0)) (suc (rank e.0)) b b' es (omega arith) q n.2)

  pub upto-ascends : (a b : ℕ) (d : K) (es : List (K × A)) → Ascends rank a es b → Ascends rank a (upto (by rank) d es) (rank d)
  upto-ascends a b d [] n = tt
  upto-ascends a b d (e ∷ es) n =
      let h = upto-ascends (suc (rank e.0)) b d es n.2 in
      cond_both (is_less (by rank e.0 d)) (e ∷ upto (by rank) d es) (upto (by rank) d es) (λ x. Ascends rank a x (rank d))
      (λ t. (n.0, less-true (rank e.0) (rank d) t, h))
      (λ _. ascends_wider (suc (rank e.0)) a (rank d) (rank d) (upto (by rank) d es) (omega arith) (omega arith) h)

  pub from-keeps : (a b : ℕ) (d : K) (es : List (K × A)) → Ascends rank a es b → Ascends rank a (from (by rank) d es) b
  from-keeps a b d [] n = tt
  from-keeps a b d (e ∷ es) n =
      let h = from-keeps (suc (rank e.0)) b d es n.2 in
      cond_both (is_less (by rank e.0 d)) (from (by rank) d es) (e ∷ from (by rank) d es) (λ x. Ascends rank a x b)
      (λ _. ascends_wider (suc (rank e.0)) a b b (from (by rank) d es) (omega arith) (omega arith) h)
      (λ t. (n.0, n.1, h))

  pub from-ascends : (a b : ℕ) (d : K) (es : List (K × A)) → Ascends rank a es b → Ascends rank (rank d) (from (by rank) d es) b
  from-ascends a b d [] n = tt
  from-ascends a b d (e ∷ es) n =
      let h = from-ascends (suc (rank e.0)) b d es n.2 in
      cond_both (is_less (by rank e.0 d)) (from (by rank) d es) (e ∷ from (by rank) d es) (λ x. Ascends rank (rank d) x b)
      (λ _. h)
      (λ t. (less_false (rank e.0) (rank d) t, n.1, from-keeps (suc (rank e.0)) b d es n.2))

  pub set-ascends : (a b : ℕ) (k : K) (v : A) (es : List (K × A)) → Ascends rank a es b → a ≤ rank k → rank k < b
      → Ascends rank a (set (by rank) k v es) b
  set-ascends a b k v [] n p q = (p, q, tt)
  set-ascends a b k v (e ∷ es) n p q =
      cond_both (is_less (by rank e.0 k)) (e ∷ set (by rank) k v es) _ (λ x. Ascends rank a x b)
      (λ t. (n.0, n.1, set-ascends (suc (rank e.0)) b k v es n.2 (less-true (rank e.0) (rank k) t) q))
      (λ t. cond_both (eqb (rank k) (rank e.0)) ((k, v) ∷ es) ((k, v) ∷ e ∷ es) (λ x. Ascends rank a x b)
      (λ u. (p, q, ascends_wider (suc (rank e.0)) (suc (rank k)) b b es (omega (arith, eqb-true (rank k) (rank e.0) u)) (omega arith) n.2))
      (λ u. (p, q, (omega (arith, eqb-false (rank k) (rank e.0) u, less_false (rank e.0) (rank k) t), n.1, n.2))))

  pub floor-le : (k : K) (d : K × A) (es : List (K × A)) → rank d.0 ≤ rank k → rank (floor (by rank) k d es).0 ≤ rank k
  floor-le k d [] h = h
  floor-le k d (e ∷ es) h =
      cond_both (leb (rank e.0) (rank k)) (floor (by rank) k e es) d (λ x. rank x.0 ≤ rank k)
      (λ t. floor-le k e es (leb-true (rank e.0) (rank k) t)) (λ _. h)

  -- an entry above the key's successor is never reached
  pub floor-above : (k : K) (d : K × A) (a b : ℕ) (es : List (K × A)) → Ascends rank a es b → rank k < a → floor (by rank) k d es ≡ d
  floor-above k d a b [] n h = refl
  floor-above k d a b (e ∷ es) n h = grind (arith, nat_tests)

  pub upto-none : (d : K) (a b : ℕ) (es : List (K × A)) → Ascends rank a es b → rank d ≤ a → upto (by rank) d es ≡ []
  upto-none d a b [] n h = refl
  upto-none d a b (e ∷ es) n h = let r = upto-none d (suc (rank e.0)) b es n.2 (omega arith) in grind (arith, nat_tests)

  pub from_all : (d : K) (a b : ℕ) (es : List (K × A)) → Ascends rank a es b → rank d ≤ a → from (by rank) d es ≡ es
  from_all d a b [] n h = refl
  from_all d a b (e ∷ es) n h = let r = from_all d (suc (rank e.0)) b es n.2 (omega arith) in grind (arith, nat_tests)

  pub floor-upto : (k d : K) (x : K × A) (a b : ℕ) (es : List (K × A)) → Ascends rank a es b → rank k < rank d
      → floor (by rank) k x (upto (by rank) d es) ≡ floor (by rank) k x es
  floor-upto k d x a b [] n h = refl
  floor-upto k d x a b (e ∷ es) n h =
      let r = floor-upto k d e (suc (rank e.0)) b es n.2 h in
      let z : rank d ≤ suc (rank e.0) → upto (by rank) d es ≡ [] = λ g. upto-none d (suc (rank e.0)) b es n.2 g in
      grind (arith, nat_tests)

  pub find-below : (k : K) (a b : ℕ) (es : List (K × A)) → Ascends rank a es b → rank k < a → find (by rank) k es ≡ None
  find-below k a b [] n h = refl
  find-below k a b (e ∷ es) n h = let r = find-below k (suc (rank e.0)) b es n.2 (omega arith) in grind (arith, nat_tests)

  pub floor-from : (k d : K) (c : A) (x y : K × A) (a b : ℕ) (es : List (K × A)) → Ascends rank a es b → rank d ≤ rank k
      → find (by rank) d es ≡ Some c → floor (by rank) k x (from (by rank) d es) ≡ floor (by rank) k y es
  floor-from k d c x y a b [] n h p = let z : ◌≡◌ {A = ℕ} 0 1 = cc in absurd (omega arith)
  floor-from k d c x y a b (e ∷ es) n h p =
      let r : find (by rank) d es ≡ Some c → floor (by rank) k x (from (by rank) d es) ≡ floor (by rank) k e es = floor-from k d c x e (suc (rank e.0)) b es n.2 h in
      let z : rank d ≤ suc (rank e.0) → from (by rank) d es ≡ es = from_all d (suc (rank e.0)) b es n.2 in
      let w : rank d < suc (rank e.0) → find (by rank) d es ≡ None = find-below d (suc (rank e.0)) b es n.2 in
      grind (arith, nat_tests)

  pub ceil-from : (k d : K) (u : Option K) (a b : ℕ) (es : List (K × A)) → Ascends rank a es b → rank d ≤ rank k
      → ceil (by rank) k (from (by rank) d es) u ≡ ceil (by rank) k es u
  ceil-from k d u a b [] n h = refl
  ceil-from k d u a b (e ∷ es) n h =
      let r = ceil-from k d u (suc (rank e.0)) b es n.2 h in
      grind (arith, nat_tests)

  -- a dividing key is one of the row's
  pub ceil-upto : (inj : (x y : K) → rank x ≡ rank y → x ≡ y) (k d : K) (c : A) (u : Option K) (a b : ℕ) (es : List (K × A))
      → Ascends rank a es b → rank k < rank d → find (by rank) d es ≡ Some c
      → ceil (by rank) k (upto (by rank) d es) (Some d) ≡ ceil (by rank) k es u
  ceil-upto inj k d c u a b [] n h p = let z : ◌≡◌ {A = ℕ} 0 1 = cc in absurd (omega arith)
  ceil-upto inj k d c u a b (e ∷ es) n h p =
      let r : find (by rank) d es ≡ Some c → ceil (by rank) k (upto (by rank) d es) (Some d) ≡ ceil (by rank) k es u =
      ceil-upto inj k d c u (suc (rank e.0)) b es n.2 h in
      let z : rank d ≤ suc (rank e.0) → upto (by rank) d es ≡ [] = upto-none d (suc (rank e.0)) b es n.2 in
      let w : rank d < suc (rank e.0) → find (by rank) d es ≡ None = find-below d (suc (rank e.0)) b es n.2 in
      let i : rank d ≡ rank e.0 → d ≡ e.0 = inj d e.0 in
      grind (arith, nat_tests)

  pub find-without : (j k : K) (es : List (K × A)) → rank j ≡ rank k → find (by rank) j (without (by rank) k es) ≡ None
  find-without j k [] n = refl
  find-without j k (e ∷ es) n = let h = find-without j k es n in grind (arith, nat_tests)

  pub find-without-other : (j k : K) (es : List (K × A)) → (rank j ≡ rank k → ⊥) → find (by rank) j (without (by rank) k es) ≡ find (by rank) j es
  find-without-other j k [] n = refl
  find-without-other j k (e ∷ es) n = let h = find-without-other j k es n in grind (arith, nat_tests)

  pub without-ascends : (a b : ℕ) (k : K) (es : List (K × A)) → Ascends rank a es b → Ascends rank a (without (by rank) k es) b
  without-ascends a b k [] n = tt
  without-ascends a b k (e ∷ es) n =
      let h = without-ascends (suc (rank e.0)) b k es n.2 in
      cond_both (eqb (rank k) (rank e.0)) (without (by rank) k es) (e ∷ without (by rank) k es) (λ x. Ascends rank a x b)
      (λ _. ascends_wider (suc (rank e.0)) a b b (without (by rank) k es) (omega arith) (omega arith) h)
      (λ t. (n.0, n.1, h))

  pub floor_ge : (k : K) (d : K × A) (a b : ℕ) (es : List (K × A)) → Ascends rank a es b → rank d.0 ≤ a
      → rank d.0 ≤ rank (floor (by rank) k d es).0
  floor_ge k d a b [] n h = omega arith
  floor_ge k d a b (e ∷ es) n h =
      let r = floor_ge k e (suc (rank e.0)) b es n.2 (omega arith) in
      grind arith

  module _ (top : ℕ) (u : Option K) where
    -- the first entry above a key bounds it
    pub ceil-above : (k : K) (es : List (K × A)) → rank k < edge rank top u → rank k < edge rank top (ceil (by rank) k es u)
    ceil-above k [] h = h
    ceil-above k (e ∷ es) h = let r = ceil-above k es h in grind arith

    pub ceil-le : (k : K) (a : ℕ) (es : List (K × A)) → Ascends rank a es (edge rank top u) → edge rank top (ceil (by rank) k es u) ≤ edge rank top u
    ceil-le k a [] n = omega arith
    ceil-le k a (e ∷ es) n = let r = ceil-le k (suc (rank e.0)) es n.2 in grind arith

    floor_stops : (j k : K) (x : K × A) (a b : ℕ) (es : List (K × A)) → Ascends rank a es b → rank k < a
        → rank j < edge rank top (ceil (by rank) k es u) → floor (by rank) j x es ≡ x
    floor_stops j k x a b [] n g h = refl
    floor_stops j k x a b (e ∷ es) n g h = grind arith

    -- a row that gains an entry: the keys for which that entry is the one
    pub floor-set-in : (j k : K) (c : A) (x : K × A) (a b : ℕ) (es : List (K × A)) → Ascends rank a es b → rank k ≤ rank j
        → rank j < edge rank top (ceil (by rank) k es u) → floor (by rank) j x (set (by rank) k c es) ≡ (k, c)
    floor-set-in j k c x a b [] n g h = grind arith
    floor-set-in j k c x a b (e ∷ es) n g h =
        let r : rank j < edge rank top (ceil (by rank) k es u) → floor (by rank) j e (set (by rank) k c es) ≡ (k, c) =
        floor-set-in j k c e (suc (rank e.0)) b es n.2 g in
        let z : rank k < suc (rank e.0) → rank j < edge rank top (ceil (by rank) k es u) → floor (by rank) j (k, c) es ≡ (k, c) =
        floor_stops j k (k, c) (suc (rank e.0)) b es n.2 in
        grind arith

    pub floor-set-below : (j k : K) (c : A) (x : K × A) (a b : ℕ) (es : List (K × A)) → Ascends rank a es b → rank j < rank k
        → floor (by rank) j x (set (by rank) k c es) ≡ floor (by rank) j x es
    floor-set-below j k c x a b [] n g = grind arith
    floor-set-below j k c x a b (e ∷ es) n g =
        let r = floor-set-below j k c e (suc (rank e.0)) b es n.2 g in grind arith

    floor-first : (j k : K) (x y : K × A) (a b : ℕ) (es : List (K × A)) → Ascends rank a es b → rank k < a
        → edge rank top (ceil (by rank) k es u) ≤ rank j → rank j < edge rank top u → floor (by rank) j x es ≡ floor (by rank) j y es
    floor-first j k x y a b [] n g h i = absurd (omega arith)
    floor-first j k x y a b (e ∷ es) n g h i = grind arith

    pub floor-set-above : (j k : K) (c : A) (x : K × A) (a b : ℕ) (es : List (K × A)) → Ascends rank a es b
        → edge rank top (ceil (by rank) k es u) ≤ rank j → rank j < edge rank top u
        → floor (by rank) j x (set (by rank) k c es) ≡ floor (by rank) j x es
    floor-set-above j k c x a b [] n g h = absurd (omega arith)
    floor-set-above j k c x a b (e ∷ es) n g h =
        let r : edge rank top (ceil (by rank) k es u) ≤ rank j → floor (by rank) j e (set (by rank) k c es) ≡ floor (by rank) j e es =
        λ q. floor-set-above j k c e (suc (rank e.0)) b es n.2 q h in
        let z : rank k < suc (rank e.0) → edge rank top (ceil (by rank) k es u) ≤ rank j → floor (by rank) j (k, c) es ≡ floor (by rank) j e es =
        λ q q'. floor-first j k (k, c) e (suc (rank e.0)) b es n.2 q q' h in
        grind arith

    pub ceil-set-in : (j k : K) (c : A) (es : List (K × A)) → rank j < rank k → rank k < edge rank top (ceil (by rank) j es u)
        → ceil (by rank) j (set (by rank) k c es) u ≡ Some k
    ceil-set-in j k c [] g h = grind arith
    ceil-set-in j k c (e ∷ es) g h =
        let r : rank k < edge rank top (ceil (by rank) j es u) → ceil (by rank) j (set (by rank) k c es) u ≡ Some k = ceil-set-in j k c es g in
        grind arith

    pub ceil-set-from : (j k : K) (c : A) (es : List (K × A)) → rank k ≤ rank j
        → ceil (by rank) j (set (by rank) k c es) u ≡ ceil (by rank) j es u
    ceil-set-from j k c [] g = grind arith
    ceil-set-from j k c (e ∷ es) g = let r = ceil-set-from j k c es g in grind arith

    pub ceil_set_past : (inj : (x y : K) → rank x ≡ rank y → x ≡ y) (j k : K) (c : A) (a b : ℕ) (es : List (K × A)) → Ascends rank a es b
        → edge rank top (ceil (by rank) j es u) ≤ rank k → rank k < edge rank top u
        → ceil (by rank) j (set (by rank) k c es) u ≡ ceil (by rank) j es u
    ceil_set_past inj j k c a b [] n g h = absurd (omega arith)
    ceil_set_past inj j k c a b (e ∷ es) n g h =
        let r : edge rank top (ceil (by rank) j es u) ≤ rank k → ceil (by rank) j (set (by rank) k c es) u ≡ ceil (by rank) j es u =
        λ q. ceil_set_past inj j k c (suc (rank e.0)) b es n.2 q h in
        let i : rank k ≡ rank e.0 → k ≡ e.0 = inj k e.0 in
        grind arith

    -- two keys of one entry
    pub floor-same : (j k : K) (x : K × A) (a b : ℕ) (es : List (K × A)) → Ascends rank a es b → rank (floor (by rank) j x es).0 ≤ rank k
        → rank k < edge rank top (ceil (by rank) j es u) → floor (by rank) k x es ≡ floor (by rank) j x es
    floor-same j k x a b [] n g h = refl
    floor-same j k x a b (e ∷ es) n g h =
        let r : rank (floor (by rank) j e es).0 ≤ rank k → rank k < edge rank top (ceil (by rank) j es u) → floor (by rank) k e es ≡ floor (by rank) j e es =
        floor-same j k e (suc (rank e.0)) b es n.2 in
        let z = floor_ge j e (suc (rank e.0)) b es n.2 (omega arith) in
        grind arith

    pub ceil-same : (j k : K) (x : K × A) (a b : ℕ) (es : List (K × A)) → Ascends rank a es b → rank (floor (by rank) j x es).0 ≤ rank k
        → rank k < edge rank top (ceil (by rank) j es u) → ceil (by rank) k es u ≡ ceil (by rank) j es u
    ceil-same j k x a b [] n g h = refl
    ceil-same j k x a b (e ∷ es) n g h =
        let r : rank (floor (by rank) j e es).0 ≤ rank k → rank k < edge rank top (ceil (by rank) j es u) → ceil (by rank) k es u ≡ ceil (by rank) j es u =
        ceil-same j k e (suc (rank e.0)) b es n.2 in
        let z = floor_ge j e (suc (rank e.0)) b es n.2 (omega arith) in
        grind arith

  -- the first entry above a key is the least
  pub record First (k : K) (a b : ℕ) (es : List (K × A)) (e : K × A) : Type 0 where
    pub higher : rank k < rank e.0
    pub from_on : a ≤ rank e.0
    pub below : rank e.0 < b
    pub at : find (by rank) e.0 es ≡ Some e.1
    pub first : (i : K) → rank k < rank i → rank i < rank e.0 → find (by rank) i es ≡ None

  pub above-some : (k : K) (a b : ℕ) (es : List (K × A)) (e : K × A) → Ascends rank a es b → above (by rank) k es ≡ Some e → First k a b es e
  above-some k a b [] e n p = let z : ◌≡◌ {A = ℕ} 0 1 = cc in absurd (omega arith)
  above-some k a b (x ∷ es) e n p = elim (cases_lt (rank k) (rank x.0)) [
    | inl h ↦
        let w : x ≡ e = grind arith in
        let y : First k a b (x ∷ es) x = record {
          higher = h;
          from_on = n.0;
          below = n.1;
          at = grind arith;
          first = λ i g g'. let t = find-below i (suc (rank x.0)) b es n.2 (omega arith) in grind arith;
        } in
        subst (First k a b (x ∷ es)) w y
    | inr h ↦
        let r = above-some k (suc (rank x.0)) b es e n.2 (grind arith) in
        record {
          higher = r.higher;
          from_on = omega (arith, n.0, r.from_on);
          below = r.below;
          at = let t = r.at in let t' = r.from_on in grind arith;
          first = λ i g g'. let t = r.first i g g' in grind arith;
        }
  ]

  pub above-none : (k : K) (es : List (K × A)) → above (by rank) k es ≡ None → (i : K) → rank k < rank i → find (by rank) i es ≡ None
  above-none k [] p i h = refl
  above-none k (e ∷ es) p i h = let r : above (by rank) k es ≡ None → find (by rank) i es ≡ None = λ q. above-none k es q i h in grind arith

  -- a key that is there is its own entry's
  pub floor-found : (k : K) (c : A) (d : K × A) (a b : ℕ) (es : List (K × A)) → Ascends rank a es b → find (by rank) k es ≡ Some c
      → rank (floor (by rank) k d es).0 ≡ rank k
  floor-found k c d a b [] n p = let z : ◌≡◌ {A = ℕ} 0 1 = cc in absurd (omega arith)
  floor-found k c d a b (e ∷ es) n p =
      let r : find (by rank) k es ≡ Some c → rank (floor (by rank) k e es).0 ≡ rank k = floor-found k c e (suc (rank e.0)) b es n.2 in
      let z : rank k < suc (rank e.0) → floor (by rank) k e es ≡ e = floor-above k e (suc (rank e.0)) b es n.2 in
      let w : rank k < suc (rank e.0) → find (by rank) k es ≡ None = find-below k (suc (rank e.0)) b es n.2 in
      grind arith
