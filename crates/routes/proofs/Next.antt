-- The next key: the leaves from a key's on are searched until one has a key above it. Each is another, so there are pages enough.
use Rattle.std.proofs.Common.{◌≡◌, ℕ, zero, suc, ◌<◌, ◌≤◌, true, ltb, ◌⊎◌, [], Some, None, Ok, Err, Option, Result, sym, refl, ap, ◌∙◌, subst, inl, inr, arith}
use Prim.Native.Nat.{Ordering}
use Rattle.std.proofs.lemmas.Bool.{cases_lt, lt-ltb, le-ltb, ltb-true}
use Rattle.ranks.proofs.Tally.{tally, tally-lt, tally_most}
use Rattle.order.specs.Lawful.{Says}
use Rattle.tree.specs.Rows.{by, find, above}
use Rattle.tree.specs.Tree.{Image, Holds, edge, upper}
use Rattle.tree.specs.Log.{tree}
use Rattle.tree.specs.Walk.{visit, visits}
use Rattle.tree.proofs.Rows.{above-some, above-none}
use Rattle.tree.proofs.Way.{leaf_on_way}
use Rattle.tree.proofs.Walk.{below, length-below, in-below, all-below}
use Rattle.images.specs.Keys.{Key, Value, empty_key, keyed}
use Rattle.images.specs.Laws.{Ranked}
use Rattle.model.specs.declared.refusal.Refusal.{Refusal}
use Rattle.model.specs.declared.refusal.Refusal.TheVariants.{Absent, LostRecord}
use Rattle.model.specs.Worlds.{World, born, done}
use Rattle.model.specs.Plans.{Plan}
use Rattle.model.specs.Ways.{route, way}
use Rattle.model.specs.Calls.{Reply, Listed, beyond, above_in, next_on_way, seeking}
use Rattle.model.specs.Runs.{Added}
use Rattle.media.proofs.Media.{made, Standing, Media, Opened, Apt}
use Rattle.routes.proofs.Comes.{stands_well}
use Rattle.routes.proofs.Kept.{EndsSo, ends_so, then_so, refused_so}
use Rattle.routes.proofs.Ways.{way_so, Arrived, way-told}

module _ (says : Says) (r : Ranked says) (added : Added) where
  -- what a next of key k answers: the least key that stands above it, that none does, or a page that cannot be had
  abbrev pub NextAnswer : Key → Result Reply Refusal → Type 0
  NextAnswer k x =
      ((e : Key × Value) × (x ≡ Ok (Listed e.0.bytes e.1.bytes)) × (r.rank k < r.rank e.0) × ((made says r added).stands e.0 ≡ Some e.1)
      × ((i : Key) → r.rank k < r.rank i → r.rank i < r.rank e.0 → (made says r added).stands i ≡ None))
      ⊎ (((x ≡ Err Absent) × ((i : Key) → r.rank k < r.rank i → (made says r added).stands i ≡ None))
      ⊎ ((p : ℕ) × (n : ℕ) × (x ≡ Err (LostRecord p n))))

  -- a page's low fence
  low : ℕ → ℕ
  low p = r.rank ((made says r added).page p).frame.low

  -- the pages that begin behind page p
  left : ℕ → ℕ
  left p = tally (λ q. ltb (low p) (low q)) (below (made says r added).born)

  left-falls : (p q : ℕ) → q < (made says r added).born → low p < low q → left q < left p
  unfolding left
  left-falls p q b h = tally-lt (λ x. ltb (low q) (low x)) (λ x. ltb (low p) (low x)) q (below (made says r added).born)
      (all-below (λ x. ltb (low q) (low x) ≡ true → ltb (low p) (low x) ≡ true)
      (λ x e. lt-ltb (low p) (low x) (omega (arith, ltb-true (low q) (low x) e))) (made says r added).born)
      (le-ltb (low q) (low q) (omega arith)) (lt-ltb (low p) (low q) h) (in-below q (made says r added).born b)

  left_most : (p : ℕ) → left p ≤ (made says r added).born
  unfolding left
  left_most p = omega (arith, tally_most (λ q. ltb (low p) (low q)) (below (made says r added).born), length-below (made says r added).born)

  module _ (well : Standing says r (made says r added)) where
    -- the leaf of a leaf's upper bound begins behind it
    next_low : (p q : ℕ) (u : Key) → p < (made says r added).born → q < (made says r added).born
        → ((made says r added).page p).frame.level ≡ 0 → ((made says r added).page q).frame.level ≡ 0
        → upper ((made says r added).page p).frame ≡ Some u → Holds r.rank r.top ((made says r added).page q).frame u → low p < low q
    unfolding low
    next_low p q u bp bq lp lq e h = elim (cases_lt (r.rank ((made says r added).page p).frame.low) (r.rank ((made says r added).page q).frame.low)) [
      | inl a ↦ a
      | inr a ↦
          let s = well.sound.shape in
          let t = s.spans p bp in
          let f = ap (edge r.rank r.top) e in
          let i = s.apart p bp q bq ((made says r added).page p).frame.low (lp ∙ sym lq) (omega arith, t) (a, omega (arith, h.1)) in
          let g = ap (λ n. edge r.rank r.top (upper ((made says r added).page n).frame)) i in
          absurd (omega (arith, h.1))
    ]

    module _ (k : Key) where
      -- no key stands above k and below j
      abbrev Clear : Key → Type 0
      Clear j = (i : Key) → r.rank k < r.rank i → r.rank i < r.rank j → (made says r added).stands i ≡ None

      -- fewer than n pages begin behind the leaf of j
      abbrev Few : ℕ → Key → Type 0
      Few n j = (l : ℕ) → l < (made says r added).born → ((made says r added).page l).frame.level ≡ 0
          → Holds r.rank r.top ((made says r added).page l).frame j → left l < n

      abbrev Right : World → Plan Reply → Type 0
      Right w p = (x : Result Reply Refusal) × EndsSo says r added w p x × NextAnswer k x

      abbrev From : ℕ → Type 0
      From n = (j : Key) (w : World) → Media says r added w → Opened says r added w → r.rank k ≤ r.rank j → Clear j → Few n j → Right w (seeking says k n j w)

      module _ (j : Key) (near : r.rank k ≤ r.rank j) (clear : Clear j) (a : Arrived says r added j) where
        abbrev page : Image Key Value
        page = (made says r added).page a.leaf

        -- below the leaf's bound, what stands is what the leaf has
        inside : (i : Key) → r.rank k < r.rank i → r.rank i < edge r.rank r.top (upper page.frame) → find (by r.rank) i page.pairs ≡ None
            → (made says r added).stands i ≡ None
        inside i g h e = elim (cases_lt (r.rank i) (r.rank j)) [
          | inl b ↦ clear i g b
          | inr b ↦ sym (well.sound.leaves a.leaf a.leaf_born i a.is_leaf (omega (arith, a.holds.0), h)) ∙ e
        ]

        told-above : above (keyed says) k page.pairs ≡ above (by r.rank) k page.pairs
        told-above = ap (λ (c : Key → Key → Ordering). above c k page.pairs) r.told

        found : (e : Key × Value) → above (keyed says) k page.pairs ≡ Some e → NextAnswer k (Ok (Listed e.0.bytes e.1.bytes))
        found e h =
            let f = above-some r.rank k _ _ page.pairs e (well.sound.pairs_ascend a.leaf a.leaf_born) (sym told-above ∙ h) in
            inl (
              e,
              refl,
              f.higher,
              sym (well.sound.leaves a.leaf a.leaf_born e.0 a.is_leaf (f.from_on, f.below)) ∙ f.at,
              λ i b c. inside i b (omega (arith, f.below)) (f.first i b c),
            )

        gone : above (keyed says) k page.pairs ≡ None → (i : Key) → r.rank k < r.rank i → r.rank i < edge r.rank r.top (upper page.frame)
            → (made says r added).stands i ≡ None
        gone h i b c = inside i b c (above-none r.rank k page.pairs (sym told-above ∙ h) i b)

        module _ (n : ℕ) (ih : From n) (few : Few (suc n) j) (w : World) (m : Media says r added w) (o : Opened says r added w) where
          beyond_so : above (keyed says) k page.pairs ≡ None → (u : Option Key) → upper page.frame ≡ u → Right w (beyond (seeking says k n) w u)
          beyond_so h None e = (
            Err Absent,
            ends_so says r m o _,
            inr (inl (refl, λ i b. gone h i b (omega (arith, ap (edge r.rank r.top) e, r.ranking.below_top i)))),
          )
          beyond_so h (Some u) e =
              let f = ap (edge r.rank r.top) e in
              ih u w m o (omega (arith, a.holds.1)) (λ i b c. gone h i b (omega arith))
              (λ l lb ll lh. omega (
                arith,
                few a.leaf a.leaf_born a.is_leaf a.holds,
                left-falls a.leaf l lb (next_low a.leaf l u a.leaf_born lb a.is_leaf ll e lh),
              ))

          above_so : (x : Option (Key × Value)) → above (keyed says) k page.pairs ≡ x → Right w (above_in (seeking says k n) page w x)
          above_so None h = beyond_so h (upper page.frame) refl
          above_so (Some e) h = (Ok (Listed e.0.bytes e.1.bytes), ends_so says r m o _, found e h)

      seeks : (n : ℕ) → From n
      unfolding seeking
      seeks zero j w m o near clear few =
          let t = leaf_on_way r.rank r.top empty_key r.ranking (tree (made says r added)) well.sound j in
          absurd (omega (arith, few t.leaf t.leaf_born t.is_leaf t.holds))
      seeks (suc n) j w m o near clear few = elim (way-told says r added w m o j) [
        | inl a ↦
            let kept = (way_so says r added w m o j).1 in
            let l = a.0 in
            let t = above_so j near clear l n (seeks n) few (done (way says w j).actions w) kept.media kept.opened
            (above (keyed says) k ((made says r added).page l.leaf).pairs) refl in (
              t.0,
              then_so says r w (way says w j) (next_on_way says (seeking says k n) k)
                  (route (visits (made says r added).page l.pages) (visit l.leaf ((made says r added).page l.leaf))) t.0 (a.1, kept) t.1,
              t.2,
            )
        | inr a ↦
            let kept = (way_so says r added w m o j).1 in (
              Err (LostRecord a.0 a.1),
              refused_so says r w (way says w j) (next_on_way says (seeking says k n) k) (LostRecord a.0 a.1) (a.2, kept),
              inr (inr (a.0, a.1, refl)),
            )
      ]

  pub next_so : (w : World) → Media says r added w → Opened says r added w → (k : Key)
      → (x : Result Reply Refusal) × EndsSo says r added w (seeking says k (suc (born w)) k w) x × NextAnswer k x
  next_so w m o k = seeks (stands_well says r added w m o) k (suc (born w)) k w m o (omega arith) (λ i a b. absurd (omega arith))
      (λ l b _ _. omega (arith, left_most l, o.born_is))

  pub next-told : (w : World) → Media says r added w → Opened says r added w → (k : Key)
      → Apt says r added w (seeking says k (suc (born w)) k w).actions [] added (done (seeking says k (suc (born w)) k w).actions w)
      × Opened says r added (done (seeking says k (suc (born w)) k w).actions w)
      × NextAnswer k (seeking says k (suc (born w)) k w).answer
  next-told w m o k =
      let t = next_so w m o k in
      let a = t.1.1 in
      (a.apt, a.opened, subst (NextAnswer k) (sym t.1.0) t.2)
