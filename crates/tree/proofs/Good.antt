-- A good world: what the way of a key over it comes to.
use Rattle.std.proofs.Common.{◌≡◌, ℕ, suc, ◌<◌, ◌≤◌, ◌⊎◌, List, [], ◌∷◌, ◌++◌, Some, None, Option, sym, refl, ap, ◌∙◌, subst, inl, inr, arith}
use Rattle.tree.specs.Rows.{by}
use Rattle.tree.specs.Tree.{Image, Ranking, Holds, frames, Way}
use Rattle.tree.specs.Log.{Logged, start, tree, at, Linked, rebuild, verdict, LessSome}
use Rattle.tree.specs.Suits.{suits}
use Rattle.tree.specs.Walk.{Walked, visit, visits, or_failed, outcome, Honest, Went}
use Rattle.tree.specs.Walk.Fault.{Gone}
use Rattle.tree.specs.Walk.Fetched.{Page, Failed}
use Rattle.tree.specs.Walk.Walked.{Met, Stopped}
use Rattle.tree.specs.Worlds.{World, Stored, passes, fetched_of, read, logged, fetch, goes_to, Fails, Harmed, OutOfReach, FirstLost, LostOnWay}
use Rattle.ranks.specs.Lists.{In, All}
use Rattle.tree.proofs.Walk.{way-walked, pages-born}
use Rattle.tree.proofs.Way.{leaf_on_way}
use Rattle.tree.proofs.Chain.{chains_rebuild}
use Rattle.tree.proofs.Unique.{way-one, leaf-one, chain-one, seen-chain}
use Rattle.tree.proofs.Runs.{StandsWell}
use Rattle.tree.proofs.Fit.{Roomy}
use Rattle.std.proofs.lemmas.Bool.{cases_Bool, eq-eqb, ne_eqb}

module _ {K V : Type 0} (rank : K → ℕ) (top : ℕ) (least : K) (ranked : Ranking rank top least) (pair_cost : K × V → ℕ) (kid_cost : K × ℕ → ℕ)
    (kid_cheap : (k : K) (c : ℕ) → kid_cost (k, c) ≤ 23) where
  -- what a run keeps of its world: each record links to its pages' newest positions and suits their images, the tree is sound, pages have
  -- room, and each page of the device reads as its image at its newest position, or fails there and at every later one
  pub record Good (w : World K V) : Type 0 where
    pub link : Linked (by rank) least (suits (by rank) pair_cost kid_cost) (start (by rank) least) w.recs
    pub well : (w.recs ≡ []) ⊎ StandsWell rank top least ranked (logged (by rank) least w)
    pub room : Roomy rank top least ranked pair_cost kid_cost kid_cheap (logged (by rank) least w)
    pub intact : (p : ℕ) → (w.pages p ≡ Some (record { lsn = (logged (by rank) least w).newest p; image = (logged (by rank) least w).page p }))
        ⊎ Fails ((logged (by rank) least w).newest p) (w.pages p)

  module _ (w : World K V) (good : Good w) (ok : StandsWell rank top least ranked (logged (by rank) least w)) where
    abbrev s : Logged K V
    s = logged (by rank) least w

    abbrev Away : ℕ → ℕ → Type 0
    Away p n = OutOfReach (by rank) least pair_cost kid_cost w p n

    -- a page is come by as its image, unless it is harmed and a record of its chain is lost
    abbrev pub Comes : ℕ → Type 0
    Comes p = ((fetch (by rank) least pair_cost kid_cost w p ≡ Page (s.page p)) × ((n : ℕ) → Away p n → ⊥))
        ⊎ ((n : ℕ) × (fetch (by rank) least pair_cost kid_cost w p ≡ Failed (Gone p n)) × Away p n)

    less : LessSome (read w) (at w.recs)
    less n r e = elim (cases_Bool (w.lost n)) [ inl t ↦ inr (cc) | inr t ↦ inl (cc) ]

    passed : (n : ℕ) (x : Image K V) (o : Option (Stored K V)) → o ≡ Some (record { lsn = n; image = x }) → passes n o ≡ Some x
    passed n x o e = let t = eq-eqb n n refl in ap (passes n) e ∙ (cc)

    failed : (n : ℕ) (o : Option (Stored K V)) → Fails n o → passes n o ≡ None
    failed n None f = refl
    failed n (Some x) f = let t = ne_eqb x.lsn n (λ e. f x refl (omega arith)) in cc

    in-middle : (xs : List ℕ) (m : ℕ) (ys : List ℕ) → In m (xs ++ (m ∷ ys))
    in-middle [] m ys = inl refl
    in-middle (x ∷ xs) m ys = inr (in-middle xs m ys)

    pub comes : (p : ℕ) → p < s.born → Comes p
    comes p b = elim (good.intact p) [
      | inl e ↦ inl (
        ap (λ o. fetched_of p o (rebuild (by rank) least (suits (by rank) pair_cost kid_cost) (read w) (suc (s.newest p)) p (s.newest p))) (passed (s.newest p) (s.page p) (w.pages p) e),
        λ n l. l.0 e,
      )
      | inr f ↦ torn f
    ]
      where
        torn : Fails (s.newest p) (w.pages p) → Comes p
        torn f =
            let built = chains_rebuild (by rank) least (suits (by rank) pair_cost kid_cost) w.recs good.link (read w) less p (ok.positive p b) in
            let c = built.0 in
            let e : fetch (by rank) least pair_cost kid_cost w p ≡ fetched_of p None (verdict (read w) c.positions (s.page p)) =
            ap (λ o. fetched_of p o (rebuild (by rank) least (suits (by rank) pair_cost kid_cost) (read w) (suc (s.newest p)) p (s.newest p))) (failed (s.newest p) (w.pages p) f)
            ∙ ap (fetched_of p None) (built.1 (suc (s.newest p)) (omega arith)) in
            let harm : Harmed (by rank) least pair_cost kid_cost w p = λ i. f (record { lsn = s.newest p; image = s.page p }) i (omega arith) in
            elim (seen-chain (by rank) least (suits (by rank) pair_cost kid_cost) (at w.recs) w.lost c.chain (s.page p)) [
              | inl a ↦ inl (
                e ∙ ap (fetched_of p None) a.0,
                λ n l. let d = l.1 in
                    a.1 n (subst (In n) (sym d.parts ∙ chain-one (by rank) least (suits (by rank) pair_cost kid_cost) (at w.recs) d.chain c.chain refl refl) (in-middle d.newer n d.older)) d.is_lost,
              )
              | inr a ↦ inr (
                a.0,
                e ∙ ap (fetched_of p None) a.3,
                (harm, record { positions = c.positions; chain = c.chain; newer = a.1; older = a.2; parts = a.4; is_lost = a.5; others = a.6 }),
              )
            ]

    honest : Honest (tree s) (fetch (by rank) least pair_cost kid_cost w)
    honest p b = elim (comes p b) [ inl a ↦ inl a.0 | inr a ↦ inr (Gone p a.0, a.1) ]

    pub went : (k : K) → Went (by rank) least (tree s) (fetch (by rank) least pair_cost kid_cost w) k
    went k = way-walked rank top least ranked (tree s) ok.sound (fetch (by rank) least pair_cost kid_cost w) honest k

    -- the first of some pages that cannot be had
    record FirstOf (ps : List ℕ) (p n : ℕ) : Type 0 where
      before : List ℕ
      behind : List ℕ
      parts : ps ≡ before ++ (p ∷ behind)
      lost : Away p n
      others : All (λ q. (m : ℕ) → Away q m → ⊥) before

    outcomes : (ps : List ℕ) → All (λ r. r < s.born) ps → (z : Walked K V)
        → ((outcome (fetch (by rank) least pair_cost kid_cost w) ps z ≡ z) × ((p n : ℕ) → In p ps → Away p n → ⊥))
        ⊎ ((p : ℕ) × (n : ℕ) × (outcome (fetch (by rank) least pair_cost kid_cost w) ps z ≡ Stopped (Gone p n)) × FirstOf ps p n)
    outcomes [] b z = inl (refl, λ p n i l. i)
    outcomes (q ∷ ps) b z = go (comes q b.0) (outcomes ps b.1 z)
      where
        go : Comes q
            → ((outcome (fetch (by rank) least pair_cost kid_cost w) ps z ≡ z) × ((p n : ℕ) → In p ps → Away p n → ⊥))
            ⊎ ((p : ℕ) × (n : ℕ) × (outcome (fetch (by rank) least pair_cost kid_cost w) ps z ≡ Stopped (Gone p n)) × FirstOf ps p n)
            → ((outcome (fetch (by rank) least pair_cost kid_cost w) (q ∷ ps) z ≡ z) × ((p n : ℕ) → In p (q ∷ ps) → Away p n → ⊥))
            ⊎ ((p : ℕ) × (n : ℕ) × (outcome (fetch (by rank) least pair_cost kid_cost w) (q ∷ ps) z ≡ Stopped (Gone p n)) × FirstOf (q ∷ ps) p n)
        go (inr a) r = inr (
          q,
          a.0,
          ap (λ o. or_failed o (outcome (fetch (by rank) least pair_cost kid_cost w) ps z)) a.1,
          record { before = []; behind = ps; parts = refl; lost = a.2; others = tt },
        )
        go (inl a) (inl r) = inl (
          ap (λ o. or_failed o (outcome (fetch (by rank) least pair_cost kid_cost w) ps z)) a.0 ∙ r.0,
          λ p n i l. elim i [
            | inl e ↦ a.1 n (subst (λ x. Away x n) e l)
            | inr e ↦ r.1 p n e l
          ],
        )
        go (inl a) (inr r) = let f = r.3 in
            inr (
              r.0,
              r.1,
              ap (λ o. or_failed o (outcome (fetch (by rank) least pair_cost kid_cost w) ps z)) a.0 ∙ r.2,
              record { before = q ∷ f.before; behind = f.behind; parts = ap (λ xs. q ∷ xs) f.parts; lost = f.lost; others = (a.1, f.others) },
            )

    -- a way that no lost record stops, over the pages of the tree itself
    pub record Arrives (k : K) : Type 0 where
      pub pages : List ℕ
      pub leaf : ℕ
      pub way : Way (by rank) (frames (tree s)) k 0 pages leaf
      pub leaf_born : leaf < s.born
      pub is_leaf : (s.page leaf).frame.level ≡ 0
      pub holds : Holds rank top (s.page leaf).frame k
      pub all_born : All (λ p. p < s.born) pages
      pub comes_to : goes_to (by rank) least pair_cost kid_cost w k ≡ Met (visits s.page pages) (visit leaf (s.page leaf))
      pub none_is_lost : LostOnWay (by rank) least pair_cost kid_cost w k → ⊥

    -- the key's way ends at its leaf, or at the first page that cannot be had
    pub way-ends : (k : K) → Arrives k
        ⊎ ((p : ℕ) × (n : ℕ) × (goes_to (by rank) least pair_cost kid_cost w k ≡ Stopped (Gone p n)) × FirstLost (by rank) least pair_cost kid_cost w k p n)
    way-ends k =
        let f = (went k).found in
        let e = (went k).comes_to (suc s.born) (omega arith) in
        let born = pages-born rank top least ranked (tree s) ok.sound (fetch (by rank) least pair_cost kid_cost w) honest k f in
        let m = leaf_on_way rank top least ranked (tree s) ok.sound k in
        let i : m.leaf ≡ f.leaf = leaf-one (by rank) (frames (tree s)) k m.way f.way refl in
        elim (outcomes f.pages born (Met (visits s.page f.pages) (visit f.leaf (s.page f.leaf)))) [
          | inl a ↦ inl (record {
            pages = f.pages;
            leaf = f.leaf;
            way = f.way;
            leaf_born = subst (λ n. n < s.born) i m.leaf_born;
            is_leaf = f.is_leaf;
            holds = subst (λ n. Holds rank top (s.page n).frame k) i m.holds;
            all_born = born;
            comes_to = e ∙ a.0;
            none_is_lost = λ l. a.1 l.page l.position (subst (In l.page) (way-one (by rank) (frames (tree s)) k l.way f.way refl) l.on_it) l.lost;
          })
          | inr a ↦ let t = a.3 in inr (
            a.0,
            a.1,
            e ∙ a.2,
            record { pages = f.pages; leaf = f.leaf; way = f.way; before = t.before; behind = t.behind; parts = t.parts; lost = t.lost; others = t.others },
          )
        ]
