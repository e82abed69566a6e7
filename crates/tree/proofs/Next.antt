use Rattle.std.proofs.Common.{◌≡◌, ℕ, zero, suc, ◌-◌, ◌<◌, ◌≤◌, Some, None, Option, sym, refl, ap, ◌∙◌, inl, inr, arith}
use Rattle.tree.specs.Rows.{find, above, by}
use Rattle.tree.specs.Tree.{Image, State, Sound, Ranking, upper, edge, frames, Seek, IsLeastAbove}
use Rattle.tree.specs.Tree.Seek.{hit, over, onto}
use Rattle.tree.proofs.Rows.{above-some, above-none, less-true}
use Rattle.tree.proofs.Way.{Ends, leaf_on_way}
use Rattle.std.proofs.lemmas.Bool.{cases_lt}

module _ {K V : Type 0} (rank : K → ℕ) (top : ℕ) (least : K) (ranked : Ranking rank top least) (s : State K V) (sound : Sound rank top least s) (k : K) where
  abbrev Result : K → Type 0
  Result j = (r : Option (K × V)) × Seek (by rank) s k j r × IsLeastAbove (by rank) s k r

  -- no key stands above k and below j
  abbrev Clear : K → Type 0
  Clear j = (i : K) → rank k < rank i → rank i < rank j → s.stands i ≡ None

  abbrev From : ℕ → K → Type 0
  From n i = rank k ≤ rank i → Clear i → top - rank i < n → Result i

  module _ (j : K) (near : rank k ≤ rank j) (clear : Clear j) where
    x : Ends rank top least ranked s.born (frames s) sound.shape j 0
    x = leaf_on_way rank top least ranked s sound j

    abbrev page : Image K V
    page = s.page x.leaf

    -- below the leaf's bound, what stands is what the leaf has
    inside : (i : K) → rank k < rank i → rank i < edge rank top (upper page.frame) → find (by rank) i page.pairs ≡ None → s.stands i ≡ None
    inside i g h e = elim (cases_lt (rank i) (rank j)) [
      | inl a ↦ clear i g a
      | inr a ↦ sym (sound.leaves x.leaf x.leaf_born i x.is_leaf (omega (arith, x.holds.0), h)) ∙ e
    ]

    found : (e : K × V) → above (by rank) k page.pairs ≡ Some e → Result j
    found e w =
        let f = above-some rank k _ _ page.pairs e (sound.pairs_ascend x.leaf x.leaf_born) w in (
          Some e,
          hit x.way w,
          (
            (let t = f.higher in grind arith),
            sym (sound.leaves x.leaf x.leaf_born e.0 x.is_leaf (f.from_on, f.below)) ∙ f.at,
            λ i a b. inside i (less-true (rank k) (rank i) a) (omega (arith, f.below, less-true (rank i) (rank e.0) b))
                (f.first i (less-true (rank k) (rank i) a) (less-true (rank i) (rank e.0) b)),
          ),
        )

    gone : above (by rank) k page.pairs ≡ None → (i : K) → rank k < rank i → rank i < edge rank top (upper page.frame) → s.stands i ≡ None
    gone w i g h = inside i g h (above-none rank k page.pairs w i g)

    finished : above (by rank) k page.pairs ≡ None → upper page.frame ≡ None → Result j
    finished w e = (
      None,
      over x.way w e,
      λ i a. gone w i (less-true (rank k) (rank i) a) (omega (arith, ranked.below_top i, ap (edge rank top) e)),
    )

    further : (n : ℕ) → ((i : K) → From n i) → top - rank j < suc n → above (by rank) k page.pairs ≡ None → (u : K)
        → upper page.frame ≡ Some u → Result j
    further n ih m w u v =
        let e = ap (edge rank top) v in
        let t = ranked.below_top u in
        let o = ih u (omega (arith, x.holds.1)) (λ i g h. gone w i g (omega arith)) (omega (arith, x.holds.1)) in
        (o.0, onto x.way w v o.1, o.2)

    onwards : (n : ℕ) → ((i : K) → From n i) → top - rank j < suc n → (o : Option (K × V)) → above (by rank) k page.pairs ≡ o → (u : Option K)
        → upper page.frame ≡ u → Result j
    onwards n ih m (Some e) w u v = found e w
    onwards n ih m None w None v = finished w v
    onwards n ih m None w (Some u) v = further n ih m w u v

  seek_from : (n : ℕ) (j : K) → rank k ≤ rank j → Clear j → top - rank j < n → Result j
  seek_from zero j near clear m = absurd (omega arith)
  seek_from (suc n) j near clear m = onwards j near clear n (seek_from n) m _ refl _ refl

  pub next-found : Result k
  next-found = seek_from (suc (top - rank k)) k (omega arith) (λ i a b. absurd (omega arith)) (omega arith)
