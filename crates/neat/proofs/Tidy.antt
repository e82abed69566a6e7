-- A change that the store may make leaves a log's pages tidy.
use Rattle.std.proofs.Common.{◌≡◌, ℕ, suc, ◌<◌, true, cond, eqb, sym, ap, subst, arith}
use Rattle.tree.specs.Rows.{by}
use Rattle.tree.specs.Tree.{Sound, lower_image, upper_image, gaining_image, ceding_image, risen_image}
use Rattle.tree.specs.Log.{Change, Logged, Source, made, blank, tree, start, May}
use Rattle.tree.specs.Log.Change.{Format, Put, Remove, Foster, Adopt, Grow}
use Rattle.tree.specs.Log.Source.{Out, Fresh, Earlier}
use Rattle.tree.specs.Plan.{changed}
use Rattle.neat.specs.Neat.{Neat, Tidy, NamesKey}
use Rattle.neat.proofs.Images.{blank-neat, put-neat, remove-neat, lower-neat, upper-neat, gain_neat, cede_neat, risen-neat}
use Rattle.std.proofs.lemmas.Bool.{cond_both, eqb-true}

module _ {K V : Type 0} (rank : K → ℕ) (top : ℕ) (least : K) where
  pub start-tidy : Tidy rank top least (start {V = V} (by rank) least)
  start-tidy = record { pages = λ p. blank-neat rank top least; level = λ h. absurd (omega arith) }

  pub format-tidy : Tidy rank top least (changed {V = V} (by rank) least (start (by rank) least) Format)
  format-tidy = record {
    pages = λ p. cond_both (eqb p 0) Fresh Out
        (λ w. Neat rank top least (made {V = V} (by rank) least Format p (λ q. blank (by rank) least) w))
        (λ _. blank-neat rank top least) (λ _. blank-neat rank top least);
    level = λ h. omega arith;
  }

module _ {K V : Type 0} (rank : K → ℕ) (top : ℕ) (least : K) (s : Logged K V) (tidy : Tidy rank top least s) where
  -- page p after a change, by where its image comes from
  abbrev NeatAt : Change K V → ℕ → Source → Type 0
  NeatAt c p w = Neat rank top least (made (by rank) least c p s.page w)

  pages-tidy : Sound rank top least (tree s) → (c : Change K V) → May rank top least c s → NamesKey rank top least c
      → (p : ℕ) → Neat rank top least ((changed (by rank) least s c).page p)
  pages-tidy sound Format may named p = absurd (omega (arith, sound.shape.any, ap (λ t. t.born) may))
  pages-tidy sound (Put q k v) may named p = cond_both (eqb p q) (Earlier q (s.newest q)) Out (NeatAt (Put q k v) p)
      (λ _. put-neat rank top least (s.page q) k v may.leaf named (tidy.pages q))
      (λ _. tidy.pages p)
  pages-tidy sound (Remove q k) may named p = cond_both (eqb p q) (Earlier q (s.newest q)) Out (NeatAt (Remove q k) p)
      (λ _. remove-neat rank top least (s.page q) k (tidy.pages q))
      (λ _. tidy.pages p)
  pages-tidy sound (Foster q o d) may named p =
      let part : NeatAt (Foster q o d) p (Earlier q (s.newest q)) =
      cond_both (eqb p o) (upper_image (by rank) least d (s.page q)) (lower_image (by rank) least d o (s.page q)) (Neat rank top least)
      (λ _. upper-neat rank top least (s.page q) d (tidy.pages q)) (λ _. lower-neat rank top least (s.page q) d o (tidy.pages q)) in
      cond_both (eqb p o) (Earlier q (s.newest q)) (cond (eqb p q) (Earlier q (s.newest q)) Out) (NeatAt (Foster q o d) p)
      (λ _. part)
      (λ _. cond_both (eqb p q) (Earlier q (s.newest q)) Out (NeatAt (Foster q o d) p) (λ _. part) (λ _. tidy.pages p))
  pages-tidy sound (Adopt q o k c) may named p =
      cond_both (eqb p o) (Earlier o (s.newest o)) (cond (eqb p q) (Earlier q (s.newest q)) Out) (NeatAt (Adopt q o k c) p)
      (λ t. subst (λ b. Neat rank top least (cond b (ceding_image (by rank) least k (s.page o)) (gaining_image (by rank) least k c (s.page o)))) (sym t)
      (cede_neat rank top least (s.page o) k (tidy.pages o)))
      (λ t. cond_both (eqb p q) (Earlier q (s.newest q)) Out (NeatAt (Adopt q o k c) p)
      (λ _. subst (λ b. Neat rank top least (cond b (ceding_image (by rank) least k (s.page q)) (gaining_image (by rank) least k c (s.page q)))) (sym t)
      (gain_neat rank top least (s.page q) k c may.below may.level (tidy.pages q)))
      (λ _. tidy.pages p))
  pages-tidy sound (Grow o) may named p =
      let part : NeatAt (Grow o) p (Earlier 0 (s.newest 0)) =
      cond_both (eqb p 0) (risen_image (by rank) least o (s.page 0)) (s.page 0) (Neat rank top least)
      (λ _. risen-neat rank top least (s.page 0) o) (λ _. tidy.pages 0) in
      cond_both (eqb p 0) (Earlier 0 (s.newest 0)) (cond (eqb p o) (Earlier 0 (s.newest 0)) Out) (NeatAt (Grow o) p)
      (λ _. part)
      (λ _. cond_both (eqb p o) (Earlier 0 (s.newest 0)) Out (NeatAt (Grow o) p) (λ _. part) (λ _. tidy.pages p))

  -- page 0 keeps its level, unless the tree grows
  module _ (sound : Sound rank top least (tree s)) where
    abbrev BelowAt : Change K V → ℕ → Source → Type 0
    BelowAt c n w = (made (by rank) least c 0 s.page w).frame.level < n

    root_below : (s.page 0).frame.level < s.born
    root_below = tidy.level sound.shape.any

    same-below : (q : ℕ) → eqb 0 q ≡ true → (s.page q).frame.level < s.born
    same-below q t = subst (λ z. (s.page z).frame.level < s.born) (eqb-true 0 q t) root_below

    level-tidy : (c : Change K V) → May rank top least c s → ((changed (by rank) least s c).page 0).frame.level < (changed (by rank) least s c).born
    level-tidy Format may = absurd (omega (arith, sound.shape.any, ap (λ t. t.born) may))
    level-tidy (Put q k v) may = cond_both (eqb 0 q) (Earlier q (s.newest q)) Out (BelowAt (Put q k v) s.born) (same-below q) (λ _. root_below)
    level-tidy (Remove q k) may = cond_both (eqb 0 q) (Earlier q (s.newest q)) Out (BelowAt (Remove q k) s.born) (same-below q) (λ _. root_below)
    level-tidy (Foster q o d) may =
        cond_both (eqb 0 o) (Earlier q (s.newest q)) (cond (eqb 0 q) (Earlier q (s.newest q)) Out) (BelowAt (Foster q o d) (suc s.born))
        (λ t. absurd (omega (arith, eqb-true 0 o t, may.0, sound.shape.any)))
        (λ _. cond_both (eqb 0 q) (Earlier q (s.newest q)) Out (BelowAt (Foster q o d) (suc s.born))
        (λ t. cond_both (eqb 0 o) (upper_image (by rank) least d (s.page q)) (lower_image (by rank) least d o (s.page q)) (λ x. x.frame.level < suc s.born)
        (λ _. omega (arith, same-below q t)) (λ _. omega (arith, same-below q t)))
        (λ _. omega (arith, root_below)))
    level-tidy (Adopt q o k c) may =
        cond_both (eqb 0 o) (Earlier o (s.newest o)) (cond (eqb 0 q) (Earlier q (s.newest q)) Out) (BelowAt (Adopt q o k c) s.born)
        (λ t. parts o (same-below o t))
        (λ _. cond_both (eqb 0 q) (Earlier q (s.newest q)) Out (BelowAt (Adopt q o k c) s.born) (λ t. parts q (same-below q t)) (λ _. root_below))
      where
        parts : (r : ℕ) → (s.page r).frame.level < s.born → BelowAt (Adopt q o k c) s.born (Earlier r (s.newest r))
        parts r h = cond_both (eqb 0 o) (ceding_image (by rank) least k (s.page r)) (gaining_image (by rank) least k c (s.page r))
            (λ x. x.frame.level < s.born) (λ _. h) (λ _. h)
    level-tidy (Grow o) may = omega (arith, root_below)

  pub changed-tidy : Sound rank top least (tree s) → (c : Change K V) → May rank top least c s → NamesKey rank top least c
      → Tidy rank top least (changed (by rank) least s c)
  changed-tidy sound c may named = record { pages = pages-tidy sound c may named; level = λ _. level-tidy sound c may }
