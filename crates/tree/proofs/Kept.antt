use Rattle.std.proofs.Common.{◌≡◌, ℕ, suc, List, [], ◌∷◌, None, sym, refl, ap, ◌∙◌, subst, arith}
use Rattle.tree.specs.Rows.{by}
use Rattle.tree.specs.Tree.{State, Sound, Ranking, upd, put, remove, divide, grow, putting, removing, lower_image, upper_image, gaining_image, ceding_image, risen_image}
use Rattle.tree.specs.Log.{Change, Rec, source_of, made, blank, Logged, append, run, start, tree, May, Kept}
use Rattle.tree.specs.Log.Change.{Format, Put, Remove, Foster, Adopt, Grow}
use Rattle.tree.proofs.Upd.{none-some}
use Rattle.tree.proofs.Put.{put-stays, remove-stays}
use Rattle.tree.proofs.Divide.{divide-stays}
use Rattle.tree.proofs.Adopt.{adopt-stays}
use Rattle.tree.proofs.Grow.{grow-stays}

module _ {K V : Type 0} (rank : K → ℕ) (top : ℕ) (least : K) (ranked : Ranking rank top least) where
  -- a record does to the pages what its kind says
  pages-put : (s : Logged K V) (p : ℕ) (k : K) (v : V) (a b q : ℕ)
      → made (by rank) least (Put p k v) q s.page (source_of (Put p k v) a b q) ≡ upd s.page p (putting (by rank) least k v (s.page p)) q
  unfolding upd
  pages-put s p k v a b q = grind arith

  pages-remove : (s : Logged K V) (p : ℕ) (k : K) (a b q : ℕ)
      → made (by rank) least (Remove p k) q s.page (source_of {V = V} (Remove p k) a b q) ≡ upd s.page p (removing (by rank) least k (s.page p)) q
  unfolding upd
  pages-remove s p k a b q = grind arith

  pub pages_divide : (s : Logged K V) (p o : ℕ) (d : K) (a b q : ℕ)
      → made (by rank) least (Foster p o d) q s.page (source_of {V = V} (Foster p o d) a b q)
      ≡ upd (upd s.page p (lower_image (by rank) least d o (s.page p))) o (upper_image (by rank) least d (s.page p)) q
  unfolding upd
  pages_divide s p o d a b q = grind arith

  pages-adopt : (s : Logged K V) (p o : ℕ) (k : K) (c a b q : ℕ)
      → made (by rank) least (Adopt p o k c) q s.page (source_of {V = V} (Adopt p o k c) a b q)
      ≡ upd (upd s.page p (gaining_image (by rank) least k c (s.page p))) o (ceding_image (by rank) least k (s.page o)) q
  unfolding upd
  pages-adopt s p o k c a b q = grind arith

  pages-grow : (s : Logged K V) (o a b q : ℕ)
      → made (by rank) least (Grow o) q s.page (source_of {K = K} {V = V} (Grow o) a b q)
      ≡ upd (upd s.page o (s.page 0)) 0 (risen_image (by rank) least o (s.page 0)) q
  unfolding upd
  pages-grow s o a b q = grind arith

  pages-format : (a b q : ℕ) → made (by rank) least Format q (λ p. blank {V = V} (by rank) least) (source_of {K = K} {V = V} Format a b q) ≡ blank (by rank) least
  pages-format a b q = grind arith

  abbrev new : State K V
  new = record { born = 1; page = λ q. blank (by rank) least; stands = λ j. None }

  new-sound : Sound rank top least new
  new-sound = record {
    shape = record {
      any = omega arith;
      root_low = refl;
      root_high = refl;
      tallest = λ p b. omega arith;
      spans = λ p b. ranked.below_top least;
      ascends = λ p b. tt;
      foster_below = λ p b f e. absurd (none-some f e);
      fosters = λ p b f e. absurd (none-some f e);
      children = λ p b l k e h. absurd (omega arith);
      one_pointer = λ p b q c l f k e e' h w. none-some f e;
      apart = λ p b q c k e g h. omega arith;
    };
    pairs_ascend = λ p b. tt;
    leaves = λ p b k e h. refl;
  }

  pub stays : (ch : Change K V) (a b : ℕ) (s : Logged K V) → May rank top least ch s → Sound rank top least (tree s)
      → Sound rank top least (tree (append (by rank) least (record { change = ch; prev = a; prev_other = b }) s))
  stays Format a b s may sound = absurd (omega (arith, sound.shape.any, ap (λ t. t.born) may))
  stays (Put p k v) a b s may sound =
      subst (Sound rank top least) (λ i. record { born = s.born; page = λ q. sym (pages-put s p k v a b q) i; stands = (put (by rank) least p k v (tree s)).stands })
      (put-stays rank top least (tree s) sound p k may v)
  stays (Remove p k) a b s may sound =
      subst (Sound rank top least) (λ i. record { born = s.born; page = λ q. sym (pages-remove s p k a b q) i; stands = (remove (by rank) least p k (tree s)).stands })
      (remove-stays rank top least (tree s) sound p k may)
  stays (Foster p o d) a b s may sound =
      subst (Sound rank top least) (λ i. record { born = suc s.born; page = λ q. page_is q i; stands = s.stands })
      (divide-stays rank top least ranked (tree s) sound p d may.1)
    where
      page_is : (q : ℕ) → (divide (by rank) least p d (tree s)).page q ≡ made (by rank) least (Foster p o d) q s.page (source_of {V = V} (Foster p o d) a b q)
      page_is q = ap (λ n. upd (upd s.page p (lower_image (by rank) least d n (s.page p))) n (upper_image (by rank) least d (s.page p)) q) (sym may.0)
          ∙ sym (pages_divide s p o d a b q)
  stays (Adopt p o k c) a b s may sound =
      subst (Sound rank top least) (λ i. record { born = s.born; page = λ q. sym (pages-adopt s p o k c a b q) i; stands = s.stands })
      (adopt-stays rank top least ranked (tree s) sound p o k c may)
  stays (Grow o) a b s may sound =
      subst (Sound rank top least) (λ i. record { born = suc s.born; page = λ q. page_is q i; stands = s.stands })
      (grow-stays rank top least ranked (tree s) sound)
    where
      page_is : (q : ℕ) → (grow (by rank) least (tree s)).page q ≡ made (by rank) least (Grow o) q s.page (source_of {K = K} {V = V} (Grow o) a b q)
      page_is q = ap (λ n. upd (upd s.page n (s.page 0)) 0 (risen_image (by rank) least n (s.page 0)) q) (sym may)
          ∙ sym (pages-grow s o a b q)

  kept_on : (rs : List (Rec K V)) (s : Logged K V) → Kept rank top least s rs → Sound rank top least (tree s) → Sound rank top least (tree (run (by rank) least s rs))
  kept_on [] s k sound = sound
  kept_on (r ∷ rs) s k sound =
      kept_on rs (append (by rank) least r s) k.1 (stays r.change r.prev r.prev_other s k.0 sound)

  pub kept-sound : (r : Rec K V) (rs : List (Rec K V)) → Kept rank top least (start (by rank) least) (r ∷ rs) → r.change ≡ Format
      → Sound rank top least (tree (run (by rank) least (start (by rank) least) (r ∷ rs)))
  kept-sound r rs k e = kept_on rs (append (by rank) least r (start (by rank) least)) k.1
      (subst (λ ch. Sound rank top least (tree (append (by rank) least (record { change = ch; prev = r.prev; prev_other = r.prev_other }) (start (by rank) least)))) (sym e)
      (subst (Sound rank top least) (λ i. record { born = 1; page = λ q. sym (pages-format r.prev r.prev_other q) i; stands = λ j. None }) new-sound))
