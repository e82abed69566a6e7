-- What changes made one after another do: to a log, to the pages and to the keys that stand.
use Rattle.std.proofs.Common.{◌≡◌, ℕ, zero, suc, ◌<◌, ◌≤◌, Bool, true, false, cond, ltb, leb, ◌⊎◌, List, [], ◌∷◌, ◌++◌, Some, None, Option, sym, refl, ap, ◌∙◌, subst, inl, inr, arith}
use Prim.Native.Nat.{Ordering}
use Rattle.std.proofs.Math.Dec.{compare_is_eq}
use Rattle.tree.specs.Rows.{by, set}
use Rattle.tree.specs.Tree.{Image, Ranking, Sound, kid}
use Rattle.tree.specs.Log.{Change, Rec, Source, source, touched, made, standing, Logged, append, run, tree, May, Linked}
use Rattle.tree.specs.Log.Change.{Format, Put, Remove, Foster, Adopt, Grow}
use Rattle.tree.specs.Log.Source.{Out, Fresh, Earlier}
use Rattle.tree.specs.Halves.{total, divider}
use Rattle.tree.specs.Plan.{linked, changed, changes, planned_put, put_divided, planned_tend, divided_branch, step_else, steps_under, rootwards, MayAll}
use Rattle.tree.specs.Plan.{all_linked, Begins}
use Rattle.tree.specs.Plan.Begins.{nothing, more}
use Rattle.tree.proofs.Kept.{stays}
use Rattle.std.proofs.lemmas.Bool.{cond_both}

module _ {K V : Type 0} (cmp : K → K → Ordering) (least : K) where
  pub run-append : (s : Logged K V) (rs qs : List (Rec K V)) → run cmp least s (rs ++ qs) ≡ run cmp least (run cmp least s rs) qs
  run-append s [] qs = refl
  run-append s (r ∷ rs) qs = run-append (append cmp least r s) rs qs

  pub run-linked : (s : Logged K V) (cs : List (Change K V)) → run cmp least s (all_linked cmp least s cs) ≡ changes cmp least s cs
  run-linked s [] = refl
  run-linked s (c ∷ cs) = run-linked (changed cmp least s c) cs

  pub link-append : (suits : Change K V → ℕ → Image K V → Bool) (s : Logged K V) (rs qs : List (Rec K V)) → Linked cmp least suits s rs → Linked cmp least suits (run cmp least s rs) qs → Linked cmp least suits s (rs ++ qs)
  link-append suits s [] qs l m = m
  link-append suits s (r ∷ rs) qs l m = (l.0, link-append suits (append cmp least r s) rs qs l.1 m)

  -- what stands after some changes
  abbrev pub standing_all : List (Change K V) → (K → Option V) → K → Option V
  standing_all [] f = f
  standing_all (c ∷ cs) f = standing_all cs (standing cmp least c f)

  changed-stands : (s : Logged K V) (c : Change K V) → (changed cmp least s c).stands ≡ standing cmp least c s.stands
  changed-stands s Format = refl
  changed-stands s (Put p k v) = refl
  changed-stands s (Remove p k) = refl
  changed-stands s (Foster p o d) = refl
  changed-stands s (Adopt p o k c) = refl
  changed-stands s (Grow o) = refl

  pub changes-stand : (s : Logged K V) (cs : List (Change K V)) → (changes cmp least s cs).stands ≡ standing_all cs s.stands
  changes-stand s [] = refl
  changes-stand s (c ∷ cs) = changes-stand (changed cmp least s c) cs ∙ ap (standing_all cs) (changed-stands s c)

  -- a page is left out of a change, or its newest position rises
  moved_once : (s : Logged K V) (c : Change K V) → ((p : ℕ) → s.newest p ≤ s.count) → (p : ℕ)
      → (((changed cmp least s c).newest p ≡ s.newest p) × ((changed cmp least s c).page p ≡ s.page p)) ⊎ (s.newest p < (changed cmp least s c).newest p)
  moved_once s c within p = go (source (linked s c) p) refl
    where
      go : (w : Source) → source (linked s c) p ≡ w
          → (((changed cmp least s c).newest p ≡ s.newest p) × ((changed cmp least s c).page p ≡ s.page p)) ⊎ (s.newest p < (changed cmp least s c).newest p)
      go Out e = inl (ap (λ x. touched x (suc s.count) (s.newest p)) e, ap (λ x. made cmp least (linked s c).change p s.page x) e)
      go Fresh e = inr (subst (λ x. s.newest p < touched x (suc s.count) (s.newest p)) (sym e) (omega (arith, within p)))
      go (Earlier q n) e = inr (subst (λ x. s.newest p < touched x (suc s.count) (s.newest p)) (sym e) (omega (arith, within p)))

  within_once : (s : Logged K V) (r : Rec K V) → ((p : ℕ) → s.newest p ≤ s.count) → (p : ℕ) → (append cmp least r s).newest p ≤ suc s.count
  within_once s r within p = go (source r p)
    where
      go : (w : Source) → touched w (suc s.count) (s.newest p) ≤ suc s.count
      go Out = omega (arith, within p)
      go Fresh = omega arith
      go (Earlier q n) = omega arith

  pub moved : (s : Logged K V) (cs : List (Change K V)) → ((p : ℕ) → s.newest p ≤ s.count) → (p : ℕ)
      → (((changes cmp least s cs).newest p ≡ s.newest p) × ((changes cmp least s cs).page p ≡ s.page p)) ⊎ (s.newest p < (changes cmp least s cs).newest p)
  moved s [] within p = inl (refl, refl)
  moved s (c ∷ cs) within p = go (moved_once s c within p) (moved (changed cmp least s c) cs (within_once s (linked s c) within) p)
    where
      go : (((changed cmp least s c).newest p ≡ s.newest p) × ((changed cmp least s c).page p ≡ s.page p)) ⊎ (s.newest p < (changed cmp least s c).newest p)
          → (((changes cmp least s (c ∷ cs)).newest p ≡ (changed cmp least s c).newest p) × ((changes cmp least s (c ∷ cs)).page p ≡ (changed cmp least s c).page p))
          ⊎ ((changed cmp least s c).newest p < (changes cmp least s (c ∷ cs)).newest p)
          → (((changes cmp least s (c ∷ cs)).newest p ≡ s.newest p) × ((changes cmp least s (c ∷ cs)).page p ≡ s.page p))
          ⊎ (s.newest p < (changes cmp least s (c ∷ cs)).newest p)
      go (inl a) (inl b) = inl (b.0 ∙ a.0, b.1 ∙ a.1)
      go (inl a) (inr b) = inr (omega arith)
      go (inr a) (inl b) = inr (omega arith)
      go (inr a) (inr b) = inr (omega arith)

  pub within-run : (s : Logged K V) (rs : List (Rec K V)) → ((p : ℕ) → s.newest p ≤ s.count) → (p : ℕ) → (run cmp least s rs).newest p ≤ (run cmp least s rs).count
  within-run s [] within = within
  within-run s (r ∷ rs) within = within-run (append cmp least r s) rs (within_once s r within)

abbrev pub is_put : {K V : Type 0} → Change K V → Bool
is_put Format = false
is_put (Put p k v) = true
is_put (Remove p k) = false
is_put (Foster p o d) = false
is_put (Adopt p o k c) = false
is_put (Grow o) = false

abbrev pub is_remove : {K V : Type 0} → Change K V → Bool
is_remove Format = false
is_remove (Put p k v) = false
is_remove (Remove p k) = true
is_remove (Foster p o d) = false
is_remove (Adopt p o k c) = false
is_remove (Grow o) = false

abbrev pub any : {A : Type 0} → (A → Bool) → List A → Bool
any f [] = false
any f (x ∷ xs) = cond (f x) true (any f xs)

-- changes that put one value at one key and remove nothing; that remove one key; that do neither
module _ {K V : Type 0} where
  abbrev pub Putting : K → V → Change K V → Type 0
  Putting k v Format = Unit {0}
  Putting k v (Put p j u) = (j ≡ k) × (u ≡ v)
  Putting k v (Remove p j) = ⊥
  Putting k v (Foster p o d) = Unit {0}
  Putting k v (Adopt p o j c) = Unit {0}
  Putting k v (Grow o) = Unit {0}

  abbrev pub Removing : K → Change K V → Type 0
  Removing k Format = Unit {0}
  Removing k (Put p j u) = ⊥
  Removing k (Remove p j) = j ≡ k
  Removing k (Foster p o d) = Unit {0}
  Removing k (Adopt p o j c) = Unit {0}
  Removing k (Grow o) = Unit {0}

  abbrev pub Quiet : Change K V → Type 0
  Quiet Format = Unit {0}
  Quiet (Put p j u) = ⊥
  Quiet (Remove p j) = ⊥
  Quiet (Foster p o d) = Unit {0}
  Quiet (Adopt p o j c) = Unit {0}
  Quiet (Grow o) = Unit {0}

  abbrev pub Each : (Change K V → Type 0) → List (Change K V) → Type 0
  Each P [] = Unit {0}
  Each P (c ∷ cs) = P c × Each P cs

  pub each-begins : (P : Change K V → Type 0) {bs cs : List (Change K V)} → Begins bs cs → Each P cs → Each P bs
  each-begins P nothing h = tt
  each-begins P (more b) h = (h.0, each-begins P b h.1)

module _ {K V : Type 0} (cmp : K → K → Ordering) (least : K) where
  pub quiet_stands : (cs : List (Change K V)) (f : K → Option V) → Each Quiet cs → (j : K) → standing_all cmp least cs f j ≡ f j
  quiet_stands [] f h j = refl
  quiet_stands (Format ∷ cs) f h j = quiet_stands cs f h.1 j
  quiet_stands (Put p k v ∷ cs) f h j = absurd h.0
  quiet_stands (Remove p k ∷ cs) f h j = absurd h.0
  quiet_stands (Foster p o d ∷ cs) f h j = quiet_stands cs f h.1 j
  quiet_stands (Adopt p o k c ∷ cs) f h j = quiet_stands cs f h.1 j
  quiet_stands (Grow o ∷ cs) f h j = quiet_stands cs f h.1 j

  -- a put's changes set its key, if its own record is among them
  pub putting-stands : (k : K) (v : V) (cs : List (Change K V)) (f : K → Option V) → Each (Putting k v) cs → (j : K)
      → standing_all cmp least cs f j ≡ cond (any is_put cs) (cond (compare_is_eq (cmp j k)) (Some v) (f j)) (f j)
  putting-stands k v [] f h j = refl
  putting-stands k v (Format ∷ cs) f h j = putting-stands k v cs f h.1 j
  putting-stands k v (Put p i u ∷ cs) f h j =
      putting-stands k v cs (standing cmp least (Put p i u) f) h.1 j
      ∙ (let a = h.0.0 in let b = h.0.1 in grind arith)
  putting-stands k v (Remove p i ∷ cs) f h j = absurd h.0
  putting-stands k v (Foster p o d ∷ cs) f h j = putting-stands k v cs f h.1 j
  putting-stands k v (Adopt p o i c ∷ cs) f h j = putting-stands k v cs f h.1 j
  putting-stands k v (Grow o ∷ cs) f h j = putting-stands k v cs f h.1 j

  pub removing-stands : (k : K) (cs : List (Change K V)) (f : K → Option V) → Each (Removing k) cs → (j : K)
      → standing_all cmp least cs f j ≡ cond (any is_remove cs) (cond (compare_is_eq (cmp j k)) None (f j)) (f j)
  removing-stands k [] f h j = refl
  removing-stands k (Format ∷ cs) f h j = removing-stands k cs f h.1 j
  removing-stands k (Put p i u ∷ cs) f h j = absurd h.0
  removing-stands k (Remove p i ∷ cs) f h j =
      removing-stands k cs (standing cmp least (Remove p i) f) h.1 j
      ∙ (let a = h.0 in grind arith)
  removing-stands k (Foster p o d ∷ cs) f h j = removing-stands k cs f h.1 j
  removing-stands k (Adopt p o i c ∷ cs) f h j = removing-stands k cs f h.1 j
  removing-stands k (Grow o ∷ cs) f h j = removing-stands k cs f h.1 j

module _ {K V : Type 0} (rank : K → ℕ) (top : ℕ) (least : K) (ranked : Ranking rank top least) where
  -- each record of a planned change has the right previous positions
  pub link_once : (s : Logged K V) (c : Change K V) → May rank top least c s → Sound rank top least (tree s) → ((p : ℕ) → p < s.born → 0 < s.newest p)
      → (p q n : ℕ) → source (linked s c) p ≡ Earlier q n → (n ≡ s.newest q) × (0 < n)
  link_once s Format may sound pos p q n e = absurd (omega (arith, sound.shape.any, ap (λ t. t.born) may))
  link_once s (Put o k v) may sound pos p q n e = let t = pos o may.is_born in (grind arith, grind arith)
  link_once s (Remove o k) may sound pos p q n e = let t = pos o may.is_born in (grind arith, grind arith)
  link_once s (Foster o r d) may sound pos p q n e = let t = pos o may.1.is_born in (grind arith, grind arith)
  link_once s (Adopt o y k c) may sound pos p q n e =
      let t = pos o may.is_born in
      let b = (sound.shape.children o may.is_born may.below may.key may.level may.holds).is_born in
      let u = pos y (omega (arith, b, may.leads)) in
      (grind arith, grind arith)
  link_once s (Grow o) may sound pos p q n e = let t = pos 0 sound.shape.any in (grind arith, grind arith)

  pub positive_once : (s : Logged K V) (c : Change K V) → May rank top least c s → Sound rank top least (tree s) → ((p : ℕ) → p < s.born → 0 < s.newest p)
      → (p : ℕ) → p < (changed (by rank) least s c).born → 0 < (changed (by rank) least s c).newest p
  positive_once s Format may sound pos p b = absurd (omega (arith, sound.shape.any, ap (λ t. t.born) may))
  positive_once s (Put o k v) may sound pos p b = let t = pos p b in grind arith
  positive_once s (Remove o k) may sound pos p b = let t = pos p b in grind arith
  positive_once s (Foster o r d) may sound pos p b = let t : p < s.born → 0 < s.newest p = pos p in let u = may.0 in grind arith
  positive_once s (Adopt o y k c) may sound pos p b = let t = pos p b in grind arith
  positive_once s (Grow o) may sound pos p b = let t : p < s.born → 0 < s.newest p = pos p in grind arith

  pub record StandsWell (s : Logged K V) : Type 0 where
    pub sound : Sound rank top least (tree s)
    pub positive : (p : ℕ) → p < s.born → 0 < s.newest p

  pub changed-sound : (s : Logged K V) (c : Change K V) → May rank top least c s → Sound rank top least (tree s) → Sound rank top least (tree (changed (by rank) least s c))
  changed-sound s Format may sound = stays rank top least ranked Format 0 0 s may sound
  changed-sound s (Put p k v) may sound = stays rank top least ranked (Put p k v) (s.newest p) 0 s may sound
  changed-sound s (Remove p k) may sound = stays rank top least ranked (Remove p k) (s.newest p) 0 s may sound
  changed-sound s (Foster p o d) may sound = stays rank top least ranked (Foster p o d) (s.newest p) 0 s may sound
  changed-sound s (Adopt p o k c) may sound = stays rank top least ranked (Adopt p o k c) (s.newest p) (s.newest o) s may sound
  changed-sound s (Grow o) may sound = stays rank top least ranked (Grow o) (s.newest 0) 0 s may sound

  pub may-begins : (s : Logged K V) {bs cs : List (Change K V)} → Begins bs cs → MayAll rank top least s cs → MayAll rank top least s bs
  may-begins s nothing may = tt
  may-begins s (more {c = c} b) may = (may.0, may-begins (changed (by rank) least s c) b may.1)

-- what the plans are made of
module _ {K V : Type 0} (cmp : K → K → Ordering) (pair_cost : K × V → ℕ) (kid_cost : K × ℕ → ℕ) where
  pub put-puts : (s : Logged K V) (p : ℕ) (k : K) (v : V) → Each (Putting k v) (planned_put cmp pair_cost kid_cost s p k v)
  put-puts s p k v = cond_both (leb (total pair_cost (set cmp k v (s.page p).pairs)) 436) (Put p k v ∷ []) (put_divided cmp pair_cost kid_cost p s.born k v (divider pair_cost (s.page p).pairs)) (Each (Putting k v)) (λ _. ((refl, refl), tt)) (λ _. go (divider pair_cost (s.page p).pairs))
    where
      go : (o : Option K) → Each (Putting k v) (put_divided cmp pair_cost kid_cost p s.born k v o)
      go None = ((refl, refl), tt)
      go (Some d) = (tt, ((refl, refl), tt))

  pub put-own : (s : Logged K V) (p : ℕ) (k : K) (v : V) → any is_put (planned_put cmp pair_cost kid_cost s p k v) ≡ true
  put-own s p k v = cond_both (leb (total pair_cost (set cmp k v (s.page p).pairs)) 436) (Put p k v ∷ []) (put_divided cmp pair_cost kid_cost p s.born k v (divider pair_cost (s.page p).pairs)) (λ cs. any is_put cs ≡ true) (λ _. refl) (λ _. go (divider pair_cost (s.page p).pairs))
    where
      go : (o : Option K) → any is_put (put_divided cmp pair_cost kid_cost p s.born k v o) ≡ true
      go None = refl
      go (Some d) = refl

  steps_quiet : (s : Logged K V) (k : K) (l p : ℕ) → Each Quiet (steps_under cmp pair_cost kid_cost s k l p)
  steps_quiet s k zero p = tt
  steps_quiet s k (suc l) p = go (kid cmp (s.page p).frame k).1 (s.page (kid cmp (s.page p).frame k).1).frame.foster (steps_quiet s k l (kid cmp (s.page p).frame k).1)
    where
      branch : (q : ℕ) (o : Option K) → Each Quiet (divided_branch cmp pair_cost kid_cost q s.born o)
      branch q None = tt
      branch q (Some d) = (tt, tt)

      go : (c : ℕ) (o : Option (K × ℕ)) → Each Quiet (steps_under cmp pair_cost kid_cost s k l c)
          → Each Quiet (step_else cmp pair_cost kid_cost s p c (steps_under cmp pair_cost kid_cost s k l c) o)
      go c None h = h
      go c (Some f) h = cond_both (leb (total kid_cost (set cmp f.0 f.1 (s.page p).frame.kids)) 436) (Adopt p c f.0 f.1 ∷ [])
          (divided_branch cmp pair_cost kid_cost p s.born (divider kid_cost (s.page p).frame.kids)) (Each Quiet) (λ _. (tt, tt)) (λ _. branch p (divider kid_cost (s.page p).frame.kids))

  pub tend_quiet : (s : Logged K V) (k : K) → Each Quiet (planned_tend cmp pair_cost kid_cost s k)
  tend_quiet s k = go (s.page 0).frame.foster
    where
      go : (o : Option (K × ℕ)) → Each Quiet (rootwards cmp pair_cost kid_cost s k o)
      go None = steps_quiet s k (s.page 0).frame.level 0
      go (Some f) = cond_both (ltb (s.page 0).frame.level 255) (Grow s.born ∷ []) [] (Each Quiet) (λ _. (tt, tt)) (λ _. tt)
