-- A way over well-formed pages meets no page twice, whatever the log.
use Rattle.std.proofs.Common.{◌≡◌, ℕ, zero, suc, ◌+◌, ◌-◌, ◌<◌, ◌≤◌, Bool, true, false, cond, ltb, Some, None, Option, sym, refl, ap, ◌∙◌, subst, inl, inr, arith}
use Rattle.std.proofs.Math.Dec.{is_le}
use Rattle.tree.specs.Rows.{by}
use Rattle.tree.specs.Tree.{Frame, Image, Ranking, kid, bound}
use Rattle.tree.specs.Walk.{Fetched, Due, check, entered, onward_due, walk_on, walk_checked, walk_fetched, walk, onto, visit, due_root, Formed}
use Rattle.tree.specs.Walk.Fault.{Wrong}
use Rattle.tree.specs.Walk.Fetched.{Page, Failed}
use Rattle.tree.specs.Walk.Walked.{Stopped}
use Rattle.tree.proofs.Rows.{floor_ge}
use Rattle.ranks.proofs.Tally.{tally, tally-lt, tally_most}
use Rattle.tree.proofs.Walk.{below, length-below, in-below, all-below}
use Rattle.tree.proofs.Upd.{none-some}
use Rattle.std.proofs.lemmas.Bool.{lt-ltb, le-ltb, ltb-true, cases_Bool}

module _ {K V : Type 0} (rank : K → ℕ) (top : ℕ) (least : K) (ranked : Ranking rank top least) (fetch : ℕ → Fetched K V) (born : ℕ)
    (formed : (p : ℕ) (x : Image K V) → fetch p ≡ Page x → Formed rank top x) (k : K) where
  abbrev pub heft : Frame K → ℕ
  heft x = x.level + (top - rank x.low)

  abbrev pub heft_of : Fetched K V → ℕ
  heft_of (Page x) = heft x.frame
  heft_of (Failed f) = 0

  pub left : ℕ → ℕ
  left p = tally (λ q. ltb (heft_of (fetch q)) (heft_of (fetch p))) (below born)

  pub left-falls : (p q : ℕ) → q < born → heft_of (fetch q) < heft_of (fetch p) → left q < left p
  unfolding left
  left-falls p q b h = tally-lt (λ r. ltb (heft_of (fetch r)) (heft_of (fetch q))) (λ r. ltb (heft_of (fetch r)) (heft_of (fetch p))) q (below born)
      (all-below (λ r. ltb (heft_of (fetch r)) (heft_of (fetch q)) ≡ true → ltb (heft_of (fetch r)) (heft_of (fetch p)) ≡ true)
      (λ r e. lt-ltb (heft_of (fetch r)) (heft_of (fetch p)) (omega (arith, ltb-true (heft_of (fetch r)) (heft_of (fetch q)) e))) born)
      (le-ltb (heft_of (fetch q)) (heft_of (fetch q)) (omega arith)) (lt-ltb (heft_of (fetch q)) (heft_of (fetch p)) h) (in-below q born b)

  pub left_most : (p : ℕ) → p < born → left p < born
  unfolding left
  left_most p b =
      let t = tally-lt (λ r. ltb (heft_of (fetch r)) (heft_of (fetch p))) (λ r. true) p (below born)
      (all-below (λ r. ltb (heft_of (fetch r)) (heft_of (fetch p)) ≡ true → true ≡ true) (λ r _. refl) born)
      (le-ltb (heft_of (fetch p)) (heft_of (fetch p)) (omega arith)) refl (in-below p born b) in
      omega (arith, t, tally_most (λ (r : ℕ). true) (below born), length-below born)

  -- a page that is what is due weighs as what is due
  checked : (d : Due K) (l : ℕ) (y : Frame K) → d.level ≡ Some l → check (by rank) d y ≡ 0 → (rank d.low ≡ rank y.low) × (l ≡ y.level)
  checked d l y e c = (grind arith, grind arith)

  pub lighter : (x : Image K V) → Formed rank top x → (q : ℕ) (d : Due K) → onward_due (by rank) k x.frame x.frame.foster ≡ Some (q, d)
      → (y : Frame K) → check (by rank) d y ≡ 0 → heft y < heft x.frame
  lighter x form q d e y c = go x.frame.foster refl e
    where
      second : (a b : ℕ × Due K) → Some a ≡ Some b → a.1 ≡ b.1
      second a b i = ap (λ o. elim o [ None ↦ a.1 | Some z ↦ z.1 ]) i

      into : (l : ℕ) → x.frame.level ≡ l → entered (by rank) k x.frame l ≡ Some (q, d) → heft y < heft x.frame
      into zero i j = absurd (none-some (q, d) j)
      into (suc l) i j =
          let due : Due K = record { low = (kid (by rank) x.frame k).0; high = bound (by rank) x.frame k; level = Some l } in
          let w : due ≡ d = second ((kid (by rank) x.frame k).1, due) (q, d) j in
          let h = checked due l y refl (subst (λ z. check (by rank) z y ≡ 0) (sym w) c) in
          let g = floor_ge rank k (x.frame.low, 0) _ _ x.frame.kids form.ascends (omega arith) in
          omega (arith, h.0, h.1)

      go : (o : Option (K × ℕ)) → x.frame.foster ≡ o → onward_due (by rank) k x.frame o ≡ Some (q, d) → heft y < heft x.frame
      go None i j = into x.frame.level refl j
      go (Some f) i j = elim (cases_Bool (is_le (by rank f.0 k))) [
        | inl t ↦
            let due : Due K = record { low = f.0; high = x.frame.high; level = Some x.frame.level } in
            let v = ap (λ b. cond b (Some (f.1, due)) (entered (by rank) k x.frame x.frame.level)) t in
            let w : due ≡ d = second (f.1, due) (q, d) (sym v ∙ j) in
            let h = checked due x.frame.level y refl (subst (λ z. check (by rank) z y ≡ 0) (sym w) c) in
            omega (arith, h.0, h.1, form.foster_above f i, ranked.below_top f.0)
        | inr t ↦
            let due : Due K = record { low = f.0; high = x.frame.high; level = Some x.frame.level } in
            let v = ap (λ b. cond b (Some (f.1, due)) (entered (by rank) k x.frame x.frame.level)) t in
            into x.frame.level refl (sym v ∙ j)
      ]

  -- fuel that is enough at page p
  abbrev Spare : ℕ → ℕ → Due K → Type 0
  Spare n p d = (0 < n) × ((x : Image K V) → fetch p ≡ Page x → check (by rank) d x.frame ≡ 0 → p < born → suc (left p) < n)

  walk_same : (n m p : ℕ) (d : Due K) → Spare n p d → Spare m p d → walk (by rank) fetch born k n p d ≡ walk (by rank) fetch born k m p d
  walk_same zero m p d a b = absurd (omega (arith, a.0))
  walk_same (suc n) zero p d a b = absurd (omega (arith, b.0))
  walk_same (suc n) (suc m) p d a b = go (ltb p born) refl (fetch p) refl (walk_same n m)
    where
      spare : (t : ℕ) (x : Image K V) → fetch p ≡ Page x → suc (left p) < suc t → (q : ℕ) (e : Due K) → onward_due (by rank) k x.frame x.frame.foster ≡ Some (q, e) → Spare t q e
      spare t x i l q e j = (
        omega arith,
        λ y u c o.
            let h = lighter x (formed p x i) q e j y.frame c in
            let g = left-falls p q o (omega (arith, ap heft_of u, ap heft_of i)) in
            omega arith,
      )

      onwards : (x : Image K V) → fetch p ≡ Page x → suc (left p) < suc n → suc (left p) < suc m
          → ((q : ℕ) (e : Due K) → Spare n q e → Spare m q e → walk (by rank) fetch born k n q e ≡ walk (by rank) fetch born k m q e)
          → (o : Option (ℕ × Due K)) → onward_due (by rank) k x.frame x.frame.foster ≡ o
          → walk_on (by rank) (walk (by rank) fetch born k n) p x o ≡ walk_on (by rank) (walk (by rank) fetch born k m) p x o
      onwards x i l r ih None j = refl
      onwards x i l r ih (Some z) j = ap (onto (visit p x)) (ih z.0 z.1 (spare n x i l z.0 z.1 j) (spare m x i r z.0 z.1 j))

      judged : (x : Image K V) → fetch p ≡ Page x → p < born
          → ((q : ℕ) (e : Due K) → Spare n q e → Spare m q e → walk (by rank) fetch born k n q e ≡ walk (by rank) fetch born k m q e)
          → (c : ℕ) → check (by rank) d x.frame ≡ c
          → walk_checked (by rank) (walk (by rank) fetch born k n) k p x c ≡ walk_checked (by rank) (walk (by rank) fetch born k m) k p x c
      judged x i o ih zero j = onwards x i (a.1 x i j o) (b.1 x i j o) ih (onward_due (by rank) k x.frame x.frame.foster) refl
      judged x i o ih (suc c) j = refl

      go : (t : Bool) → ltb p born ≡ t → (f : Fetched K V) → fetch p ≡ f
          → ((q : ℕ) (e : Due K) → Spare n q e → Spare m q e → walk (by rank) fetch born k n q e ≡ walk (by rank) fetch born k m q e)
          → cond t (walk_fetched (by rank) (walk (by rank) fetch born k n) k p d f) (Stopped (Wrong p 4))
          ≡ cond t (walk_fetched (by rank) (walk (by rank) fetch born k m) k p d f) (Stopped (Wrong p 4))
      go false e f i ih = refl
      go true e (Failed f) i ih = refl
      go true e (Page x) i ih = judged x i (ltb-true p born e) ih (check (by rank) d x.frame) refl

  pub way-short : (n : ℕ) → suc born ≤ n → walk (by rank) fetch born k n 0 (due_root least) ≡ walk (by rank) fetch born k (suc born) 0 (due_root least)
  way-short n h = walk_same n (suc born) 0 (due_root least)
      (omega arith, λ x e c b. omega (arith, left_most 0 b)) (omega arith, λ x e c b. omega (arith, left_most 0 b))
