-- The way of a key is the same plan, however many pages beyond those that are born it may meet: along it the pages get lighter.
use Rattle.std.proofs.Common.{◌≡◌, ℕ, zero, suc, ◌<◌, ◌≤◌, Bool, true, false, cond, ltb, List, ◌++◌, length, Some, None, Ok, Err, Option, Result, sym, refl, ap, ◌∙◌, subst, arith}
use Prim.Native.Nat.{Ordering}
use Rattle.std.proofs.lemmas.Bool.{ltb-true}
use Rattle.order.specs.Lawful.{Says}
use Rattle.tree.specs.Tree.{Image}
use Rattle.tree.specs.Walk.{Fetched, Due, visit, check, onward_due, due_root, Formed}
use Rattle.tree.specs.Walk.Fault.{Gone}
use Rattle.tree.specs.Walk.Fetched.{Page, Failed}
use Rattle.tree.proofs.Short.{heft, heft_of, left, left-falls, left_most, lighter}
use Rattle.images.specs.Keys.{Key, Value, empty_key, keyed}
use Rattle.images.specs.Laws.{Ranked}
use Rattle.images.proofs.Orders.{orders_rank_keys}
use Rattle.model.specs.declared.refusal.Refusal.{Refusal}
use Rattle.model.specs.Worlds.{World, born, done}
use Rattle.model.specs.Plans.{Plan, onward, after}
use Rattle.model.specs.Fetches.{fetching}
use Rattle.model.specs.Ways.{Route, met, onwards, compared, arrived, going, way}
use Rattle.endings.specs.Endings.{WaysEndOverAnyPages}
use Rattle.endings.proofs.Meanings.{mending-keeps, fetched_formed}

-- a plan, and two that go on alike from its answer
after_same : {X Y : Type 0} (w : World) (P : Plan X) (k l : X → World → Plan Y) → ((x : X) → P.answer ≡ Ok x → k x (done P.actions w) ≡ l x (done P.actions w))
    → after w P k ≡ after w P l
unfolding after
after_same {X = X} w P k l h = go P.answer refl
  where
    go : (a : Result X Refusal) → P.answer ≡ a → onward P.actions w a k ≡ onward P.actions w a l
    go (Ok x) e = let t = h x e in λ i. record { actions = P.actions ++ (t i).actions; answer = (t i).answer }
    go (Err ε) e = refl

cond_same : {A : Type 0} (t : Bool) (x y z : A) → (t ≡ true → x ≡ y) → cond t x z ≡ cond t y z
cond_same true x y z h = h refl
cond_same false x y z h = refl

-- a page as it was fetched
abbrev as_page : Result (Image Key Value) Refusal → Fetched Key Value
as_page (Ok x) = Page x
as_page (Err ε) = Failed (Gone 0 0)

page-ok : (a : Result (Image Key Value) Refusal) (x : Image Key Value) → as_page a ≡ Page x → a ≡ Ok x
page-ok (Ok y) x e = let z : y ≡ x = cc in ap {B = Result (Image Key Value) Refusal} (λ (i : Image Key Value). Ok i) z
page-ok (Err ε) x e = let z : ◌≡◌ {A = ℕ} 0 1 = cc in absurd (omega arith)

module _ (says : Says) (r : Ranked says) (k : Key) (born-are : ℕ) (means : ℕ → Result (Image Key Value) Refusal)
    (formed : (p : ℕ) (x : Image Key Value) → means p ≡ Ok x → Formed r.rank r.top x) where
  abbrev fetch : ℕ → Fetched Key Value
  fetch p = as_page (means p)

  fetch-formed : (p : ℕ) (x : Image Key Value) → fetch p ≡ Page x → Formed r.rank r.top x
  fetch-formed p x e = formed p x (page-ok (means p) x e)

  -- how many born pages are lighter
  abbrev lighters : ℕ → ℕ
  lighters p = left r.rank r.top empty_key r.ranking fetch born-are fetch-formed k p

  -- a world in which every page means so
  record Stays (v : World) : Type 0 where
    borns : born v ≡ born-are
    meant : (q : ℕ) → (fetching says v q).answer ≡ means q

  -- fuel that is enough at page p
  abbrev Spare : ℕ → ℕ → Due Key → Type 0
  Spare n p d = (0 < n) × ((x : Image Key Value) → means p ≡ Ok x → check (keyed says) d x.frame ≡ 0 → p < born-are → suc (lighters p) < n)

  falls : (p : ℕ) (x : Image Key Value) → means p ≡ Ok x → (q : ℕ) (d : Due Key) → onward_due (keyed says) k x.frame x.frame.foster ≡ Some (q, d)
      → (y : Image Key Value) → means q ≡ Ok y → check (keyed says) d y.frame ≡ 0 → q < born-are → lighters q < lighters p
  falls p x i q d e y j c b =
      let light = subst (λ (o : Key → Key → Ordering). onward_due o k x.frame x.frame.foster ≡ Some (q, d) → check o d y.frame ≡ 0
      → heft r.rank r.top empty_key r.ranking fetch born-are fetch-formed k y.frame < heft r.rank r.top empty_key r.ranking fetch born-are fetch-formed k x.frame) (sym r.told)
      (λ u v. lighter r.rank r.top empty_key r.ranking fetch born-are fetch-formed k x (formed p x i) q d u y.frame v) in
      let h = light e c in
      let of = heft_of r.rank r.top empty_key r.ranking fetch born-are fetch-formed k in
      left-falls r.rank r.top empty_key r.ranking fetch born-are fetch-formed k p q b
      (omega (arith, ap (λ a. of (as_page a)) i, ap (λ a. of (as_page a)) j))

  going-same : (n m : ℕ) (v : World) → Stays v → (p : ℕ) (d : Due Key) → Spare n p d → Spare m p d → going says k n v p d ≡ going says k m v p d
  unfolding going
  going-same zero m v s p d a b = absurd (omega (arith, a.0))
  going-same (suc n) zero v s p d a b = absurd (omega (arith, b.0))
  going-same (suc n) (suc m) v s p d a b = cond_same (ltb p (born v)) _ _ _
      (λ t. after_same v (fetching says v p) (arrived says (going says k n) k p d) (arrived says (going says k m) k p d) (arrive (omega (arith, s.borns, ltb-true p (born v) t)) (going-same n m)))
    where
      on : World
      on = done (fetching says v p).actions v

      stays : Stays on
      stays = let h = mending-keeps says v p in record { borns = ap (λ (ix : List ℕ). length ix) h.index ∙ s.borns; meant = λ q. h.means q ∙ s.meant q }

      spare : (t : ℕ) (x : Image Key Value) → means p ≡ Ok x → suc (lighters p) < suc t → (q : ℕ) (e : Due Key) → onward_due (keyed says) k x.frame x.frame.foster ≡ Some (q, e) → Spare t q e
      spare t x i l q e j = (omega arith, λ y u c o. omega (arith, falls p x i q e j y u c o))

      goes_on : ((z : World) → Stays z → (q : ℕ) (e : Due Key) → Spare n q e → Spare m q e → going says k n z q e ≡ going says k m z q e)
          → (x : Image Key Value) → means p ≡ Ok x → suc (lighters p) < suc n → suc (lighters p) < suc m
          → (o : Option (ℕ × Due Key)) → onward_due (keyed says) k x.frame x.frame.foster ≡ o
          → onwards (going says k n) (visit p x) on o ≡ onwards (going says k m) (visit p x) on o
      goes_on ih x i l u None j = refl
      goes_on ih x i l u (Some z) j = ap (λ (P : Plan Route). after on P (met (visit p x)))
          (ih on stays z.0 z.1 (spare n x i l z.0 z.1 j) (spare m x i u z.0 z.1 j))

      compare_same : ((z : World) → Stays z → (q : ℕ) (e : Due Key) → Spare n q e → Spare m q e → going says k n z q e ≡ going says k m z q e)
          → (x : Image Key Value) → means p ≡ Ok x → p < born-are → (c : ℕ) → check (keyed says) d x.frame ≡ c
          → compared says (going says k n) k (visit p x) on c ≡ compared says (going says k m) k (visit p x) on c
      compare_same ih x i o zero j = goes_on ih x i (a.1 x i j o) (b.1 x i j o) (onward_due (keyed says) k x.frame x.frame.foster) refl
      compare_same ih x i o (suc c) j = refl

      arrive : p < born-are → ((z : World) → Stays z → (q : ℕ) (e : Due Key) → Spare n q e → Spare m q e → going says k n z q e ≡ going says k m z q e)
          → (x : Image Key Value) → (fetching says v p).answer ≡ Ok x → arrived says (going says k n) k p d x on ≡ arrived says (going says k m) k p d x on
      arrive o ih x e = compare_same ih x (sym (s.meant p) ∙ e) o (check (keyed says) d x.frame) refl

  enough : (n : ℕ) → suc born-are ≤ n → Spare n 0 (due_root empty_key)
  enough n h = (omega arith, λ x e c b. omega (arith, left_most r.rank r.top empty_key r.ranking fetch born-are fetch-formed k 0 b))

pub ways_end_over_any_pages : WaysEndOverAnyPages
unfolding way
ways_end_over_any_pages says law w k n h =
    let r = orders_rank_keys says law in
    let means : ℕ → Result (Image Key Value) Refusal = λ q. (fetching says w q).answer in
    let formed = fetched_formed says r w in
    going-same says r k (born w) means formed n (suc (born w)) w (record { borns = refl; meant = λ q. refl }) 0 (due_root empty_key)
    (enough says r k (born w) means formed n h) (enough says r k (born w) means formed (suc (born w)) (omega arith))
