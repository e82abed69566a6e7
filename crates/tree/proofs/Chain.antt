use Rattle.std.proofs.Common.{◌≡◌, ℕ, zero, suc, ◌<◌, ◌≤◌, Bool, true, cond, List, [], ◌∷◌, Some, None, Option, sym, refl, ap, subst, inl, inr, arith}
use Prim.Native.Nat.{Ordering}
use Rattle.tree.specs.Tree.{Image}
use Rattle.tree.specs.Log.{Change, Rec, Source, source, make, made, touched, Logged, append, run, start, Linked, at, Chain, then_make, or_lost, rebuild, verdict, Rebuilt, LessSome}
use Rattle.tree.specs.Log.Source.{Out, Fresh, Earlier}
use Rattle.tree.specs.Log.Chain.{first, later}
use Rattle.tree.specs.Log.Built.{Done, Misfit}
use Rattle.std.proofs.lemmas.Bool.{lt-ltb}

module _ {K V : Type 0} (cmp : K → K → Ordering) (least : K) (suits : Change K V → ℕ → Image K V → Bool) where
  -- the rows of records agree, from a position on
  abbrev Agrees : (ℕ → Option (Rec K V)) → ℕ → List (Rec K V) → Type 0
  Agrees slot n [] = Unit {0}
  Agrees slot n (r ∷ rs) = (slot (suc n) ≡ Some r) × Agrees slot (suc n) rs

  agrees_after : (x : Rec K V) (xs : List (Rec K V)) (n : ℕ) (rs : List (Rec K V)) → Agrees (at xs) n rs → Agrees (at (x ∷ xs)) (suc n) rs
  agrees_after x xs n [] a = tt
  agrees_after x xs n (r ∷ rs) a = (a.0, agrees_after x xs (suc n) rs a.1)

  agrees_at : (xs : List (Rec K V)) → Agrees (at xs) 0 xs
  agrees_at [] = tt
  agrees_at (x ∷ xs) = (refl, agrees_after x xs 0 xs (agrees_at xs))

  module _ (slot : ℕ → Option (Rec K V)) where
    record Inv (s : Logged K V) : Type 0 where
      within : (p : ℕ) → s.newest p ≤ s.count
      chained : (p : ℕ) → 0 < s.newest p → (ns : List ℕ) × Chain cmp least suits slot p (s.newest p) ns (s.page p)

    appended : (s : Logged K V) (r : Rec K V) → Inv s → slot (suc s.count) ≡ Some r
        → ((p q n : ℕ) → source r p ≡ Earlier q n → (n ≡ s.newest q) × (0 < n) × (suits r.change p (s.page q) ≡ true)) → Inv (append cmp least r s)
    appended s r inv e link = record { within = λ p. in_count p (source r p) refl; chained = λ p. go p (source r p) refl }
      where
        in_count : (p : ℕ) (w : Source) → source r p ≡ w → touched (source r p) (suc s.count) (s.newest p) ≤ suc s.count
        in_count p w h = let t = inv.within p in grind arith

        go : (p : ℕ) (w : Source) → source r p ≡ w → 0 < touched (source r p) (suc s.count) (s.newest p)
            → (ns : List ℕ) × Chain cmp least suits slot p (touched (source r p) (suc s.count) (s.newest p)) ns (made cmp least r.change p s.page (source r p))
        go p Out h m =
            let c = inv.chained p (rw h at m) in
            (c.0, rw h c.1)
        go p Fresh h m = (suc s.count ∷ [], rw h (first e h))
        go p (Earlier q n) h m =
            let k = link p q n h in
            let c = inv.chained q (omega arith) in
            (suc s.count ∷ c.0, rw h (later e h (omega (arith, inv.within q)) k.2 (subst (λ i. Chain cmp least suits slot q i c.0 (s.page q)) (sym k.0) c.1)))

    ran : (rs : List (Rec K V)) (s : Logged K V) → Inv s → Agrees slot s.count rs → Linked cmp least suits s rs → Inv (run cmp least s rs)
    ran [] s inv a l = inv
    ran (r ∷ rs) s inv a l = ran rs (append cmp least r s) (appended s r inv a.0 l.0) a.1 l.1

  module _ (read : ℕ → Option (Rec K V)) where
    after-make : (m : ℕ) (ok : Image K V → Bool) (f : Image K V → Image K V) (ns : List ℕ) (x : Image K V) → ok x ≡ true
        → then_make m ok f (verdict read ns x) ≡ verdict read ns (f x)
    after-make m ok f [] x t = ap (λ b. cond b (Done (f x)) (Misfit m)) t
    after-make m ok f (n ∷ ns) x t = go (read n) (after-make m ok f ns x t)
      where
        go : (o : Option (Rec K V)) → then_make m ok f (verdict read ns x) ≡ verdict read ns (f x)
            → then_make m ok f (or_lost o n (verdict read ns x)) ≡ or_lost o n (verdict read ns (f x))
        go None h = refl
        go (Some r) h = h

    module _ (slot : ℕ → Option (Rec K V)) (less : LessSome read slot) where
      rebuilt : {p n : ℕ} {ns : List ℕ} {x : Image K V} → Chain cmp least suits slot p n ns x → (f : ℕ) → n < f → rebuild cmp least suits read f p n ≡ verdict read ns x
      rebuilt (first e h) zero m = absurd (omega arith)
      rebuilt (first {p = p} {n = n} {r = r} e h) (suc f) m = elim (less n r e) [
        | inl a ↦ cc
        | inr a ↦ cc
      ]
      rebuilt (later e h l u c) zero m = absurd (omega arith)
      rebuilt (later {p = p} {n = n} {q = q} {m = i} {r = r} {ns = ns} {x = x} e h l u c) (suc f) m =
          let b = rebuilt c f (omega arith) in
          let d = after-make n (suits r.change p) (make cmp least r.change p) ns x u in
          let t = lt-ltb i n l in
          elim (less n r e) [ inl a ↦ cc | inr a ↦ cc ]

  pub chains_rebuild : (recs : List (Rec K V)) → Linked cmp least suits (start cmp least) recs
      → (read : ℕ → Option (Rec K V)) → LessSome read (at recs)
      → (p : ℕ) → 0 < (run cmp least (start cmp least) recs).newest p
      → (c : Rebuilt cmp least suits recs p)
      × ((f : ℕ) → (run cmp least (start cmp least) recs).newest p < f
      → rebuild cmp least suits read f p ((run cmp least (start cmp least) recs).newest p)
      ≡ verdict read c.positions ((run cmp least (start cmp least) recs).page p))
  chains_rebuild recs link read less p some =
      let i = ran (at recs) recs (start cmp least) (record { within = λ q. omega arith; chained = λ q h. absurd (omega arith) }) (agrees_at recs) link in
      let c = i.chained p some in
      (record { positions = c.0; chain = c.1 }, λ f m. rebuilt read (at recs) less c.1 f m)
