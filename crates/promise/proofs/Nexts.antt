-- What a next answers in a run.
use Rattle.std.proofs.Common.{◌≡◌, ℕ, suc, ◌<◌, true, List, Some, None, Ok, Err, Option, Result, Ordering, Less, Equal, Greater, sym, refl, ap, ◌∙◌, subst, inl, inr, arith}
use Prim.Native.Nat.{compare}
use Rattle.order.specs.Lawful.{Says}
use Rattle.tree.specs.Log.{Logged}
use Rattle.images.specs.Keys.{Key, Value, number, is_short}
use Rattle.images.specs.Laws.{Ranked}
use Rattle.images.proofs.Strings.{fence_bytes}
use Rattle.model.specs.declared.refusal.Refusal.{Refusal}
use Rattle.model.specs.declared.refusal.Refusal.TheVariants.{NotOpen, Absent, LostRecord, PowerFailed}
use Rattle.model.specs.declared.state.State.{State}
use Rattle.model.specs.declared.state.State.TheVariants as state
use Rattle.model.specs.Worlds.{World, born}
use Rattle.model.specs.Calls.{Reply, calling, next_plan, seeking, Served}
use Rattle.model.specs.Calls.Call.{Next}
use Rattle.model.specs.Calls.Reply.{Listed}
use Rattle.model.specs.Runs.{History, Added}
use Rattle.model.specs.Promises.{present, LeastAbove}
use Rattle.media.proofs.Media.{Opened, made}
use Rattle.routes.proofs.Next.{next-told}
use Rattle.promise.proofs.Stands.{value_bytes}
use Rattle.promise.proofs.Asked.{next-asked, input_not_absent, err_not_ok}
use Rattle.promise.proofs.Kept.{Kept, plan_or_power}

bytes-some : (o : Option Value) (v : Value) → o ≡ Some v → value_bytes o ≡ Some v.bytes
bytes-some o v e = ap value_bytes e

-- an order and its ranks
less-rank : (o : Ordering) (a b : ℕ) → number o ≡ compare a b → o ≡ Less → a < b
less-rank Less a b e h = grind arith
less-rank Equal a b e h = let z : ◌≡◌ {A = ℕ} 0 1 = cc in absurd (omega arith)
less-rank Greater a b e h = let z : ◌≡◌ {A = ℕ} 0 1 = cc in absurd (omega arith)

rank_less : (o : Ordering) (a b : ℕ) → number o ≡ compare a b → a < b → o ≡ Less
rank_less Less a b e h = refl
rank_less Equal a b e h = grind arith
rank_less Greater a b e h = grind arith

module _ (says : Says) (r : Ranked says) where
  below : (j k : Key) → says j.bytes k.bytes ≡ Less → r.rank j < r.rank k
  below j k e = less-rank (says j.bytes k.bytes) (r.rank j) (r.rank k) (λ i. r.told i j k) e

  less : (j k : Key) → r.rank j < r.rank k → says j.bytes k.bytes ≡ Less
  less j k h = rank_less (says j.bytes k.bytes) (r.rank j) (r.rank k) (λ i. r.told i j k) h

  module _ {h : History} {added : Added} {t : State} {w : World} (kept : Kept says r h added t w) where
    abbrev s : Logged Key Value
    s = made says r added

    -- a next on an open store
    abbrev pub RightNext : List ℕ → Result Reply Refusal → Type 0
    RightNext key x =
        ((k v : List ℕ) → x ≡ Ok (Listed k v) → LeastAbove says h key k v)
        × (x ≡ Err Absent → (i : List ℕ) → is_short 256 16 i ≡ true → says key i ≡ Less → present h i ≡ None)

    next_refused : (key : List ℕ) (x : Result Reply Refusal) (ε : Refusal) → x ≡ Err ε → (◌≡◌ {A = Result Reply Refusal} (Err ε) (Err Absent) → ⊥) → RightNext key x
    next_refused key x ε e n = ((λ k v i. err_not_ok x ε (Listed k v) e i), (λ i. absurd (n (sym e ∙ i))))

    none-stands : (i : Key) → s.stands i ≡ None → present h i.bytes ≡ None
    none-stands i e = sym (kept.stand i) ∙ ap value_bytes e

    as_key : (i : List ℕ) → is_short 256 16 i ≡ true → Key
    as_key i e = record { bytes = i; short = e }

    next_told_right : Opened says r added w → (k : Key) → RightNext k.bytes (seeking says k (suc (born w)) k w).answer
    unfolding as_key
    next_told_right o k = elim (next-told says r added w kept.media o k).2 [
      | inl a ↦
          let e = a.0 in (
            (λ k' v i.
                let z : ◌≡◌ {A = Result Reply Refusal} (Ok (Listed e.0.bytes e.1.bytes)) (Ok (Listed k' v)) = sym a.1 ∙ i in
                let key_is : e.0.bytes ≡ k' = cc in
                let value-is : e.1.bytes ≡ v = cc in
                subst (λ y. LeastAbove says h k.bytes y v) key_is (subst (λ y. LeastAbove says h k.bytes e.0.bytes y) value-is (record {
                  higher = less k e.0 a.2;
                  is_present = sym (kept.stand e.0) ∙ bytes-some (s.stands e.0) e.1 a.3;
                  none_between = λ j short lo hi. none-stands (as_key j short) (a.4 (as_key j short) (below k (as_key j short) lo) (below (as_key j short) e.0 hi));
                }))),
            (λ i. err_not_ok _ Absent (Listed e.0.bytes e.1.bytes) i a.1),
          )
      | inr a ↦ elim a [
        | inl b ↦ (
          (λ k' v i. err_not_ok _ Absent (Listed k' v) b.0 i),
          (λ _ j short lo. none-stands (as_key j short) (b.1 (as_key j short) (below k (as_key j short) lo))),
        )
        | inr b ↦ next_refused k.bytes _ (LostRecord b.0 b.1) b.2 (λ e. let z : ◌≡◌ {A = ℕ} 0 1 = cc in omega arith)
      ]
    ]

    next_right : (u : State) → t ≡ u → (key : List ℕ) (key_room room work : ℕ) → RightNext key (calling says u (Next key key_room room work) w).answer
    next_right state.New i key key_room room work = next_refused key _ NotOpen refl (λ e. let z : ◌≡◌ {A = ℕ} 0 1 = cc in omega arith)
    next_right state.Open i key key_room room work = elim (next-asked says w key key_room room work) [
      | inl e ↦ next_refused key _ e.0 (ap (λ P. P.answer) e.2) (input_not_absent e.1)
      | inr g ↦ subst (λ y. RightNext y (next_plan says key key_room room work w).answer) (fence_bytes key g.0 g.1)
          (subst (λ P. RightNext g.0.bytes P.answer) (sym g.2) (next_told_right (kept.opened i) g.0))
    ]
    next_right state.Down i key key_room room work = next_refused key _ NotOpen refl (λ e. let z : ◌≡◌ {A = ℕ} 0 1 = cc in omega arith)

    pub next_promise : (key : List ℕ) (key_room room work : ℕ) (x : Result Reply Refusal) {u : State} {e : World} → Served says t (Next key key_room room work) w x u e → RightNext key x
    next_promise key key_room room work x served = elim (plan_or_power says r kept served) [
      | inl i ↦ subst (RightNext key) (sym i) (next_right t refl key key_room room work)
      | inr i ↦ next_refused key x PowerFailed i (λ e. let z : ◌≡◌ {A = ℕ} 0 1 = cc in omega arith)
    ]
