-- What a get answers in a run.
use Rattle.std.proofs.Common.{◌≡◌, ℕ, ◌⊎◌, List, Some, None, Ok, Err, Option, Result, sym, refl, ap, ◌∙◌, subst, inl, inr, arith}
use Rattle.order.specs.Lawful.{Says}
use Rattle.tree.specs.Rows.{find}
use Rattle.tree.specs.Log.{Logged}
use Rattle.tree.specs.Worlds.{FirstLost, LostOnWay}
use Rattle.images.specs.Keys.{Key, Value, empty_key, keyed, pair_cost, kid_cost, key_of}
use Rattle.images.specs.Laws.{Ranked}
use Rattle.images.proofs.Strings.{key_of_bytes}
use Rattle.model.specs.declared.refusal.Refusal.{Refusal}
use Rattle.model.specs.declared.refusal.Refusal.TheVariants.{NotOpen, Absent, LostRecord, PowerFailed}
use Rattle.model.specs.declared.state.State.{State}
use Rattle.model.specs.declared.state.State.TheVariants as state
use Rattle.model.specs.Worlds.{World}
use Rattle.model.specs.Plans.{after}
use Rattle.model.specs.Ways.{way}
use Rattle.model.specs.Calls.{Reply, calling, value_found, get_on_way, get_plan, Served}
use Rattle.model.specs.Calls.Call.{Get}
use Rattle.model.specs.Calls.Reply.{Valued}
use Rattle.model.specs.Runs.{History, Added, meaning}
use Rattle.model.specs.Promises.{present, WellFormed, answer_of}
use Rattle.media.proofs.Media.{Opened, made}
use Rattle.routes.proofs.Comes.{stands_well}
use Rattle.routes.proofs.Ways.{way-told}
use Rattle.media.proofs.Afters.{after-ok, after_err}
use Rattle.promise.proofs.Stands.{value_bytes}
use Rattle.promise.proofs.Asked.{Input, get-asked, input_not_absent, err_not_ok}
use Rattle.promise.proofs.Kept.{Kept, plan_or_power}

found-told : (o : Option Value) → value_found o ≡ answer_of (value_bytes o)
found-told None = refl
found-told (Some v) = refl

value-present : (o : Option (List ℕ)) (v : List ℕ) → answer_of o ≡ Ok (Valued v) → o ≡ Some v
value-present None v e = let z : ◌≡◌ {A = ℕ} 0 1 = cc in absurd (omega arith)
value-present (Some u) v e = cc

absent_present : (o : Option (List ℕ)) → answer_of o ≡ Err Absent → o ≡ None
absent_present None e = refl
absent_present (Some u) e = let z : ◌≡◌ {A = ℕ} 0 1 = cc in absurd (omega arith)

module _ (says : Says) (r : Ranked says) where
  module _ {h : History} {added : Added} {t : State} {w : World} (kept : Kept says r h added t w) where
    abbrev s : Logged Key Value
    s = made says r added

    -- what the plan of a well-formed get answers
    abbrev pub GetAnswer : List ℕ → Key → Result Reply Refusal → Type 0
    GetAnswer key k x =
        ((p : ℕ) × (n : ℕ) × (x ≡ Err (LostRecord p n)) × FirstLost (keyed says) empty_key pair_cost kid_cost (meaning says added w) k p n)
        ⊎ ((x ≡ answer_of (present h key)) × (LostOnWay (keyed says) empty_key pair_cost kid_cost (meaning says added w) k → ⊥))

    get_answer : Opened says r added w → (key : List ℕ) (k : Key) → key_of key ≡ Some k → GetAnswer key k (after w (way says w k) (get_on_way says k)).answer
    get_answer o key k i = elim (way-told says r added w kept.media o k) [
      | inl a ↦
          let p = a.0 in
          let st = stands_well says r added w kept.media o in
          let f : find (keyed says) k (s.page p.leaf).pairs ≡ s.stands k =
          ap (λ c. find c k (s.page p.leaf).pairs) r.told ∙ st.sound.leaves p.leaf p.leaf_born k p.is_leaf p.holds in
          inr (
            ap (λ P. P.answer) (after-ok w (way says w k) (get_on_way says k) _ a.1) ∙ ap value_found f ∙ found-told (s.stands k)
                ∙ ap answer_of (kept.stand k ∙ ap (present h) (key_of_bytes key k i)),
            a.2,
          )
      | inr a ↦ inl (a.0, a.1, ap (λ P. P.answer) (after_err w (way says w k) (get_on_way says k) (LostRecord a.0 a.1) a.2), a.3)
    ]

    -- a get on an open store
    abbrev pub GetTold : List ℕ → ℕ → ℕ → Result Reply Refusal → Type 0
    GetTold key room work x =
        ((ε : Refusal) × Input ε × (x ≡ Err ε) × ((k : Key) → WellFormed key k room work w → ⊥)) ⊎ ((k : Key) × WellFormed key k room work w × GetAnswer key k x)

    pub get_told : Opened says r added w → (key : List ℕ) (room work : ℕ) → GetTold key room work (get_plan says key room work w).answer
    get_told o key room work = elim (get-asked says w key room work) [
      | inl e ↦ inl (e.0.0, e.0.1, ap (λ P. P.answer) e.0.2, e.1)
      | inr g ↦ inr (g.0, g.1, subst (λ P. GetAnswer key g.0 P.answer) (sym g.2) (get_answer o key g.0 g.1.key_is))
    ]

    abbrev pub RightGet : List ℕ → Result Reply Refusal → Type 0
    RightGet key x = ((v : List ℕ) → x ≡ Ok (Valued v) → present h key ≡ Some v) × (x ≡ Err Absent → present h key ≡ None)

    refused_right : (key : List ℕ) (x : Result Reply Refusal) (ε : Refusal) → x ≡ Err ε → (◌≡◌ {A = Result Reply Refusal} (Err ε) (Err Absent) → ⊥) → RightGet key x
    refused_right key x ε e n = ((λ v i. err_not_ok x ε (Valued v) e i), (λ i. absurd (n (sym e ∙ i))))

    answer_right : (key : List ℕ) (k : Key) (x : Result Reply Refusal) → GetAnswer key k x → RightGet key x
    answer_right key k x (inl a) = refused_right key x (LostRecord a.0 a.1) a.2 (λ e. let z : ◌≡◌ {A = ℕ} 0 1 = cc in omega arith)
    answer_right key k x (inr a) = ((λ v i. value-present (present h key) v (sym a.0 ∙ i)), (λ i. absent_present (present h key) (sym a.0 ∙ i)))

    told_right : (key : List ℕ) (room work : ℕ) (x : Result Reply Refusal) → GetTold key room work x → RightGet key x
    told_right key room work x (inl a) = refused_right key x a.0 a.2 (input_not_absent a.1)
    told_right key room work x (inr a) = answer_right key a.0 x a.2

    power_right : (key : List ℕ) (x : Result Reply Refusal) → x ≡ Err PowerFailed → RightGet key x
    power_right key x e = refused_right key x PowerFailed e (λ i. let z : ◌≡◌ {A = ℕ} 0 1 = cc in omega arith)

    shut_right : (key : List ℕ) (x : Result Reply Refusal) → x ≡ Err NotOpen → RightGet key x
    shut_right key x e = refused_right key x NotOpen e (λ i. let z : ◌≡◌ {A = ℕ} 0 1 = cc in omega arith)

    get_right : (u : State) → t ≡ u → (key : List ℕ) (room work : ℕ) → RightGet key (calling says u (Get key room work) w).answer
    get_right state.New i key room work = shut_right key _ refl
    get_right state.Open i key room work = told_right key room work _ (get_told (kept.opened i) key room work)
    get_right state.Down i key room work = shut_right key _ refl

    pub get_promise : (key : List ℕ) (room work : ℕ) (x : Result Reply Refusal) {u : State} {e : World} → Served says t (Get key room work) w x u e → RightGet key x
    get_promise key room work x served = elim (plan_or_power says r kept served) [
      | inl i ↦ subst (RightGet key) (sym i) (get_right t refl key room work)
      | inr i ↦ power_right key x i
    ]
