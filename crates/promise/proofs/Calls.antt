-- What each of the seven calls does in a run, whatever its state.
use Rattle.std.proofs.Common.{◌≡◌, ℕ, suc, ◌<◌, true, false, ◌⊎◌, List, [], ◌∷◌, Some, Ok, Err, Result, sym, refl, ap, ◌∙◌, subst, inl, inr, arith}
use Rattle.std.proofs.lemmas.Bool.{cases_eq}
use Rattle.order.specs.Lawful.{Says}
use Rattle.tree.specs.Log.{Change, Logged}
use Rattle.tree.specs.Walk.{visit, visits}
use Rattle.tree.proofs.Runs.{Each, Quiet, Putting, Removing, is_put, is_remove, any}
use Rattle.images.specs.Keys.{Key, Value, empty_key, key_of}
use Rattle.images.specs.Laws.{Ranked}
use Rattle.images.proofs.Strings.{key_of_bytes}
use Rattle.model.specs.declared.refusal.Refusal.{Refusal}
use Rattle.model.specs.declared.refusal.Refusal.TheVariants.{KeyLength, ValueLength, Buffer, WorkList, Sizes, HasRecords, BadRecord, NotOpen, Absent, NoPage, LogFull, LostRecord, MisfitRecord, WrongPage, PowerFailed}
use Rattle.model.specs.declared.state.State.{State}
use Rattle.model.specs.declared.state.State.TheVariants as state
use Rattle.model.specs.Worlds.{World, done, born}
use Rattle.model.specs.Plans.{Plan, ends, after}
use Rattle.model.specs.Ways.{Route, route, way}
use Rattle.model.specs.Changes.{putting, removing, tending}
use Rattle.model.specs.Calls.{Call, Reply, state_after, replied, put_on_way, remove_on_way, get_on_way, seeking, tend_done, tend_on_way, put_plan, remove_plan, get_plan, next_plan, tend_plan}
use Rattle.model.specs.Calls.Call.{Create, Open, Put, Remove, Get, Next, Tend}
use Rattle.model.specs.Calls.Reply.{Accepted, Stepped}
use Rattle.model.specs.Promises.{refused_stands}
use Rattle.model.specs.Runs.{Added}
use Rattle.media.proofs.Media.{Media, Opened, Standing, Apt, made}
use Rattle.media.proofs.Media.Apt.{rests}
use Rattle.routes.proofs.Comes.{stands_well}
use Rattle.routes.proofs.Ways.{Arrived, way-means, way-told}
use Rattle.routes.proofs.Next.{next-told}
use Rattle.plans.proofs.Does.{Does, refuses, answers, then_refused, then-does, then-tells}
use Rattle.plans.proofs.Puts.{put-does, remove-does}
use Rattle.plans.proofs.Tends.{tend_does}
use Rattle.promise.proofs.Asked.{put-asked, remove-asked, get-asked, next-asked, tend_asked}
use Rattle.promise.proofs.Stands.{Fitting}

pub refused_none : (ε : Refusal) → refused_stands ε false ≡ false
refused_none KeyLength = refl
refused_none ValueLength = refl
refused_none Buffer = refl
refused_none WorkList = refl
refused_none Sizes = refl
refused_none HasRecords = refl
refused_none (BadRecord n) = refl
refused_none NotOpen = refl
refused_none Absent = refl
refused_none NoPage = refl
refused_none LogFull = refl
refused_none (LostRecord p n) = refl
refused_none (MisfitRecord p n) = refl
refused_none (WrongPage p c) = refl
refused_none PowerFailed = refl

-- a refusal makes no change
pub fitting-none : (c : Call) (ε : Refusal) → Fitting c (Err ε) []
fitting-none Create ε = tt
fitting-none Open ε = tt
fitting-none (Put key value work) ε = inr (refl, refused_none ε)
fitting-none (Remove key work) ε = inr (refl, refused_none ε)
fitting-none (Get key room work) ε = tt
fitting-none (Next key key_room room work) ε = tt
fitting-none (Tend key work) ε = tt

-- a key is above the empty one
key-named : (says : Says) (r : Ranked says) (key : List ℕ) (k : Key) → key_of key ≡ Some k → r.rank empty_key < r.rank k
unfolding key_of
key-named says r key k e = elim (cases_eq (r.rank empty_key) (r.rank k)) [
  | inl i ↦ absurd (go key e (ap (λ x. x.bytes) (sym (r.ranking.one empty_key k i))))
  | inr n ↦ omega (arith, r.ranking.from_least k)
]
  where
    go : (b : List ℕ) → key_of b ≡ Some k → k.bytes ≡ [] → ⊥
    go [] f i = let z : ◌≡◌ {A = ℕ} 0 1 = cc in omega arith
    go (x ∷ b) f i = let t = key_of_bytes (x ∷ b) k f in let z : ◌≡◌ {A = ℕ} 0 1 = ap (λ l. elim l [ [] ↦ 0 | y ∷ ys ↦ 1 ]) (sym i ∙ t) in omega arith

module _ (says : Says) (r : Ranked says) (added : Added) (w : World) (media : Media says r added w) where
  abbrev s : Logged Key Value
  s = made says r added

  -- the plan P of a call in a run, from state t
  pub record Planned (t : State) (c : Call) (P : Plan Reply) : Type 0 where
    pub cs : List (Change Key Value)
    pub last : Added
    pub end : World
    pub apt : Apt says r added w P.actions cs last end
    pub fitting : Fitting c P.answer cs
    pub opened : state_after t c P.answer ≡ state.Open → Opened says r last end

  -- one that refuses at once
  pub refused_plan : (t : State) (c : Call) (ε : Refusal) → (state_after t c (Err ε) ≡ state.Open → Opened says r added w) → Planned t c (ends (Err ε))
  refused_plan t c ε o = record { cs = []; last = added; end = w; apt = rests; fitting = fitting-none c ε; opened = o }

  -- one of an open store
  pub does-plan : (c : Call) (P : Plan Reply) → Does says r added w P (λ x cs. Fitting c (Ok x) cs) → Planned state.Open c P
  does-plan c P d = record {
    cs = d.cs;
    last = d.last;
    end = d.end;
    apt = d.apt;
    fitting = elim d.told [
      | inl t ↦ subst (λ x. Fitting c x d.cs) (sym t.1) t.2
      | inr t ↦ subst (λ x. Fitting c x d.cs) (sym t.1) (subst (Fitting c (Err t.0)) (sym t.2) (fitting-none c t.0))
    ];
    opened = λ _. d.opened;
  }

  module _ (o : Opened says r added w) where
    stands : Standing says r s
    stands = stands_well says r added w media o

    -- behind the way of a key
    on-way : {X : Type 0} (k : Key) (go : Route → World → Plan X) (Q : X → List (Change Key Value) → Type 0)
        → ((a : Arrived says r added k) (v : World) → Media says r added v → Opened says r added v
        → Does says r added v (go (route (visits s.page a.pages) (visit a.leaf (s.page a.leaf))) v) Q)
        → Does says r added w (after w (way says w k) go) Q
    on-way k go Q f =
        let m = way-means says r added w media o k in
        let v : World = done (way says w k).actions w in
        elim (way-told says r added w media o k) [
          | inl a ↦ then-does says r added w (way says w k) go Q v _ a.1 m.1 (f a.0 v m.3 m.2)
          | inr a ↦ then_refused says r added w (way says w k) go Q v (LostRecord a.0 a.1) a.2 m.1 m.2
        ]

    pub put-call : (key value : List ℕ) (work : ℕ) → Does says r added w (put_plan says key value work w) (λ x cs. Fitting (Put key value work) (Ok x) cs)
    put-call key value work = elim (put-asked says w key value work) [
      | inl e ↦ subst (λ P. Does says r added w P (λ x cs. Fitting (Put key value work) (Ok x) cs)) (sym e.2) (refuses says r added w _ e.0 o)
      | inr h ↦
          let k = h.0 in
          let v = h.1 in
          subst (λ P. Does says r added w P (λ x cs. Fitting (Put key value work) (Ok x) cs)) (sym h.4)
          (on-way k (put_on_way says k v) (λ x cs. Fitting (Put key value work) (Ok x) cs) (λ a u m p.
          then-tells says r added u (putting says k v (route (visits s.page a.pages) (visit a.leaf (s.page a.leaf))) u) (replied Accepted) (λ _. Accepted) (λ x u'. refl)
          (λ n cs. Each (Putting k v) cs × (any is_put cs ≡ true)) (λ x cs. Fitting (Put key value work) (Ok x) cs)
          (λ n cs q. inl (k, v, h.2, h.3, q.0, sym q.1))
          (put-does says r added u m p a.leaf k v stands (key-named says r key k h.2) a.leaf_born a.is_leaf a.holds (visits s.page a.pages))))
    ]

    pub remove-call : (key : List ℕ) (work : ℕ) → Does says r added w (remove_plan says key work w) (λ x cs. Fitting (Remove key work) (Ok x) cs)
    remove-call key work = elim (remove-asked says w key work) [
      | inl e ↦ subst (λ P. Does says r added w P (λ x cs. Fitting (Remove key work) (Ok x) cs)) (sym e.2) (refuses says r added w _ e.0 o)
      | inr h ↦
          let k = h.0 in
          subst (λ P. Does says r added w P (λ x cs. Fitting (Remove key work) (Ok x) cs)) (sym h.2)
          (on-way k (remove_on_way says k) (λ x cs. Fitting (Remove key work) (Ok x) cs) (λ a u m p.
          then-tells says r added u (removing says k (route (visits s.page a.pages) (visit a.leaf (s.page a.leaf))) u) (replied Accepted) (λ _. Accepted) (λ x u'. refl)
          (λ n cs. Each (Removing k) cs × (any is_remove cs ≡ true)) (λ x cs. Fitting (Remove key work) (Ok x) cs)
          (λ n cs q. inl (k, h.1, q.0, sym q.1))
          (remove-does says r added u m p stands a.leaf k (key-named says r key k h.1) a.leaf_born a.is_leaf a.holds (visits s.page a.pages))))
    ]

    pub tend_call : (key : List ℕ) (work : ℕ) → Does says r added w (tend_plan says key work w) (λ x cs. Each Quiet cs)
    tend_call key work = elim (tend_asked says w key work) [
      | inl e ↦ subst (λ P. Does says r added w P (λ x cs. Each Quiet cs)) (sym e.2) (refuses says r added w _ e.0 o)
      | inr h ↦
          let k = h.0 in
          subst (λ P. Does says r added w P (λ x cs. Each Quiet cs)) (sym h.2)
          (on-way k (tend_on_way says) (λ x cs. Each Quiet cs) (λ a u m p.
          then-tells says r added u (tending says (route (visits s.page a.pages) (visit a.leaf (s.page a.leaf))) u) tend_done (λ t. Stepped t) (λ x u'. refl)
          (λ t cs. Each Quiet cs) (λ x cs. Each Quiet cs) (λ t cs q. q)
          (tend_does says r added u m p stands k a.pages a.leaf a.way)))
    ]

    pub get-call : (key : List ℕ) (room work : ℕ) → Does says r added w (get_plan says key room work w) (λ x cs. Each Quiet cs)
    get-call key room work = elim (get-asked says w key room work) [
      | inl e ↦ subst (λ P. Does says r added w P (λ x cs. Each Quiet cs)) (sym e.0.2) (refuses says r added w _ e.0.0 o)
      | inr h ↦
          let k = h.0 in
          subst (λ P. Does says r added w P (λ x cs. Each Quiet cs)) (sym h.2)
          (on-way k (get_on_way says k) (λ x cs. Each Quiet cs) (λ a u m p. answers says r added u (λ x cs. Each Quiet cs) _ p (λ x e. tt)))
    ]

    pub next-call : (key : List ℕ) (key_room room work : ℕ) → Does says r added w (next_plan says key key_room room work w) (λ x cs. Each Quiet cs)
    next-call key key_room room work = elim (next-asked says w key key_room room work) [
      | inl e ↦ subst (λ P. Does says r added w P (λ x cs. Each Quiet cs)) (sym e.2) (refuses says r added w _ e.0 o)
      | inr h ↦
          let k = h.0 in
          let n = next-told says r added w media o k in
          subst (λ P. Does says r added w P (λ x cs. Each Quiet cs)) (sym h.2)
          (record {
            cs = [];
            last = added;
            end = done (seeking says k (suc (born w)) k w).actions w;
            apt = n.0;
            opened = n.1;
            told = result (seeking says k (suc (born w)) k w).answer refl;
          })
    ]
      where
        result : {X : Type 0} {x : Result X Refusal} (y : Result X Refusal) → x ≡ y → ((z : X) × (x ≡ Ok z) × Unit {0}) ⊎ ((ε : Refusal) × (x ≡ Err ε) × (◌≡◌ {A = List (Change Key Value)} [] []))
        result (Ok z) e = inl (z, e, tt)
        result (Err ε) e = inr (ε, e, refl)
