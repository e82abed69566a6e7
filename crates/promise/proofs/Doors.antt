-- What create and open do in a run.
use Rattle.std.proofs.Common.{◌≡◌, ℕ, ◌≤◌, true, false, ◌&&◌, eqb, leb, ◌⊎◌, List, [], ◌∷◌, ◌++◌, length, Ok, Err, Result, sym, refl, ap, ◌∙◌, subst, inl, inr, arith}
use Rattle.std.proofs.lemmas.Bool.{cases_Bool, cond-true, cond-false, and_parts, leb-true, eqb-true, true≢false}
use Rattle.std.proofs.lemmas.List.{append-nil, nil_from_length}
use Rattle.order.specs.Lawful.{Says}
use Rattle.wal.specs.Journal.{Entry, entry, lost}
use Rattle.ranks.specs.Lists.{In}
use Rattle.tree.specs.Log.{blank}
use Rattle.tree.specs.Log.Change.{Format}
use Rattle.images.specs.Keys.{empty_key, keyed}
use Rattle.images.specs.Laws.{Ranked}
use Rattle.model.specs.declared.refusal.Refusal.{Refusal}
use Rattle.model.specs.declared.refusal.Refusal.TheVariants.{Sizes, HasRecords, BadRecord}
use Rattle.model.specs.declared.state.State.{State}
use Rattle.model.specs.declared.state.State.TheVariants as state
use Rattle.model.specs.Worlds.{World, Action, wakes, indexes, adds, stores, did, usable, newest}
use Rattle.model.specs.Plans.{Plan, after, Plays}
use Rattle.model.specs.Changes.{changing, formatted, formatting}
use Rattle.model.specs.Opening.{scanned}
use Rattle.model.specs.Calls.{Call, Reply, state_after, sized, sizes_asked, empty_asked, waking, replied, create_empty, create_awake, create_sized, creating, opened, open_awake, open_sized, opening}
use Rattle.model.specs.Calls.Call.{Create, Open}
use Rattle.model.specs.Calls.Reply.{Accepted}
use Rattle.model.specs.Runs.{Added, records_from}
use Rattle.media.proofs.Media.{Media, Opened, AptChange, made}
use Rattle.media.proofs.Media.Apt.{rests, awakes, reindexes}
use Rattle.media.proofs.Plays.{apt-media}
use Rattle.media.proofs.Rows.{reads-length, reads_none}
use Rattle.media.proofs.Afters.{after-ok}
use Rattle.plans.proofs.Scanning.{scan_told, scan_gap, scan_empty}
use Rattle.plans.proofs.Sources.{format-alone}
use Rattle.plans.proofs.Changing.{changing-apt}
use Rattle.promise.proofs.Asked.{asked-ok, asked_err}
use Rattle.promise.proofs.Calls.{Planned, refused_plan, fitting-none}

sizes-told : (w : World) → ((sizes_asked w ≡ Ok 0) × (sized w ≡ true)) ⊎ ((sizes_asked w ≡ Err Sizes) × (sized w ≡ false))
unfolding sizes_asked
sizes-told w = elim (cases_Bool (sized w)) [
  | inl t ↦ inl (cond-true (sized w) _ _ t, t)
  | inr t ↦ inr (cond-false (sized w) _ _ t, t)
]

empty_told : (w : World) → ((empty_asked w ≡ Ok 0) × (length w.journal.records ≡ 0)) ⊎ (empty_asked w ≡ Err HasRecords)
unfolding empty_asked
empty_told w = elim (cases_Bool (eqb (length w.journal.records) 0)) [
  | inl t ↦ inl (cond-true (eqb (length w.journal.records) 0) _ _ t, eqb-true (length w.journal.records) 0 t)
  | inr t ↦ inr (cond-false (eqb (length w.journal.records) 0) _ _ t)
]

-- behind the waking of device and log
woken-then : {Y : Type 0} (w : World) (k : ℕ → World → Plan Y)
    → after w waking k ≡ record { actions = wakes ∷ (k 0 (did wakes w)).actions; answer = (k 0 (did wakes w)).answer }
unfolding waking
woken-then w k = after-ok w (record { actions = wakes ∷ []; answer = Ok 0 }) k 0 refl

sized-parts : (w : World) → sized w ≡ true → (4 ≤ length w.disk.pages) × (8 ≤ w.journal.capacity)
unfolding sized
sized-parts w h =
    let a = and_parts (leb 4 (length w.disk.pages) && leb (length w.disk.pages) 65536) _ h in
    (leb-true 4 (length w.disk.pages) (and_parts (leb 4 (length w.disk.pages)) _ a.0).0, leb-true 8 w.journal.capacity (and_parts (leb 8 w.journal.capacity) _ a.1).0)

pub down_not_open : {A : Type 0} → state.Down ≡ state.Open → A
down_not_open e = let z : ◌≡◌ {A = ℕ} 0 1 = cc in absurd (omega arith)

-- actions in which power cannot fail
abbrev pub Calm : List Action → Type 0
Calm [] = Unit {0}
Calm (wakes ∷ xs) = Calm xs
Calm (indexes ix ∷ xs) = Calm xs
Calm (adds ps bs ∷ xs) = ⊥
Calm (stores p bs ∷ xs) = ⊥

pub calm-ends : {X : Type 0} (xs : List Action) (x res : Result X Refusal) (w e : World) → Calm xs → Plays xs x w res e → res ≡ x
calm-ends [] x res w e c p = p.0
calm-ends (wakes ∷ xs) x res w e c (inl k) = absurd (true≢false k.off)
calm-ends (wakes ∷ xs) x res w e c (inr p) = calm-ends xs x res (did wakes w) e c p.1
calm-ends (indexes ix ∷ xs) x res w e c (inl k) = absurd (true≢false k.off)
calm-ends (indexes ix ∷ xs) x res w e c (inr p) = calm-ends xs x res (did (indexes ix) w) e c p.1
calm-ends (adds ps bs ∷ xs) x res w e c p = absurd c
calm-ends (stores q bs ∷ xs) x res w e c p = absurd c

module _ (says : Says) (r : Ranked says) (added : Added) (w : World) (media : Media says r added w) where
  abbrev woke : World
  woke = did wakes w

  woke-opened : Opened says r added w → Opened says r added woke
  woke-opened o = record { some = o.some; disk_on = refl; journal_on = refl; born_is = o.born_is; newest_is = o.newest_is }

  -- a new log can be formatted
  format-apt : added ≡ [] → AptChange says r (made says r added) Format
  unfolding records_from
  format-apt e = record {
    may = ap (made says r) e;
    suit = λ p q n i. absurd (format-alone (made says r added) p q n i);
    names = tt;
  }

  created : (t : State) → sized w ≡ true → added ≡ [] → Planned says r added w media t Create (record { actions = wakes ∷ (create_empty says 0 woke).actions; answer = (create_empty says 0 woke).answer })
  unfolding formatting records_from changing sized
  created t size none =
      let clear : World = did (indexes []) woke in
      let parts = sized-parts w size in
      let m = apt-media says r media (awakes (reindexes {ix = []} rests)) in
      let born : 0 ≡ (made says r added).born = sym (ap (λ a. (made says r a).born) none) in
      let h = changing-apt says r added clear m refl refl born (λ p. sym (ap (λ a. (made says r a).newest p) none)) Format (format-apt none) (λ _. blank (keyed says) empty_key)
      (λ p q n i. absurd (format-alone (made says r added) p q n i)) (omega (arith, parts.1, ap length none)) size (omega (arith, parts.0, born)) in
      let F : Plan ℕ = changing says clear Format (λ _. blank (keyed says) empty_key) in
      let f : formatting says woke ≡ record { actions = indexes [] ∷ F.actions; answer = F.answer } =
      after-ok woke (record { actions = indexes [] ∷ []; answer = Ok 0 }) (formatted says) 0 refl in
      let P : Plan ℕ = record { actions = indexes [] ∷ F.actions; answer = F.answer } in
      let g : create_empty says 0 woke ≡ record { actions = P.actions ++ []; answer = Ok Accepted } =
      ap (λ Q. after woke Q (replied Accepted)) f ∙ after-ok woke P (replied Accepted) _ refl in
      subst (λ Q. Planned says r added w media t Create (record { actions = wakes ∷ Q.actions; answer = Q.answer })) (sym g)
      (subst (λ xs. Planned says r added w media t Create (record { actions = wakes ∷ xs; answer = Ok Accepted })) (sym (append-nil P.actions))
      (record { cs = Format ∷ []; last = h.0; end = h.1; apt = awakes (reindexes h.2); fitting = (tt, tt); opened = λ _. h.3 }))

  -- a plan that refuses once device and log are woken
  woken-refusal : (t : State) (c : Call) (ε : Refusal) → (state_after t c (Err ε) ≡ state.Open → Opened says r added w)
      → Planned says r added w media t c (record { actions = wakes ∷ []; answer = Err ε })
  woken-refusal t c ε o = record { cs = []; last = added; end = woke; apt = awakes rests; fitting = fitting-none c ε; opened = λ e. woke-opened (o e) }

  pub create_call : (t : State) → (t ≡ state.Open → Opened says r added w) → Planned says r added w media t Create (creating says w)
  unfolding creating
  create_call t o = elim (sizes-told w) [
    | inr e ↦ subst (Planned says r added w media t Create) (sym (asked_err w (sizes_asked w) (create_sized says) Sizes e.0)) (refused_plan says r added w media t Create Sizes o)
    | inl e ↦
        let a = asked-ok w (sizes_asked w) (create_sized says) 0 e.0 ∙ woken-then w (create_awake says) in
        subst (Planned says r added w media t Create) (sym a) (elim (empty_told woke) [
          | inr f ↦ subst (λ Q. Planned says r added w media t Create (record { actions = wakes ∷ Q.actions; answer = Q.answer }))
              (sym (asked_err woke (empty_asked woke) (create_empty says) HasRecords f)) (woken-refusal t Create HasRecords o)
          | inl f ↦ subst (λ Q. Planned says r added w media t Create (record { actions = wakes ∷ Q.actions; answer = Q.answer }))
              (sym (asked-ok woke (empty_asked woke) (create_empty says) 0 f.0)) (created t e.1 (reads_none w.journal.records added media.reads f.1))
        ])
  ]

  -- a row has a lost record, or none
  lost-or-not : (es : List Entry) → In lost es ⊎ (In lost es → ⊥)
  lost-or-not [] = inr (λ i. i)
  lost-or-not (lost ∷ es) = inl (inl refl)
  lost-or-not (entry b ∷ es) = elim (lost-or-not es) [
    | inl i ↦ inl (inr i)
    | inr n ↦ inr (λ i. elim i [
      | inl e ↦ let z : ◌≡◌ {A = ℕ} 0 1 = ap (λ x. elim x [ entry c ↦ 1 | lost ↦ 0 ]) e in omega arith
      | inr j ↦ n j
    ])
  ]

  -- what opening answers
  pub record Accepts : Type 0 where
    pub index : List ℕ
    pub plan : opening w ≡ record { actions = wakes ∷ indexes index ∷ []; answer = Ok Accepted }
    pub born_is : length index ≡ (made says r added).born
    pub newest_is : (p : ℕ) → newest index p ≡ (made says r added).newest p
    pub some : added ≡ [] → ⊥
    pub records : w.journal.records ≡ [] → ⊥
    pub whole : In lost w.journal.records → ⊥

  pub record Refuses : Type 0 where
    pub refusal : Refusal
    pub planned : Planned says r added w media state.New Open (opening w)
    pub answer : (opening w).answer ≡ Err refusal
    pub calm : Calm (opening w).actions
    pub gap : (w.journal.records ≡ []) ⊎ In lost w.journal.records

  pub open_told : Accepts ⊎ Refuses
  unfolding opening
  open_told = elim (sizes-told w) [
    | inr e ↦
        let a = asked_err w (sizes_asked w) open_sized Sizes e.0 in
        inr (record {
          refusal = Sizes;
          planned = subst (Planned says r added w media state.New Open) (sym a) (refused_plan says r added w media state.New Open Sizes down_not_open);
          answer = ap (λ Q. Q.answer) a;
          calm = subst (λ (Q : Plan Reply). Calm Q.actions) (sym a) tt;
          gap = inl (unsized e.1);
        })
    | inl e ↦
        let a = asked-ok w (sizes_asked w) open_sized 0 e.0 ∙ woken-then w open_awake in
        go a w.journal.records refl
  ]
    where
      unsized : sized w ≡ false → w.journal.records ≡ []
      unsized e = nil_from_length w.journal.records (reads-length w.journal.records added media.reads ∙ none added refl)
        where
          none : (xs : Added) → added ≡ xs → length added ≡ 0
          none [] i = ap length i
          none (x ∷ xs) i =
              let t = media.is_sized (λ n. let l = ap length (sym i ∙ n) in omega arith) in
              let z : ◌≡◌ {A = ℕ} 0 1 = cc in absurd (omega arith)

      refuse : opening w ≡ record { actions = wakes ∷ (open_awake 0 woke).actions; answer = (open_awake 0 woke).answer } → (n : ℕ) → scanned (usable w) w.journal.records ≡ Err n
          → (w.journal.records ≡ []) ⊎ In lost w.journal.records → Refuses
      refuse a n f g =
          let b : opening w ≡ record { actions = wakes ∷ []; answer = Err (BadRecord n) } = a ∙ ap (λ x. record { actions = wakes ∷ (opened x).actions; answer = (opened x).answer }) f in
          record {
            refusal = BadRecord n;
            planned = subst (Planned says r added w media state.New Open) (sym b) (woken-refusal state.New Open (BadRecord n) down_not_open);
            answer = ap (λ Q. Q.answer) b;
            calm = subst (λ (Q : Plan Reply). Calm Q.actions) (sym b) tt;
            gap = g;
          }

      go : opening w ≡ record { actions = wakes ∷ (open_awake 0 woke).actions; answer = (open_awake 0 woke).answer } → (es : List Entry) → w.journal.records ≡ es → Accepts ⊎ Refuses
      go a [] i = inr (refuse a 1 (ap (scanned (usable w)) i ∙ scan_empty (usable w)) (inl i))
      go a (x ∷ es) i = elim (lost-or-not w.journal.records) [
        | inl l ↦ let f = scan_gap says r added w media l in inr (refuse a f.0 f.1 (inr l))
        | inr n ↦
            let some : added ≡ [] → ⊥ = λ h. omega (arith, reads-length w.journal.records added media.reads, ap length i, ap length h) in
            let f = scan_told says r added w media some n in
            inl (record {
              index = f.0;
              plan = a ∙ ap (λ y. record { actions = wakes ∷ (opened y).actions; answer = (opened y).answer }) f.1;
              born_is = f.2;
              newest_is = f.3;
              some = some;
              records = λ h. omega (arith, ap length (sym i ∙ h));
              whole = n;
            })
      ]
