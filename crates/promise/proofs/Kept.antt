-- What every run keeps.
use Rattle.std.proofs.Common.{◌≡◌, ℕ, ◌⊎◌, List, [], ◌∷◌, ◌++◌, map, Err, Result, sym, refl, ap, ◌∙◌, subst, inl, inr, arith}
use Rattle.order.specs.Lawful.{Says}
use Rattle.tree.specs.Log.{Change}
use Rattle.tree.proofs.Runs.{changes-stand}
use Rattle.images.specs.Keys.{Key, Value, empty_key, keyed}
use Rattle.images.specs.Laws.{Ranked}
use Rattle.model.specs.declared.refusal.Refusal.{Refusal}
use Rattle.model.specs.declared.refusal.Refusal.TheVariants.{NotOpen, PowerFailed}
use Rattle.model.specs.declared.state.State.{State}
use Rattle.model.specs.declared.state.State.TheVariants as state
use Rattle.model.specs.Worlds.{World}
use Rattle.model.specs.Plans.{Plan, ends}
use Rattle.model.specs.Calls.{Call, Reply, calling, state_after, opening, Served}
use Rattle.model.specs.Calls.Call.{Create, Open, Put, Remove, Get, Next, Tend}
use Rattle.model.specs.Runs.{event, History, Added, bytes_in, new_records, records_from, Run}
use Rattle.model.specs.Runs.Run.{begins, calls, harms}
use Rattle.model.specs.Promises.{present}
use Rattle.media.proofs.Media.{Media, Opened, Came, made}
use Rattle.media.proofs.Media.Apt.{rests, awakes, reindexes}
use Rattle.media.proofs.Keeps.{new-media, harm_media, harm_opened}
use Rattle.media.proofs.Plays.{plays_keep}
use Rattle.promise.proofs.Stands.{value_bytes, Fitting, fitting-cut, event-stands}
use Rattle.promise.proofs.Calls.{Planned, refused_plan, does-plan, put-call, remove-call, get-call, next-call, tend_call}
use Rattle.promise.proofs.Doors.{down_not_open, create_call, open_told}

-- power that failed leaves the store down
cut_down : (t : State) (c : Call) → state_after t c (Err PowerFailed) ≡ state.Down
cut_down t Create = refl
cut_down t Open = refl
cut_down t (Put key value work) = refl
cut_down t (Remove key work) = refl
cut_down t (Get key room work) = refl
cut_down t (Next key key_room room work) = refl
cut_down t (Tend key work) = refl

new_not_open : {A : Type 0} → state.New ≡ state.Open → A
new_not_open e = let z : ◌≡◌ {A = ℕ} 0 1 = cc in absurd (omega arith)

module _ (says : Says) (r : Ranked says) where
  pub record Kept (h : History) (added : Added) (t : State) (w : World) : Type 0 where
    pub media : Media says r added w
    pub opened : t ≡ state.Open → Opened says r added w
    pub stand : (j : Key) → value_bytes ((made says r added).stands j) ≡ present h j.bytes

  module _ {h : History} {added : Added} {t : State} {w : World} (kept : Kept h added t w) where
    -- each call's plan
    open_planned : (u : State) → Planned says r added w kept.media u Open (opening w)
    open_planned u = elim (open_told says r added w kept.media) [
      | inl a ↦ subst (Planned says r added w kept.media u Open) (sym a.plan) (record {
        cs = [];
        last = added;
        end = _;
        apt = awakes (reindexes rests);
        fitting = tt;
        opened = λ _. record { some = a.some; disk_on = refl; journal_on = refl; born_is = a.born_is; newest_is = a.newest_is };
      })
      | inr a ↦
          let p = a.planned in
          record {
            cs = p.cs;
            last = p.last;
            end = p.end;
            apt = p.apt;
            fitting = p.fitting;
            opened = λ e. p.opened (ap (state_after state.New Open) a.answer ∙ sym (ap (state_after u Open) a.answer) ∙ e);
          }
    ]

    closed : (u : State) (c : Call) → state_after u c (Err NotOpen) ≡ u → (u ≡ state.Open → ⊥) → Planned says r added w kept.media u c (ends (Err NotOpen))
    closed u c e n = refused_plan says r added w kept.media u c NotOpen (λ i. absurd (n (sym e ∙ i)))

    shut_planned : (u : State) → (u ≡ state.Open → ⊥) → (t ≡ u) → (c : Call) → ((P : Plan Reply) → (calling says state.New c w ≡ P) → Planned says r added w kept.media u c P)
    shut_planned u n i Create P e = subst (Planned says r added w kept.media u Create) e (create_call says r added w kept.media u (λ j. absurd (n j)))
    shut_planned u n i Open P e = subst (Planned says r added w kept.media u Open) e (open_planned u)
    shut_planned u n i (Put key value work) P e = subst (Planned says r added w kept.media u (Put key value work)) e (closed u (Put key value work) refl n)
    shut_planned u n i (Remove key work) P e = subst (Planned says r added w kept.media u (Remove key work)) e (closed u (Remove key work) refl n)
    shut_planned u n i (Get key room work) P e = subst (Planned says r added w kept.media u (Get key room work)) e (closed u (Get key room work) refl n)
    shut_planned u n i (Next key key_room room work) P e = subst (Planned says r added w kept.media u (Next key key_room room work)) e (closed u (Next key key_room room work) refl n)
    shut_planned u n i (Tend key work) P e = subst (Planned says r added w kept.media u (Tend key work)) e (closed u (Tend key work) refl n)

    open_ready : Opened says r added w → (c : Call) → Planned says r added w kept.media state.Open c (calling says state.Open c w)
    open_ready o Create = create_call says r added w kept.media state.Open (λ _. o)
    open_ready o Open = open_planned state.Open
    open_ready o (Put key value work) = does-plan says r added w kept.media (Put key value work) _ (put-call says r added w kept.media o key value work)
    open_ready o (Remove key work) = does-plan says r added w kept.media (Remove key work) _ (remove-call says r added w kept.media o key work)
    open_ready o (Get key room work) = does-plan says r added w kept.media (Get key room work) _ (get-call says r added w kept.media o key room work)
    open_ready o (Next key key_room room work) = does-plan says r added w kept.media (Next key key_room room work) _ (next-call says r added w kept.media o key key_room room work)
    open_ready o (Tend key work) = does-plan says r added w kept.media (Tend key work) _ (tend_call says r added w kept.media o key work)

    pub planned : (u : State) → t ≡ u → (c : Call) → Planned says r added w kept.media u c (calling says u c w)
    planned state.New e c = shut_planned state.New new_not_open e c (calling says state.New c w) refl
    planned state.Open e c = open_ready (kept.opened e) c
    planned state.Down e c = shut_planned state.Down down_not_open e c (calling says state.Down c w) refl

    -- a call's answer is its plan's, unless power failed
    pub plan_or_power : {c : Call} {x : Result Reply Refusal} {u : State} {e : World} → Served says t c w x u e → (x ≡ (calling says t c w).answer) ⊎ (x ≡ Err PowerFailed)
    plan_or_power {c = c} {x = x} {e = e} served =
        let p = planned t refl c in
        elim (plays_keep says r added p.last w p.end _ p.cs kept.media p.apt _ x e served.played.plays) [
          | inl f ↦ inl f.answers
          | inr f ↦ inr f.answers
        ]

    -- the history after a call
    module _ {c : Call} {x : Result Reply Refusal} {u : State} {e : World} (served : Served says t c w x u e) where
      abbrev P : Planned says r added w kept.media t c (calling says t c w)
      P = planned t refl c

      after_call : (cs : List (Change Key Value)) → Came says r added w cs e → Fitting c x cs → (u ≡ state.Open → Opened says r (added ++ map bytes_in (new_records w e)) e)
          → Kept (event c x w e ∷ h) (added ++ map bytes_in (new_records w e)) u e
      after_call cs came fit o = record {
        media = subst (λ l. Media says r l e) came.log_is came.media;
        opened = o;
        stand = λ j.
            ap (λ l. value_bytes ((made says r l).stands j)) (sym came.log_is)
            ∙ ap (λ s. value_bytes (s.stands j)) came.makes_all
            ∙ ap (λ f. value_bytes (f j)) (changes-stand (keyed says) empty_key (made says r added) cs)
            ∙ event-stands says r c x cs (new_records w e) fit came.puts came.removes (made says r added).stands j (present h j.bytes) (kept.stand j);
      }

      pub kept-call : Kept (event c x w e ∷ h) (added ++ map bytes_in (new_records w e)) u e
      kept-call = elim (plays_keep says r added P.last w P.end _ P.cs kept.media P.apt _ x e served.played.plays) [
        | inl f ↦ after_call P.cs f.came (subst (λ y. Fitting c y P.cs) (sym f.answers) P.fitting)
            (λ i. subst (λ l. Opened says r l e) (sym f.log_is ∙ f.came.log_is)
            (subst (Opened says r P.last) (sym f.leaves) (P.opened (ap (state_after t c) (sym f.answers) ∙ sym served.state ∙ i))))
        | inr f ↦ after_call f.some f.came (subst (λ y. Fitting c y f.some) (sym f.answers) (fitting-cut c _ P.cs f.some f.first P.fitting))
            (λ i. down_not_open (sym (served.state ∙ ap (state_after t c) f.answers ∙ cut_down t c) ∙ i))
      ]

  pub kept_run : {h : History} {added : Added} {t : State} {w : World} → Run says h added t w → Kept h added t w
  unfolding records_from
  kept_run (begins {w = w} index new none) = record {
    media = new-media says r w new none;
    opened = new_not_open;
    stand = λ j. refl;
  }
  kept_run (calls run served) = kept-call (kept_run run) served
  kept_run (harms {added = added} {w = w} {e = e} run harm) =
      let k = kept_run run in
      record {
        media = harm_media says r added w e k.media harm;
        opened = λ i. harm_opened says r added w e (k.opened i) harm;
        stand = k.stand;
      }
