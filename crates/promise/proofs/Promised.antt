-- The promises over runs.
use Rattle.std.proofs.Common.{◌≡◌, ◌⊎◌, [], Some, Ok, Err, Result, sym, refl, ap, ◌∙◌, subst, inl, inr, arith}
use Rattle.order.specs.Lawful.{Says}
use Rattle.wal.specs.Journal.{lost}
use Rattle.ranks.specs.Lists.{In}
use Rattle.images.specs.Keys.{Key}
use Rattle.images.specs.Laws.{Ranked}
use Rattle.images.proofs.Orders.{orders_rank_keys}
use Rattle.model.specs.declared.refusal.Refusal.{Refusal}
use Rattle.model.specs.declared.state.State.{State}
use Rattle.model.specs.declared.state.State.TheVariants as state
use Rattle.model.specs.Worlds.{World}
use Rattle.model.specs.Plans.{Plan}
use Rattle.model.specs.Calls.{Reply, calling, get_plan, opening, Served}
use Rattle.model.specs.Calls.Call.{Open}
use Rattle.model.specs.Calls.Reply.{Accepted}
use Rattle.model.specs.Runs.{History, Added}
use Rattle.model.specs.Promises.{GetAnswersTheLastStandingPut, NextGivesTheLeastPresentKeyAbove, GetTellsExactlyWhatIsLost, OpenRefusesExactlyALogWithAGap, OpenIndexIsThatOfTheLog}
use Rattle.routes.proofs.Comes.{stands_well}
use Rattle.promise.proofs.Doors.{open_told, Calm, calm-ends}
use Rattle.promise.proofs.Kept.{Kept, kept_run, plan_or_power}
use Rattle.promise.proofs.Gets.{GetAnswer, get_told, get_promise}
use Rattle.promise.proofs.Nexts.{next_promise}

module _ (says : Says) (r : Ranked says) where
  module _ {h : History} {added : Added} {t : State} {w : World} (kept : Kept says r h added t w) where
    -- opening
    abbrev RightOpen : Result Reply Refusal → Type 0
    RightOpen x =
        ((x ≡ Ok Accepted) × (w.journal.records ≡ [] → ⊥) × (In lost w.journal.records → ⊥))
        ⊎ ((ε : Refusal) × (x ≡ Err ε) × ((w.journal.records ≡ []) ⊎ In lost w.journal.records))

    opening_right : RightOpen (opening w).answer
    opening_right = elim (open_told says r added w kept.media) [
      | inl a ↦ inl (ap (λ P. P.answer) a.plan, a.records, a.whole)
      | inr a ↦ inr (a.refusal, a.answer, a.gap)
    ]

    open_right : (u : State) → RightOpen (calling says u Open w).answer
    open_right state.New = opening_right
    open_right state.Open = opening_right
    open_right state.Down = opening_right

    -- power does not fail in an open: it writes nothing
    calm : Calm (opening w).actions
    calm = elim (open_told says r added w kept.media) [
      | inl a ↦ subst (λ (Q : Plan Reply). Calm Q.actions) (sym a.plan) tt
      | inr a ↦ a.calm
    ]

    calm-call : (u : State) → Calm (calling says u Open w).actions
    calm-call state.New = calm
    calm-call state.Open = calm
    calm-call state.Down = calm

    pub open_promise : (x : Result Reply Refusal) (u : State) (e : World) → Served says t Open w x u e → RightOpen x
    open_promise x u e served = subst RightOpen (sym (calm-ends (calling says t Open w).actions (calling says t Open w).answer x w e (calm-call t) served.played.plays)) (open_right t)

pub get_answers_the_last_standing_put : GetAnswersTheLastStandingPut
get_answers_the_last_standing_put says law h added s t w e run key room work x served =
    let r = orders_rank_keys says law in get_promise says r (kept_run says r run) key room work x served

pub next_gives_the_least_present_key_above : NextGivesTheLeastPresentKeyAbove
next_gives_the_least_present_key_above says law h added s t w e run key key_room room work x served =
    let r = orders_rank_keys says law in next_promise says r (kept_run says r run) key key_room room work x served

pub open_refuses_exactly_a_log_with_a_gap : OpenRefusesExactlyALogWithAGap
open_refuses_exactly_a_log_with_a_gap says law h added s t w e run x served =
    let r = orders_rank_keys says law in open_promise says r (kept_run says r run) x t e served

pub get_tells_exactly_what_is_lost : GetTellsExactlyWhatIsLost
get_tells_exactly_what_is_lost says law h added t w e run key k room work wf x served lasts =
    let r = orders_rank_keys says law in
    let kept = kept_run says r run in
    elim (plan_or_power says r kept served) [
      | inr i ↦ absurd (lasts i)
      | inl i ↦ elim (get_told says r kept (kept.opened refl) key room work) [
        | inl a ↦ absurd (a.3 k wf)
        | inr a ↦
            let one : a.0 ≡ k = same_some a.0 k (sym a.1.key_is ∙ wf.key_is) in
            subst (GetAnswer says r kept key k) (sym i) (subst (λ j. GetAnswer says r kept key j (get_plan says key room work w).answer) one a.2)
      ]
    ]
  where
    same_some : (a b : Key) → Some a ≡ Some b → a ≡ b
    same_some a b e = cc

pub open_index_is_that_of_the_log : OpenIndexIsThatOfTheLog
open_index_is_that_of_the_log says law h added w run =
    let r = orders_rank_keys says law in
    let kept = kept_run says r run in
    let o = kept.opened refl in
    let stands = stands_well says r added w kept.media o in
    record {
      few = omega (arith, o.born_is, kept.media.enough);
      born_is = o.born_is;
      at_least_one = λ p b. omega (arith, o.newest_is p, stands.positive p (omega (arith, o.born_is)));
      newest_is = o.newest_is;
    }
