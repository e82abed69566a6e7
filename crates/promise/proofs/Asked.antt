-- The plan of a call on an open store: refused for its input, or the way of its key and what comes behind it.
use Rattle.std.proofs.Common.{◌≡◌, ℕ, suc, ◌<◌, ◌≤◌, Bool, true, false, ◌&&◌, ltb, leb, ◌⊎◌, List, Some, None, Ok, Err, Option, Result, refl, ◌∙◌, inl, inr, arith}
use Rattle.std.proofs.lemmas.Bool.{cases_Bool, cond-true, cond-false, leb-true, leb-false, ltb-true, ltb-false}
use Rattle.order.specs.Lawful.{Says}
use Rattle.images.specs.Keys.{Key, Value, key_of, fence_of, value_of}
use Rattle.model.specs.declared.refusal.Refusal.{Refusal}
use Rattle.model.specs.declared.refusal.Refusal.TheVariants.{KeyLength, ValueLength, Buffer, WorkList, Absent}
use Rattle.model.specs.Worlds.{World, born}
use Rattle.model.specs.Plans.{Plan, ends, after}
use Rattle.model.specs.Ways.{way}
use Rattle.model.specs.Calls.{Reply, or_refused, key_asked, fence_asked, value_asked, room_asked, work_asked, put_on_way, put_work, put_value, put_key, put_plan, remove_on_way, remove_work, remove_key, remove_plan, get_on_way, get_work, get_room, get_key, get_plan, seeking, next_work, next_room, next_key, next_plan, tend_on_way, tend_work, tend_key, tend_plan}
use Rattle.model.specs.Promises.{WellFormed}
use Rattle.media.proofs.Afters.{after-ok, after_err}

-- a refusal of the input
pub data Input : Refusal → Type 0 where
  key_length : Input KeyLength
  value_length : Input ValueLength
  buffer : Input Buffer
  work_list : Input WorkList

-- a refusal of the input is none of these
pub input_not_absent : {ε : Refusal} → Input ε → ◌≡◌ {A = Result Reply Refusal} (Err ε) (Err Absent) → ⊥
input_not_absent key_length e = let z : ◌≡◌ {A = ℕ} 0 1 = cc in omega arith
input_not_absent value_length e = let z : ◌≡◌ {A = ℕ} 0 1 = cc in omega arith
input_not_absent buffer e = let z : ◌≡◌ {A = ℕ} 0 1 = cc in omega arith
input_not_absent work_list e = let z : ◌≡◌ {A = ℕ} 0 1 = cc in omega arith

pub err_not_ok : {A : Type 0} (x : Result Reply Refusal) (ε : Refusal) (y : Reply) → x ≡ Err ε → x ≡ Ok y → A
err_not_ok x ε y e f = let z : ◌≡◌ {A = ℕ} 0 1 = cc in absurd (omega arith)

module _ {X Y : Type 0} (w : World) (a : Result X Refusal) (k : X → World → Plan Y) where
  pub asked-ok : (x : X) → a ≡ Ok x → after w (ends a) k ≡ k x w
  asked-ok x e = after-ok w (ends a) k x e

  pub asked_err : (ε : Refusal) → a ≡ Err ε → after w (ends a) k ≡ ends (Err ε)
  asked_err ε e = after_err w (ends a) k ε e

-- what is there, or the refusal
or-told : {X : Type 0} (ε : Refusal) (o : Option X) → (or_refused ε o ≡ Err ε) ⊎ ((x : X) × (o ≡ Some x) × (or_refused ε o ≡ Ok x))
or-told ε None = inl refl
or-told ε (Some x) = inr (x, refl, refl)

key-told : (s : List ℕ) → (key_asked s ≡ Err KeyLength) ⊎ ((k : Key) × (key_of s ≡ Some k) × (key_asked s ≡ Ok k))
unfolding key_asked
key-told s = or-told KeyLength (key_of s)

no_key : (s : List ℕ) → key_asked s ≡ Err KeyLength → (k : Key) → key_of s ≡ Some k → ⊥
unfolding key_asked
no_key s e k i = let z : ◌≡◌ {A = ℕ} 0 1 = cc in omega arith

fence_told : (s : List ℕ) → (fence_asked s ≡ Err KeyLength) ⊎ ((k : Key) × (fence_of s ≡ Some k) × (fence_asked s ≡ Ok k))
unfolding fence_asked
fence_told s = or-told KeyLength (fence_of s)

value-told : (s : List ℕ) → (value_asked s ≡ Err ValueLength) ⊎ ((v : Value) × (value_of s ≡ Some v) × (value_asked s ≡ Ok v))
unfolding value_asked
value-told s = or-told ValueLength (value_of s)

room-told : (b : Bool) → ((room_asked b ≡ Err Buffer) × (b ≡ false)) ⊎ ((room_asked b ≡ Ok 0) × (b ≡ true))
unfolding room_asked
room-told true = inr (refl, refl)
room-told false = inl (refl, refl)

work_told : (w : World) (work : ℕ) → ((work_asked w work ≡ Err WorkList) × (work < w.journal.capacity)) ⊎ ((work_asked w work ≡ Ok 0) × (w.journal.capacity ≤ work))
unfolding work_asked
work_told w work = elim (cases_Bool (ltb work w.journal.capacity)) [
  | inl t ↦ inl (cond-true (ltb work w.journal.capacity) _ _ t, ltb-true work w.journal.capacity t)
  | inr t ↦ inr (cond-false (ltb work w.journal.capacity) _ _ t, ltb-false work w.journal.capacity t)
]

-- refused for its input
abbrev pub Refused : Plan Reply → Type 0
Refused P = (ε : Refusal) × Input ε × (P ≡ ends (Err ε))

module _ (says : Says) (w : World) where
  pub put-asked : (key value : List ℕ) (work : ℕ) → Refused (put_plan says key value work w)
      ⊎ ((k : Key) × (v : Value) × (key_of key ≡ Some k) × (value_of value ≡ Some v) × (put_plan says key value work w ≡ after w (way says w k) (put_on_way says k v)))
  unfolding put_plan
  put-asked key value work = elim (key-told key) [
    | inl e ↦ inl (KeyLength, key_length, asked_err w (key_asked key) (put_key says value work) KeyLength e)
    | inr h ↦ let k = h.0 in let a = asked-ok w (key_asked key) (put_key says value work) k h.2 in elim (value-told value) [
      | inl e ↦ inl (ValueLength, value_length, a ∙ asked_err w (value_asked value) (put_value says work k) ValueLength e)
      | inr g ↦ let v = g.0 in let b = asked-ok w (value_asked value) (put_value says work k) v g.2 in elim (work_told w work) [
        | inl e ↦ inl (WorkList, work_list, a ∙ b ∙ asked_err w (work_asked w work) (put_work says k v) WorkList e.0)
        | inr e ↦ inr (k, v, h.1, g.1, a ∙ b ∙ asked-ok w (work_asked w work) (put_work says k v) 0 e.0)
      ]
    ]
  ]

  pub remove-asked : (key : List ℕ) (work : ℕ) → Refused (remove_plan says key work w)
      ⊎ ((k : Key) × (key_of key ≡ Some k) × (remove_plan says key work w ≡ after w (way says w k) (remove_on_way says k)))
  unfolding remove_plan
  remove-asked key work = elim (key-told key) [
    | inl e ↦ inl (KeyLength, key_length, asked_err w (key_asked key) (remove_key says work) KeyLength e)
    | inr h ↦ let k = h.0 in let a = asked-ok w (key_asked key) (remove_key says work) k h.2 in elim (work_told w work) [
      | inl e ↦ inl (WorkList, work_list, a ∙ asked_err w (work_asked w work) (remove_work says k) WorkList e.0)
      | inr e ↦ inr (k, h.1, a ∙ asked-ok w (work_asked w work) (remove_work says k) 0 e.0)
    ]
  ]

  pub tend_asked : (key : List ℕ) (work : ℕ) → Refused (tend_plan says key work w)
      ⊎ ((k : Key) × (key_of key ≡ Some k) × (tend_plan says key work w ≡ after w (way says w k) (tend_on_way says)))
  unfolding tend_plan
  tend_asked key work = elim (key-told key) [
    | inl e ↦ inl (KeyLength, key_length, asked_err w (key_asked key) (tend_key says work) KeyLength e)
    | inr h ↦ let k = h.0 in let a = asked-ok w (key_asked key) (tend_key says work) k h.2 in elim (work_told w work) [
      | inl e ↦ inl (WorkList, work_list, a ∙ asked_err w (work_asked w work) (tend_work says k) WorkList e.0)
      | inr e ↦ inr (k, h.1, a ∙ asked-ok w (work_asked w work) (tend_work says k) 0 e.0)
    ]
  ]

  -- a get is well formed, or it is refused
  pub get-asked : (key : List ℕ) (room work : ℕ) → (Refused (get_plan says key room work w) × ((k : Key) → WellFormed key k room work w → ⊥))
      ⊎ ((k : Key) × WellFormed key k room work w × (get_plan says key room work w ≡ after w (way says w k) (get_on_way says k)))
  unfolding get_plan
  get-asked key room work = elim (key-told key) [
    | inl e ↦ inl ((KeyLength, key_length, asked_err w (key_asked key) (get_key says room work) KeyLength e), λ k f. no_key key e k f.key_is)
    | inr h ↦ let k = h.0 in let a = asked-ok w (key_asked key) (get_key says room work) k h.2 in elim (room-told (leb 64 room)) [
      | inl e ↦ inl ((Buffer, buffer, a ∙ asked_err w (room_asked (leb 64 room)) (get_room says work k) Buffer e.0), λ j f. let t = leb-false 64 room e.1 in omega (arith, f.room_is))
      | inr g ↦ let b = asked-ok w (room_asked (leb 64 room)) (get_room says work k) 0 g.0 in elim (work_told w work) [
        | inl e ↦ inl ((WorkList, work_list, a ∙ b ∙ asked_err w (work_asked w work) (get_work says k) WorkList e.0), λ j f. omega (arith, e.1, f.work_is))
        | inr e ↦ inr (
          k,
          record { key_is = h.1; room_is = leb-true 64 room g.1; work_is = e.1 },
          a ∙ b ∙ asked-ok w (work_asked w work) (get_work says k) 0 e.0,
        )
      ]
    ]
  ]

  pub next-asked : (key : List ℕ) (key_room room work : ℕ) → Refused (next_plan says key key_room room work w)
      ⊎ ((k : Key) × (fence_of key ≡ Some k) × (next_plan says key key_room room work w ≡ seeking says k (suc (born w)) k w))
  unfolding next_plan
  next-asked key key_room room work = elim (fence_told key) [
    | inl e ↦ inl (KeyLength, key_length, asked_err w (fence_asked key) (next_key says key_room room work) KeyLength e)
    | inr h ↦ let k = h.0 in let a = asked-ok w (fence_asked key) (next_key says key_room room work) k h.2 in elim (room-told (leb 16 key_room && leb 64 room)) [
      | inl e ↦ inl (Buffer, buffer, a ∙ asked_err w (room_asked (leb 16 key_room && leb 64 room)) (next_room says work k) Buffer e.0)
      | inr g ↦ let b = asked-ok w (room_asked (leb 16 key_room && leb 64 room)) (next_room says work k) 0 g.0 in elim (work_told w work) [
        | inl e ↦ inl (WorkList, work_list, a ∙ b ∙ asked_err w (work_asked w work) (next_work says k) WorkList e.0)
        | inr e ↦ inr (k, h.1, a ∙ b ∙ asked-ok w (work_asked w work) (next_work says k) 0 e.0)
      ]
    ]
  ]
