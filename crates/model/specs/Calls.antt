-- The seven calls: the plan of each, in every state and on every input, and the state after it.
use Rattle.std.specs.Prelude.{◌≡◌, ℕ, zero, suc, Bool, cond, ◌&&◌, List, [], ◌∷◌, length, Some, None, Ok, Err, Option, Result, ◌==◌, nat_le, nat_lt}
use Rattle.order.specs.Lawful.{Says}
use Rattle.tree.specs.Rows.{find, above}
use Rattle.tree.specs.Tree.{Image, upper}
use Rattle.images.specs.Keys.{Key, Value, keyed, fence_of, key_of, value_of}
use Rattle.model.specs.declared.refusal.Refusal.{Refusal}
use Rattle.model.specs.declared.refusal.Refusal.TheVariants.{KeyLength, ValueLength, Buffer, WorkList, Sizes, HasRecords, BadRecord, NotOpen, Absent, NoPage, LogFull, LostRecord, MisfitRecord, WrongPage, PowerFailed}
use Rattle.model.specs.declared.state.State.{State}
use Rattle.model.specs.declared.state.State.TheVariants as state
use Rattle.model.specs.declared.state.Tended.{Tended}
use Rattle.model.specs.Worlds.{World, wakes, indexes, born, usable}
use Rattle.model.specs.Plans.{Plan, ends, after, Played}
use Rattle.model.specs.Ways.{Route, way}
use Rattle.model.specs.Changes.{formatting, putting, removing, tending}
use Rattle.model.specs.Opening.{scanned}

-- what is asked of the store: keys and values as bytes, buffers and work lists by their lengths
pub data Call : Type 0 where
  Create : Call
  Open : Call
  Put : (key value : List ℕ) (work : ℕ) → Call
  Remove : (key : List ℕ) (work : ℕ) → Call
  Get : (key : List ℕ) (room work : ℕ) → Call
  Next : (key : List ℕ) (key_room room work : ℕ) → Call
  Tend : (key : List ℕ) (work : ℕ) → Call

-- what an accepted call gives
pub data Reply : Type 0 where
  Accepted : Reply
  Valued : List ℕ → Reply
  Listed : (key value : List ℕ) → Reply
  Stepped : Tended → Reply

-- Refusals on the way to a plan, each a question of its own.

abbrev pub or_refused : {X : Type 0} → Refusal → Option X → Result X Refusal
or_refused ε None = Err ε
or_refused ε (Some x) = Ok x

unfoldable pub key_asked : List ℕ → Result Key Refusal
key_asked s = or_refused KeyLength (key_of s)

-- the key of a next may be empty
unfoldable pub fence_asked : List ℕ → Result Key Refusal
fence_asked s = or_refused KeyLength (fence_of s)

unfoldable pub value_asked : List ℕ → Result Value Refusal
value_asked s = or_refused ValueLength (value_of s)

unfoldable pub room_asked : Bool → Result ℕ Refusal
room_asked enough = cond enough (Ok 0) (Err Buffer)

unfoldable pub work_asked : World → ℕ → Result ℕ Refusal
work_asked w work = cond (nat_lt work w.journal.capacity) (Err WorkList) (Ok 0)

unfoldable pub sized : World → Bool
sized w =
    (nat_le 4 (length w.disk.pages) && nat_le (length w.disk.pages) 65536)
    && (nat_le 8 w.journal.capacity && nat_le w.journal.capacity 65536)

unfoldable pub sizes_asked : World → Result ℕ Refusal
sizes_asked w = cond (sized w) (Ok 0) (Err Sizes)

-- The plans.

abbrev pub replied : Reply → ℕ → World → Plan Reply
replied x n w = ends (Ok x)

unfoldable pub waking : Plan ℕ
waking = record { actions = wakes ∷ []; answer = Ok 0 }

-- create
unfoldable pub empty_asked : World → Result ℕ Refusal
empty_asked w = cond (length w.journal.records == 0) (Ok 0) (Err HasRecords)

abbrev pub create_empty : Says → ℕ → World → Plan Reply
create_empty says n w = after w (formatting says w) (replied Accepted)

abbrev pub create_awake : Says → ℕ → World → Plan Reply
create_awake says n w = after w (ends (empty_asked w)) (create_empty says)

abbrev pub create_sized : Says → ℕ → World → Plan Reply
create_sized says n w = after w waking (create_awake says)

unfoldable pub creating : Says → World → Plan Reply
creating says w = after w (ends (sizes_asked w)) (create_sized says)

-- open
abbrev pub opened : Result (List ℕ) ℕ → Plan Reply
opened (Ok ix) = record { actions = indexes ix ∷ []; answer = Ok Accepted }
opened (Err n) = ends (Err (BadRecord n))

abbrev pub open_awake : ℕ → World → Plan Reply
open_awake n w = opened (scanned (usable w) w.journal.records)

abbrev pub open_sized : ℕ → World → Plan Reply
open_sized n w = after w waking open_awake

unfoldable pub opening : World → Plan Reply
opening w = after w (ends (sizes_asked w)) open_sized

-- put
abbrev pub put_on_way : Says → Key → Value → Route → World → Plan Reply
put_on_way says k v r w = after w (putting says k v r w) (replied Accepted)

abbrev pub put_work : Says → Key → Value → ℕ → World → Plan Reply
put_work says k v n w = after w (way says w k) (put_on_way says k v)

abbrev pub put_value : Says → ℕ → Key → Value → World → Plan Reply
put_value says work k v w = after w (ends (work_asked w work)) (put_work says k v)

abbrev pub put_key : Says → List ℕ → ℕ → Key → World → Plan Reply
put_key says value work k w = after w (ends (value_asked value)) (put_value says work k)

unfoldable pub put_plan : Says → List ℕ → List ℕ → ℕ → World → Plan Reply
put_plan says key value work w = after w (ends (key_asked key)) (put_key says value work)

-- remove
abbrev pub remove_on_way : Says → Key → Route → World → Plan Reply
remove_on_way says k r w = after w (removing says k r w) (replied Accepted)

abbrev pub remove_work : Says → Key → ℕ → World → Plan Reply
remove_work says k n w = after w (way says w k) (remove_on_way says k)

abbrev pub remove_key : Says → ℕ → Key → World → Plan Reply
remove_key says work k w = after w (ends (work_asked w work)) (remove_work says k)

unfoldable pub remove_plan : Says → List ℕ → ℕ → World → Plan Reply
remove_plan says key work w = after w (ends (key_asked key)) (remove_key says work)

-- get
abbrev pub value_found : Option Value → Result Reply Refusal
value_found None = Err Absent
value_found (Some v) = Ok (Valued v.bytes)

abbrev pub get_on_way : Says → Key → Route → World → Plan Reply
get_on_way says k r w = ends (value_found (find (keyed says) k r.leaf.image.pairs))

abbrev pub get_work : Says → Key → ℕ → World → Plan Reply
get_work says k n w = after w (way says w k) (get_on_way says k)

abbrev pub get_room : Says → ℕ → Key → ℕ → World → Plan Reply
get_room says work k n w = after w (ends (work_asked w work)) (get_work says k)

abbrev pub get_key : Says → ℕ → ℕ → Key → World → Plan Reply
get_key says room work k w = after w (ends (room_asked (nat_le 64 room))) (get_room says work k)

unfoldable pub get_plan : Says → List ℕ → ℕ → ℕ → World → Plan Reply
get_plan says key room work w = after w (ends (key_asked key)) (get_key says room work)

-- next: the leaf of key j has the least key above k, or the way of its upper bound goes on
abbrev pub beyond : (Key → World → Plan Reply) → World → Option Key → Plan Reply
beyond go w None = ends (Err Absent)
beyond go w (Some u) = go u w

abbrev pub above_in : (Key → World → Plan Reply) → Image Key Value → World → Option (Key × Value) → Plan Reply
above_in go x w None = beyond go w (upper x.frame)
above_in go x w (Some e) = ends (Ok (Listed e.0.bytes e.1.bytes))

abbrev pub next_on_way : Says → (Key → World → Plan Reply) → Key → Route → World → Plan Reply
next_on_way says go k r w = above_in go r.leaf.image w (above (keyed says) k r.leaf.image.pairs)

-- over at most n leaves: each is another, so as many as there are pages are enough
unfoldable pub seeking : Says → Key → ℕ → Key → World → Plan Reply
seeking says k zero j w = ends (Err Absent)
seeking says k (suc n) j w = after w (way says w j) (next_on_way says (seeking says k n) k)

abbrev pub next_work : Says → Key → ℕ → World → Plan Reply
next_work says k n w = seeking says k (suc (born w)) k w

abbrev pub next_room : Says → ℕ → Key → ℕ → World → Plan Reply
next_room says work k n w = after w (ends (work_asked w work)) (next_work says k)

abbrev pub next_key : Says → ℕ → ℕ → ℕ → Key → World → Plan Reply
next_key says key_room room work k w = after w (ends (room_asked (nat_le 16 key_room && nat_le 64 room))) (next_room says work k)

unfoldable pub next_plan : Says → List ℕ → ℕ → ℕ → ℕ → World → Plan Reply
next_plan says key key_room room work w = after w (ends (fence_asked key)) (next_key says key_room room work)

-- tend
abbrev pub tend_done : Tended → World → Plan Reply
tend_done t w = ends (Ok (Stepped t))

abbrev pub tend_on_way : Says → Route → World → Plan Reply
tend_on_way says r w = after w (tending says r w) tend_done

abbrev pub tend_work : Says → Key → ℕ → World → Plan Reply
tend_work says k n w = after w (way says w k) (tend_on_way says)

abbrev pub tend_key : Says → ℕ → Key → World → Plan Reply
tend_key says work k w = after w (ends (work_asked w work)) (tend_work says k)

unfoldable pub tend_plan : Says → List ℕ → ℕ → World → Plan Reply
tend_plan says key work w = after w (ends (key_asked key)) (tend_key says work)

-- State and call together decide.

abbrev pub open_plan : Says → Call → World → Plan Reply
open_plan says Create w = creating says w
open_plan says Open w = opening w
open_plan says (Put key value work) w = put_plan says key value work w
open_plan says (Remove key work) w = remove_plan says key work w
open_plan says (Get key room work) w = get_plan says key room work w
open_plan says (Next key key_room room work) w = next_plan says key key_room room work w
open_plan says (Tend key work) w = tend_plan says key work w

-- new or down, all but create and open are refused
abbrev pub shut_plan : Says → Call → World → Plan Reply
shut_plan says Create w = creating says w
shut_plan says Open w = opening w
shut_plan says (Put key value work) w = ends (Err NotOpen)
shut_plan says (Remove key work) w = ends (Err NotOpen)
shut_plan says (Get key room work) w = ends (Err NotOpen)
shut_plan says (Next key key_room room work) w = ends (Err NotOpen)
shut_plan says (Tend key work) w = ends (Err NotOpen)

abbrev pub calling : Says → State → Call → World → Plan Reply
calling says state.New c w = shut_plan says c w
calling says state.Open c w = open_plan says c w
calling says state.Down c w = shut_plan says c w

-- power that failed leaves the store down
abbrev pub refused_state : State → Refusal → State
refused_state s KeyLength = s
refused_state s ValueLength = s
refused_state s Buffer = s
refused_state s WorkList = s
refused_state s Sizes = s
refused_state s HasRecords = s
refused_state s (BadRecord n) = s
refused_state s NotOpen = s
refused_state s Absent = s
refused_state s NoPage = s
refused_state s LogFull = s
refused_state s (LostRecord p n) = s
refused_state s (MisfitRecord p n) = s
refused_state s (WrongPage p c) = s
refused_state s PowerFailed = state.Down

-- and so does an open that is refused; a create that is refused leaves the state as it was
abbrev pub state_after : State → Call → Result Reply Refusal → State
state_after s Create (Ok x) = state.Open
state_after s Create (Err ε) = refused_state s ε
state_after s Open (Ok x) = state.Open
state_after s Open (Err ε) = state.Down
state_after s (Put key value work) (Ok x) = s
state_after s (Put key value work) (Err ε) = refused_state s ε
state_after s (Remove key work) (Ok x) = s
state_after s (Remove key work) (Err ε) = refused_state s ε
state_after s (Get key room work) (Ok x) = s
state_after s (Get key room work) (Err ε) = refused_state s ε
state_after s (Next key key_room room work) (Ok x) = s
state_after s (Next key key_room room work) (Err ε) = refused_state s ε
state_after s (Tend key work) (Ok x) = s
state_after s (Tend key work) (Err ε) = refused_state s ε

-- call c was made in state s and world w, answered r, and left state t and world e
pub record Served (says : Says) (s : State) (c : Call) (w : World) (r : Result Reply Refusal) (t : State) (e : World) : Type 0 where
  pub played : Played (calling says s c w) w r e
  pub state : t ≡ state_after s c r
