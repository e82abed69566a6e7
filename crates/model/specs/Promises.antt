-- What the store promises over its runs.
use Rattle.std.specs.Prelude.{◌≡◌, ℕ, ◌<◌, ◌≤◌, Bool, true, false, cond, ◌&&◌, ◌⊎◌, List, [], ◌∷◌, length, Some, None, Ok, Err, Option, Result, ◌==◌, ◌≢◌, slice_index}
use Rattle.std.specs.declared.cmp.Ordering.TheVariants.{Less}
use Rattle.std.specs.Str.{bytes_eq}
use Rattle.order.specs.Lawful.{Says, Lawful}
use Rattle.ranks.specs.Lists.{In}
use Rattle.wal.specs.Journal.{Entry, entry, lost}
use Rattle.tree.specs.Worlds.{FirstLost, LostOnWay}
use Rattle.images.specs.Keys.{Key, is_short, empty_key, keyed, pair_cost, kid_cost, key_of}
use Rattle.model.specs.declared.refusal.Refusal.{Refusal}
use Rattle.model.specs.declared.refusal.Refusal.TheVariants.{KeyLength, ValueLength, Buffer, WorkList, Sizes, HasRecords, BadRecord, NotOpen, Absent, NoPage, LogFull, LostRecord, MisfitRecord, WrongPage, PowerFailed}
use Rattle.model.specs.declared.state.State.{State}
use Rattle.model.specs.declared.state.State.TheVariants as state
use Rattle.model.specs.Worlds.{World, newest}
use Rattle.model.specs.Calls.{Call, Reply, Served}
use Rattle.model.specs.Calls.Call.{Create, Open, Put, Remove, Get, Next, Tend}
use Rattle.model.specs.Calls.Reply.{Accepted, Valued, Listed}
use Rattle.model.specs.Runs.{History, Added, meaning, meant, Run}

-- What stands: an accepted put or remove; one that was cut off, exactly if its own record reached the log; no other.

-- whether a record of a kind is among some; the kind is byte 24
abbrev pub is_kind : ℕ → Entry → Bool
is_kind kind (entry b) = slice_index b 24 == kind
is_kind kind lost = false

abbrev pub reaches : ℕ → List Entry → Bool
reaches kind [] = false
reaches kind (e ∷ es) = cond (is_kind kind e) true (reaches kind es)

abbrev pub refused_stands : Refusal → Bool → Bool
refused_stands KeyLength own = false
refused_stands ValueLength own = false
refused_stands Buffer own = false
refused_stands WorkList own = false
refused_stands Sizes own = false
refused_stands HasRecords own = false
refused_stands (BadRecord n) own = false
refused_stands NotOpen own = false
refused_stands Absent own = false
refused_stands NoPage own = false
refused_stands LogFull own = false
refused_stands (LostRecord p n) own = false
refused_stands (MisfitRecord p n) own = false
refused_stands (WrongPage p c) own = false
refused_stands PowerFailed own = own

-- whether a call with this answer stands, where own says that its own record reached the log
abbrev pub stands : Result Reply Refusal → Bool → Bool
stands (Ok x) own = true
stands (Err ε) own = refused_stands ε own

-- a put's own record is of kind 2, a remove's of kind 3
abbrev pub after_event : Call → Result Reply Refusal → List Entry → List ℕ → Option (List ℕ) → Option (List ℕ)
after_event Create r es j was = was
after_event Open r es j was = was
after_event (Put key value work) r es j was = cond (stands r (reaches 2 es) && bytes_eq key j) (Some value) was
after_event (Remove key work) r es j was = cond (stands r (reaches 3 es) && bytes_eq key j) None was
after_event (Get key room work) r es j was = was
after_event (Next key key_room room work) r es j was = was
after_event (Tend key work) r es j was = was

-- the value of a key's last standing put, if no standing remove of it followed
abbrev pub present : History → List ℕ → Option (List ℕ)
present [] j = None
present (e ∷ h) j = after_event e.call e.answer e.reached j (present h j)

-- The promises, over every lawful order of keys and every run.

-- a get that answers a value gives that of its key's last standing put, and one that answers "absent" is right
abbrev pub GetAnswersTheLastStandingPut : Type 0
GetAnswersTheLastStandingPut =
    (says : Says) → Lawful says → (h : History) (added : Added) (s t : State) (w e : World) → Run says h added s w
    → (key : List ℕ) (room work : ℕ) (r : Result Reply Refusal) → Served says s (Get key room work) w r t e
    → ((v : List ℕ) → r ≡ Ok (Valued v) → present h key ≡ Some v) × (r ≡ Err Absent → present h key ≡ None)

-- a next gives the least present key above its own, with its value, or there is none
pub record LeastAbove (says : Says) (h : History) (key above value : List ℕ) : Type 0 where
  pub higher : says key above ≡ Less
  pub is_present : present h above ≡ Some value
  pub none_between : (i : List ℕ) → is_short 256 16 i ≡ true → says key i ≡ Less → says i above ≡ Less → present h i ≡ None

abbrev pub NextGivesTheLeastPresentKeyAbove : Type 0
NextGivesTheLeastPresentKeyAbove =
    (says : Says) → Lawful says → (h : History) (added : Added) (s t : State) (w e : World) → Run says h added s w
    → (key : List ℕ) (key_room room work : ℕ) (r : Result Reply Refusal) → Served says s (Next key key_room room work) w r t e
    → ((k v : List ℕ) → r ≡ Ok (Listed k v) → LeastAbove says h key k v)
    × (r ≡ Err Absent → (i : List ℕ) → is_short 256 16 i ≡ true → says key i ≡ Less → present h i ≡ None)

-- a get that has no ground for a refusal of its input
pub record WellFormed (key : List ℕ) (k : Key) (room work : ℕ) (w : World) : Type 0 where
  pub key_is : key_of key ≡ Some k
  pub room_is : 64 ≤ room
  pub work_is : w.journal.capacity ≤ work

abbrev pub answer_of : Option (List ℕ) → Result Reply Refusal
answer_of None = Err Absent
answer_of (Some v) = Ok (Valued v)

-- an open store's well-formed get that the power outlasts tells a lost record exactly when a page on its key's way is harmed and has one in
-- its chain: it names the first such page and that chain's newest lost record. Otherwise it answers by what stands
abbrev pub GetTellsExactlyWhatIsLost : Type 0
GetTellsExactlyWhatIsLost =
    (says : Says) → Lawful says → (h : History) (added : Added) (t : State) (w e : World) → Run says h added state.Open w
    → (key : List ℕ) (k : Key) (room work : ℕ) → WellFormed key k room work w
    → (r : Result Reply Refusal) → Served says state.Open (Get key room work) w r t e → (r ≢ Err PowerFailed)
    → ((p : ℕ) × (n : ℕ) × (r ≡ Err (LostRecord p n)) × FirstLost (keyed says) empty_key pair_cost kid_cost (meaning says added w) k p n)
    ⊎ ((r ≡ answer_of (present h key)) × (LostOnWay (keyed says) empty_key pair_cost kid_cost (meaning says added w) k → ⊥))

-- open refuses exactly a log that is empty or has lost a record
abbrev pub OpenRefusesExactlyALogWithAGap : Type 0
OpenRefusesExactlyALogWithAGap =
    (says : Says) → Lawful says → (h : History) (added : Added) (s t : State) (w e : World) → Run says h added s w
    → (r : Result Reply Refusal) → Served says s Open w r t e
    → ((r ≡ Ok Accepted) × (w.journal.records ≢ []) × (In lost w.journal.records → ⊥))
    ⊎ ((ε : Refusal) × (r ≡ Err ε) × ((w.journal.records ≡ []) ⊎ In lost w.journal.records))

-- an open store's index has the newest position of every born page, by the records as they were added, and no others
pub record IndexOf (says : Says) (added : Added) (w : World) : Type 0 where
  pub few : length w.index ≤ 256
  pub born_is : length w.index ≡ (meant says added w).born
  pub at_least_one : (p : ℕ) → p < length w.index → 1 ≤ newest w.index p
  pub newest_is : (p : ℕ) → newest w.index p ≡ (meant says added w).newest p

abbrev pub OpenIndexIsThatOfTheLog : Type 0
OpenIndexIsThatOfTheLog =
    (says : Says) → Lawful says → (h : History) (added : Added) (w : World) → Run says h added state.Open w → IndexOf says added w
