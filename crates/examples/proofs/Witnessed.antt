-- The runs of specs/Witness: what is said of them is computed, and the runs are put together from it.
use Rattle.std.proofs.Common.{◌≡◌, ℕ, Bool, true, false, List, [], ◌∷◌, ◌++◌, map, length, drop, replicate, Some, None, Ok, Err, Option, sym, refl, ap, subst, arith}
use Rattle.order.specs.Orders.{by_byte}
use Rattle.order.specs.Laws.{byte_lawful}
use Rattle.device.specs.Disk.{holds, intact, page_at}
use Rattle.device.specs.Writes.{keeps_old}
use Rattle.wal.specs.Journal.{Journal, Entry, lost, entry_at}
use Rattle.wal.specs.Appends.{Fate, added, not_added}
use Rattle.images.specs.Keys.{Key, key_of}
use Rattle.images.specs.Images.{stored_page}
use Rattle.model.specs.declared.refusal.Refusal.TheVariants.{BadRecord, Absent, LostRecord, PowerFailed}
use Rattle.model.specs.declared.state.State.{State}
use Rattle.model.specs.declared.state.State.TheVariants as state
use Rattle.model.specs.Worlds.{World}
use Rattle.model.specs.Calls.{Call}
use Rattle.model.specs.Calls.Call.{Create, Open, Get, Next}
use Rattle.model.specs.Calls.Reply.{Valued, Listed}
use Rattle.model.specs.Runs.{History, Added, event, new_records, bytes_in, meant, Reads, Run}
use Rattle.model.specs.Runs.Run.{begins, calls, harms}
use Rattle.model.specs.Promises.{present, WellFormed}
use Rattle.examples.specs.Telling.{Store, new_store, planned, does, cut, harmed, losing, page_then}
use Rattle.examples.specs.Worked.{full_key, full_value, put_full, old_page}
use Rattle.examples.specs.Witness.{Tale, tale_of, five_stand, sixth_is_cut, cut_and_opened, sixth_is_put_again, HarmedPage}
use Rattle.examples.specs.Witness.{AbsentAfterACut, StandsThoughCut, MendedAfterACut, LostAfterACut, RunsWithCutsHarmAndLossExist}
use Rattle.examples.proofs.Computed.{all_definitions}
use Rattle.examples.proofs.Playing.{lasting, cutting, answered, serves-as, serves-cut, asked, heard, gained, outlasts, runs_on, lsn_of, old_fails, harm_page, harm_record, none_lost, reads_all, all_same}

-- Create and five puts.

first_calls : List Call
first_calls = Create ∷ put_full 1 ∷ put_full 2 ∷ put_full 3 ∷ put_full 4 ∷ put_full 5 ∷ []

five_store : Store
five_store = asked new_store first_calls

five_heard : History
five_heard = heard new_store first_calls []

five_added : Added
five_added = gained new_store first_calls []

-- The put of the sixth, cut off at its second append.

cut_store : Fate → Store
cut_store a = cut 3 a keeps_old five_store (put_full 6)

cut_heard : Fate → History
cut_heard a = event (put_full 6) (Err PowerFailed) five_store.world (cut_store a).world ∷ five_heard

cut_added : Fate → Added
cut_added a = five_added ++ map bytes_in (new_records five_store.world (cut_store a).world)

-- Not added, and then calls: opened alone, and the sixth put again.

open_call : List Call
open_call = Open ∷ []

again_calls : List Call
again_calls = Open ∷ put_full 6 ∷ []

on_store : List Call → Store
on_store cs = asked (cut_store not_added) cs

on_heard : List Call → History
on_heard cs = heard (cut_store not_added) cs (cut_heard not_added)

on_added : List Call → Added
on_added cs = gained (cut_store not_added) cs (cut_added not_added)

six_store : Store
six_store = on_store again_calls

-- Page 1 harmed, and records 3 and 5 lost.

harmed_store : Store
harmed_store = old_page six_store

lossy_store : Store
lossy_store = losing (losing harmed_store 2) 4

-- What is asked, and what is told of a store, a history and a log.

get_sixth : Call
get_sixth = Get (full_key 6) 64 32

next_sixth : Call
next_sixth = Next (full_key 5) 16 64 32

sixth_key : Key
unfolding all_definitions
sixth_key = record { bytes = full_key 6; short = refl }

-- state, power of device and log, capacity, and whether every record is there
Status : Type 0
Status = State × Bool × Bool × ℕ × Bool

status_of : Store → Status
unfolding Status
status_of s = (s.state, s.world.disk.on, s.world.journal.on, s.world.journal.capacity, none_lost s.world.journal.records)

open_status : Status
unfolding Status
open_status = (state.Open, true, true, 32, true)

-- the tale, and whether the sixth key is present and was two calls ago
Heard : Type 0
Heard = Tale × Option (List ℕ) × Option (List ℕ)

heard_of : History → Heard
unfolding Heard
heard_of h = (tale_of h, present h (full_key 6), present (drop 2 h) (full_key 6))

hears : Tale → Option (List ℕ) → Option (List ℕ) → Heard
unfolding Heard
hears t now ago = (t, now, ago)

third_and_fifth : Journal → Entry × Entry
third_and_fifth j = (entry_at j 3, entry_at j 5)

witness_definitions : ℕ
unfolding all_definitions lasting cutting answered asked heard gained outlasts none_lost tale_of five_stand sixth_is_cut cut_and_opened sixth_is_put_again first_calls five_store five_heard five_added cut_store cut_heard cut_added open_call again_calls on_store on_heard on_added six_store harmed_store lossy_store get_sixth next_sixth sixth_key Status status_of open_status Heard heard_of hears third_and_fifth
witness_definitions = 0

-- What is computed.

zeros_fail : intact (holds (replicate 512 0)) ≡ false
unfolding all_definitions
zeros_fail = refl

five-last : outlasts new_store first_calls ≡ true
unfolding witness_definitions
five-last = refl

cut_off : cutting 3 not_added keeps_old (planned five_store (put_full 6)).actions five_store.world ≡ true
unfolding witness_definitions
cut_off = refl

cut-off-added : cutting 3 added keeps_old (planned five_store (put_full 6)).actions five_store.world ≡ true
unfolding witness_definitions
cut-off-added = refl

open_lasts : outlasts (cut_store not_added) open_call ≡ true
unfolding witness_definitions
open_lasts = refl

again_lasts : outlasts (cut_store not_added) again_calls ≡ true
unfolding witness_definitions
again_lasts = refl

cut-heard : heard_of (cut_heard added) ≡ hears sixth_is_cut (Some (full_value 6)) None
unfolding witness_definitions
cut-heard = refl

open_heard : heard_of (on_heard open_call) ≡ hears cut_and_opened None None
unfolding witness_definitions
open_heard = refl

again_heard : heard_of (on_heard again_calls) ≡ hears sixth_is_put_again (Some (full_value 6)) None
unfolding witness_definitions
again_heard = refl

cut-added : length (cut_added added) ≡ 8
unfolding witness_definitions
cut-added = refl

open_added : length (on_added open_call) ≡ 7
unfolding witness_definitions
open_added = refl

again_added : length (on_added again_calls) ≡ 8
unfolding witness_definitions
again_added = refl

six-added : on_added again_calls ≡ map bytes_in six_store.world.journal.records
unfolding witness_definitions
six-added = refl

open_status_is : status_of (on_store open_call) ≡ open_status
unfolding witness_definitions
open_status_is = refl

six_status : status_of six_store ≡ open_status
unfolding witness_definitions
six_status = refl

six-newest : (meant by_byte (on_added again_calls) six_store.world).newest 1 ≡ 8
unfolding witness_definitions
six-newest = refl

old-position : lsn_of (stored_page by_byte 1 (page_then six_store 1 7)) ≡ 7
unfolding witness_definitions
old-position = refl

harmed-position : lsn_of (stored_page by_byte 1 (page_at harmed_store.world.disk 1)) ≡ 7
unfolding witness_definitions
harmed-position = refl

lost-two : third_and_fifth lossy_store.world.journal ≡ (lost, lost)
unfolding witness_definitions
lost-two = refl

sixth_key_is : key_of (full_key 6) ≡ Some sixth_key
unfolding witness_definitions
sixth_key_is = refl

get_absent : answered (on_store open_call) get_sixth ≡ (Err Absent, true)
unfolding witness_definitions
get_absent = refl

next_absent : answered (on_store open_call) next_sixth ≡ (Err Absent, true)
unfolding witness_definitions
next_absent = refl

get-mends : answered harmed_store get_sixth ≡ (Ok (Valued (full_value 6)), true)
unfolding witness_definitions
get-mends = refl

next_finds : answered harmed_store next_sixth ≡ (Ok (Listed (full_key 6) (full_value 6)), true)
unfolding witness_definitions
next_finds = refl

get_tells : answered lossy_store get_sixth ≡ (Err (LostRecord 1 5), true)
unfolding witness_definitions
get_tells = refl

open_refuses : answered lossy_store Open ≡ (Err (BadRecord 3), true)
unfolding witness_definitions
open_refuses = refl

-- Its parts.

module _ (s : Store) (e : status_of s ≡ open_status) where
  is_open : s.state ≡ state.Open
  unfolding Status status_of open_status
  is_open = ap (λ (t : Status). t.0) e

  disk_on : s.world.disk.on ≡ true
  unfolding Status status_of open_status
  disk_on = ap (λ (t : Status). t.1) e

  log-on : s.world.journal.on ≡ true
  unfolding Status status_of open_status
  log-on = ap (λ (t : Status). t.2) e

  capacity-is : s.world.journal.capacity ≡ 32
  unfolding Status status_of open_status
  capacity-is = ap (λ (t : Status). t.3) e

  none_is_lost : none_lost s.world.journal.records ≡ true
  unfolding Status status_of open_status
  none_is_lost = ap (λ (t : Status). t.4) e

module _ (h : History) (t : Tale) (now ago : Option (List ℕ)) (e : heard_of h ≡ hears t now ago) where
  tale_is : tale_of h ≡ t
  unfolding Heard heard_of hears
  tale_is = ap (λ (x : Heard). x.0) e

  now-is : present h (full_key 6) ≡ now
  unfolding Heard heard_of hears
  now-is = ap (λ (x : Heard). x.1) e

  ago_is : present (drop 2 h) (full_key 6) ≡ ago
  unfolding Heard heard_of hears
  ago_is = ap (λ (x : Heard). x.2) e

-- The runs.

new-run : Run by_byte [] [] new_store.state new_store.world
unfolding new_store
new-run = begins refl (λ p. all_same (λ q. intact q ≡ false) 8 p (holds (replicate 512 0)) zeros_fail refl) refl

five-run : Run by_byte five_heard five_added five_store.state five_store.world
unfolding five_store five_heard five_added
five-run = runs_on new_store first_calls [] [] new-run five-last

cut-run : (a : Fate) → cutting 3 a keeps_old (planned five_store (put_full 6)).actions five_store.world ≡ true
    → Run by_byte (cut_heard a) (cut_added a) (cut_store a).state (cut_store a).world
unfolding cut_store cut_heard cut_added
cut-run a e = calls five-run (serves-cut 3 a keeps_old five_store (put_full 6) e)

on-run : (cs : List Call) → outlasts (cut_store not_added) cs ≡ true → status_of (on_store cs) ≡ open_status
    → Run by_byte (on_heard cs) (on_added cs) state.Open (on_store cs).world
unfolding on_store on_heard on_added
on-run cs e i = subst (λ t. Run by_byte (on_heard cs) (on_added cs) t (on_store cs).world) (is_open (on_store cs) i)
    (runs_on (cut_store not_added) cs (cut_heard not_added) (cut_added not_added) (cut-run not_added cut_off) e)

six-reads : Reads six_store.world.journal.records (on_added again_calls)
six-reads = subst (Reads six_store.world.journal.records) (sym six-added) (reads_all six_store.world.journal.records (none_is_lost six_store six_status))

harmed-run : Run by_byte (on_heard again_calls) (on_added again_calls) state.Open harmed_store.world
unfolding six_store harmed_store old_page
harmed-run = harms (on-run again_calls again_lasts six_status)
    (harm_page (on_added again_calls) six_store 1 (page_then six_store 1 7)
    (old_fails ((meant by_byte (on_added again_calls) six_store.world).newest 1) (stored_page by_byte 1 (page_then six_store 1 7)) (omega (arith, old-position, six-newest)))
    (disk_on six_store six_status) six-reads)

lossy_run : Run by_byte (on_heard again_calls) (on_added again_calls) state.Open lossy_store.world
unfolding lossy_store losing harmed_store old_page harmed
lossy_run =
    let one = harm_record (on_added again_calls) harmed_store 2 (log-on six_store six_status) six-reads in
    harms (harms harmed-run one) (harm_record (on_added again_calls) (losing harmed_store 2) 4 refl one.records)

-- What the runs come to.

harmed_page : HarmedPage (on_added again_calls) harmed_store.world 1
harmed_page e = let i = ap lsn_of e in omega (arith, harmed-position, six-newest)

well_formed : (w : World) → w.journal.capacity ≡ 32 → WellFormed (full_key 6) sixth_key 64 32 w
well_formed w e = record { key_is = sixth_key_is; room_is = omega arith; work_is = omega arith }

absent_after_a_cut : AbsentAfterACut
unfolding get_sixth next_sixth
absent_after_a_cut =
    let s = on_store open_call in
    let open' = is_open s open_status_is in (
      on_heard open_call,
      on_added open_call,
      s.world,
      sixth_key,
      on-run open_call open_lasts open_status_is,
      tale_is _ _ _ _ open_heard,
      open_added,
      now-is _ _ _ _ open_heard,
      well_formed s.world (capacity-is s open_status_is),
      ((does s get_sixth).world, serves-as s get_sixth state.Open _ state.Open open' get_absent refl),
      ((does s next_sixth).world, serves-as s next_sixth state.Open _ state.Open open' next_absent refl),
    )

cut_down : (cut_store added).state ≡ state.Down
unfolding cut_store cut put_full
cut_down = refl

stands_though_cut : StandsThoughCut
stands_though_cut = (
  cut_heard added,
  cut_added added,
  (cut_store added).world,
  subst (λ t. Run by_byte (cut_heard added) (cut_added added) t (cut_store added).world) cut_down (cut-run added cut-off-added),
  tale_is _ _ _ _ cut-heard,
  cut-added,
  now-is _ _ _ _ cut-heard,
)

mended_after_a_cut : MendedAfterACut
unfolding harmed_store old_page harmed get_sixth next_sixth
mended_after_a_cut =
    let s = harmed_store in
    let open' = is_open six_store six_status in (
      on_heard again_calls,
      on_added again_calls,
      s.world,
      sixth_key,
      harmed-run,
      tale_is _ _ _ _ again_heard,
      again_added,
      ago_is _ _ _ _ again_heard,
      now-is _ _ _ _ again_heard,
      harmed_page,
      well_formed s.world (capacity-is six_store six_status),
      ((does s get_sixth).world, serves-as s get_sixth state.Open _ state.Open open' get-mends refl),
      ((does s next_sixth).world, serves-as s next_sixth state.Open _ state.Open open' next_finds refl),
    )

lost_after_a_cut : LostAfterACut
unfolding lossy_store losing harmed_store old_page harmed get_sixth third_and_fifth
lost_after_a_cut =
    let s = lossy_store in
    let open' = is_open six_store six_status in (
      on_heard again_calls,
      on_added again_calls,
      s.world,
      sixth_key,
      lossy_run,
      tale_is _ _ _ _ again_heard,
      again_added,
      ago_is _ _ _ _ again_heard,
      now-is _ _ _ _ again_heard,
      harmed_page,
      ap (λ (t : Entry × Entry). t.0) lost-two,
      ap (λ (t : Entry × Entry). t.1) lost-two,
      well_formed s.world (capacity-is six_store six_status),
      ((does s get_sixth).world, serves-as s get_sixth state.Open _ state.Open open' get_tells refl),
      ((does s Open).world, serves-as s Open state.Open _ state.Down open' open_refuses refl),
    )

pub runs_exist : RunsWithCutsHarmAndLossExist
runs_exist = (byte_lawful, absent_after_a_cut, stands_though_cut, mended_after_a_cut, lost_after_a_cut)
