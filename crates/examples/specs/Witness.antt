-- Runs in which power fails, pages are harmed and records are lost: they exist, and they come to what the promises speak of.
use Rattle.std.specs.Prelude.{◌≡◌, ℕ, List, [], ◌∷◌, length, drop, Some, None, Ok, Err, Result}
use Rattle.order.specs.Lawful.{Lawful}
use Rattle.order.specs.Orders.{by_byte}
use Rattle.wal.specs.Journal.{lost, entry_at}
use Rattle.tree.specs.Worlds.{Harmed}
use Rattle.images.specs.Keys.{Key, empty_key, keyed, pair_cost, kid_cost}
use Rattle.model.specs.declared.refusal.Refusal.{Refusal}
use Rattle.model.specs.declared.refusal.Refusal.TheVariants.{BadRecord, Absent, LostRecord, PowerFailed}
use Rattle.model.specs.declared.state.State.TheVariants as state
use Rattle.model.specs.Worlds.{World}
use Rattle.model.specs.Calls.{Call, Reply, Served}
use Rattle.model.specs.Calls.Call.{Create, Open, Get, Next}
use Rattle.model.specs.Calls.Reply.{Accepted, Valued, Listed}
use Rattle.model.specs.Runs.{History, Added, meaning, Run}
use Rattle.model.specs.Promises.{present, WellFormed}
use Rattle.examples.specs.Worked.{full_key, full_value, put_full}

-- calls and their answers, the last first
abbrev pub Tale : Type 0
Tale = List (Call × Result Reply Refusal)

unfoldable pub tale_of : History → Tale
tale_of [] = []
tale_of (e ∷ h) = (e.call, e.answer) ∷ tale_of h

-- a new store is created and gets five full entries
unfoldable pub five_stand : Tale
five_stand =
    (put_full 5, Ok Accepted) ∷ (put_full 4, Ok Accepted) ∷ (put_full 3, Ok Accepted) ∷ (put_full 2, Ok Accepted) ∷ (put_full 1, Ok Accepted)
    ∷ (Create, Ok Accepted) ∷ []

-- the put of the sixth is cut off
unfoldable pub sixth_is_cut : Tale
sixth_is_cut = (put_full 6, Err PowerFailed) ∷ five_stand

-- the store is opened
unfoldable pub cut_and_opened : Tale
cut_and_opened = (Open, Ok Accepted) ∷ sixth_is_cut

-- and the sixth put again
unfoldable pub sixth_is_put_again : Tale
sixth_is_put_again = (put_full 6, Ok Accepted) ∷ cut_and_opened

-- page p is harmed
abbrev pub HarmedPage : Added → World → ℕ → Type 0
HarmedPage added w p = Harmed (keyed by_byte) empty_key pair_cost kid_cost (meaning by_byte added w) p

-- Power fails as the put's own record is appended, the second of its two: the foster record, the seventh of the log, is there.

-- the own record is not added: the put does not stand. Opened, a get of its key answers that it is absent, and a next finds none above the fifth
abbrev pub AbsentAfterACut : Type 0
AbsentAfterACut =
    (h : History) × (added : Added) × (w : World) × (k : Key)
    × Run by_byte h added state.Open w
    × (tale_of h ≡ cut_and_opened) × (length added ≡ 7) × (present h (full_key 6) ≡ None)
    × WellFormed (full_key 6) k 64 32 w
    × ((e : World) × Served by_byte state.Open (Get (full_key 6) 64 32) w (Err Absent) state.Open e)
    × ((e : World) × Served by_byte state.Open (Next (full_key 5) 16 64 32) w (Err Absent) state.Open e)

-- it is added: the put stands, though it answered that power failed
abbrev pub StandsThoughCut : Type 0
StandsThoughCut =
    (h : History) × (added : Added) × (w : World)
    × Run by_byte h added state.Down w
    × (tale_of h ≡ sixth_is_cut) × (length added ≡ 8) × (present h (full_key 6) ≡ Some (full_value 6))

-- it is not added, and the sixth is put again: two calls ago its key was not present, and now it is. Then page 1 is harmed: a get makes it
-- again and gives the value, and a next finds the key
abbrev pub MendedAfterACut : Type 0
MendedAfterACut =
    (h : History) × (added : Added) × (w : World) × (k : Key)
    × Run by_byte h added state.Open w
    × (tale_of h ≡ sixth_is_put_again) × (length added ≡ 8) × (present (drop 2 h) (full_key 6) ≡ None) × (present h (full_key 6) ≡ Some (full_value 6))
    × HarmedPage added w 1
    × WellFormed (full_key 6) k 64 32 w
    × ((e : World) × Served by_byte state.Open (Get (full_key 6) 64 32) w (Ok (Valued (full_value 6))) state.Open e)
    × ((e : World) × Served by_byte state.Open (Next (full_key 5) 16 64 32) w (Ok (Listed (full_key 6) (full_value 6))) state.Open e)

-- the same, and records 3 and 5 of page 1's chain are lost: a get tells the newer of them, and an open is refused for the older
abbrev pub LostAfterACut : Type 0
LostAfterACut =
    (h : History) × (added : Added) × (w : World) × (k : Key)
    × Run by_byte h added state.Open w
    × (tale_of h ≡ sixth_is_put_again) × (length added ≡ 8) × (present (drop 2 h) (full_key 6) ≡ None) × (present h (full_key 6) ≡ Some (full_value 6))
    × HarmedPage added w 1 × (entry_at w.journal 3 ≡ lost) × (entry_at w.journal 5 ≡ lost)
    × WellFormed (full_key 6) k 64 32 w
    × ((e : World) × Served by_byte state.Open (Get (full_key 6) 64 32) w (Err (LostRecord 1 5)) state.Open e)
    × ((e : World) × Served by_byte state.Open Open w (Err (BadRecord 3)) state.Down e)

-- and the order of keys is lawful, as the promises ask
abbrev pub RunsWithCutsHarmAndLossExist : Type 0
RunsWithCutsHarmAndLossExist = Lawful by_byte × AbsentAfterACut × StandsThoughCut × MendedAfterACut × LostAfterACut
