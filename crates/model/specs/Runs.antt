-- Runs of a store from new: calls, power that fails in them, and harm and loss between them.
use Rattle.std.specs.Prelude.{◌≡◌, ℕ, suc, Bool, true, false, ◌⊎◌, List, [], ◌∷◌, ◌++◌, map, length, drop, Result}
use Rattle.order.specs.Lawful.{Says}
use Rattle.device.specs.Disk.{page_at, NewDevice}
use Rattle.wal.specs.Journal.{Entry, entry, lost, entry_at}
use Rattle.tree.specs.Log.{Rec, Logged}
use Rattle.tree.specs.Worlds.{Fails, logged}
use Rattle.tree.specs.Worlds as tree
use Rattle.images.specs.Keys.{Key, Value, empty_key, keyed}
use Rattle.images.specs.Images.{stored_page}
use Rattle.images.specs.Records.{chain_rec}
use Rattle.model.specs.declared.refusal.Refusal.{Refusal}
use Rattle.model.specs.declared.state.State.{State}
use Rattle.model.specs.declared.state.State.TheVariants.{New}
use Rattle.model.specs.Worlds.{World}
use Rattle.model.specs.Calls.{Call, Reply, Served}

-- a call as it was answered, and the records that reached the log in it
pub record Event : Type 0 where
  pub call : Call
  pub answer : Result Reply Refusal
  pub reached : List Entry

-- the last event first
abbrev pub History : Type 0
History = List Event

abbrev pub new_records : World → World → List Entry
new_records w e = drop (length w.journal.records) e.journal.records

abbrev pub event : Call → Result Reply Refusal → World → World → Event
event c r w e = record { call = c; answer = r; reached = new_records w e }

-- records as they were added: the bytes of each position, whether or not they are lost since
abbrev pub Added : Type 0
Added = List (List ℕ)

abbrev pub bytes_in : Entry → List ℕ
bytes_in (entry b) = b
bytes_in lost = []

-- a row reads as it was added, but for records that are lost
abbrev pub Reads : List Entry → Added → Type 0
Reads [] [] = Unit {0}
Reads [] (b ∷ bs) = ⊥
Reads (e ∷ es) [] = ⊥
Reads (e ∷ es) (b ∷ bs) = ((e ≡ lost) ⊎ (e ≡ entry b)) × Reads es bs

abbrev pub is_lost : Entry → Bool
is_lost (entry b) = false
is_lost lost = true

unfoldable pub records_from : ℕ → Added → List (Rec Key Value)
records_from n [] = []
records_from n (b ∷ bs) = chain_rec n b ∷ records_from (suc n) bs

-- what device and log mean: the records as they were added, which of them are lost, and what the pages read as
abbrev pub meaning : Says → Added → World → tree.World Key Value
meaning says added w = record {
  recs = records_from 1 added;
  lost = λ n. is_lost (entry_at w.journal n);
  pages = λ p. stored_page says p (page_at w.disk p);
}

-- every page's image and newest position, and which values stand, by the records as they were added
abbrev pub meant : Says → Added → World → Logged Key Value
meant says added w = logged (keyed says) empty_key (meaning says added w)

-- between calls pages may be harmed, unborn ones too, and then fail a check at their newest and every later position; records may be lost,
-- or be read again as they were added. Lengths, power and the index stay
pub record Harm (says : Says) (added : Added) (w e : World) : Type 0 where
  pub index : e.index ≡ w.index
  pub count : length e.disk.pages ≡ length w.disk.pages
  pub disk_power : e.disk.on ≡ w.disk.on
  pub pages : (p : ℕ) → (page_at e.disk p ≡ page_at w.disk p) ⊎ Fails ((meant says added w).newest p) (stored_page says p (page_at e.disk p))
  pub capacity : e.journal.capacity ≡ w.journal.capacity
  pub journal_power : e.journal.on ≡ w.journal.on
  pub records : Reads e.journal.records added

-- what the store has been through, its log's records as they were added, its state and its world
pub data Run (says : Says) : History → Added → State → World → Type 0 where
  begins : {w : World} → w.index ≡ [] → NewDevice w.disk → w.journal.records ≡ [] → Run says [] [] New w
  calls : {h : History} {added : Added} {s : State} {w : World} {c : Call} {r : Result Reply Refusal} {t : State} {e : World}
      → Run says h added s w → Served says s c w r t e
      → Run says (event c r w e ∷ h) (added ++ map bytes_in (new_records w e)) t e
  harms : {h : History} {added : Added} {s : State} {w e : World} → Run says h added s w → Harm says added w e → Run says h added s e
