-- What the answer of an append tells of it, whatever the log, and what a new log is.
use Rattle.std.specs.Prelude.{◌≡◌, ℕ, true, false, List, length, Result, Ok, Err}
use Rattle.wal.specs.Journal.{Journal, Entry}
use Rattle.wal.specs.Appends.{Appended, appended, full, lasts}
use Rattle.wal.specs.Slots.{LastPassing, NewLog}
use Rattle.wal.specs.declared.errors.AppendError.{AppendError}
use Rattle.wal.specs.declared.errors.AppendError.TheVariants.{Full, Off}

-- j took the record bs at position n and is k now
pub record Placed (j : Journal) (bs : List ℕ) (n : ℕ) (k : Journal) : Type 0 where
  pub was_on : j.on ≡ true
  pub not_full : full j ≡ false
  pub new_length : n ≡ length k.records
  pub row : k ≡ appended lasts j bs

-- an append that answered a position was on and not full, and that position is the new length
abbrev pub AddedIsPlaced : Type 0
AddedIsPlaced = (j k : Journal) (bs : List ℕ) (n : ℕ) → Appended j bs (Ok n) k → Placed j bs n k

abbrev pub FullChangesNothing : Type 0
FullChangesNothing = (j k : Journal) (bs : List ℕ) → Appended j bs (Err Full) k → (full j ≡ true) × (k ≡ j)

abbrev pub OffMeansOff : Type 0
OffMeansOff = (j k : Journal) (bs : List ℕ) → Appended j bs (Err Off) k → k.on ≡ false

abbrev pub CapacityStays : Type 0
CapacityStays = (j k : Journal) (bs : List ℕ) (r : Result ℕ AppendError) → Appended j bs r k → k.capacity ≡ j.capacity

-- a log is new exactly if its last passing position is 0
abbrev pub NewIsEmpty : Type 0
NewIsEmpty = (es : List Entry) (n : ℕ) → LastPassing es n → NewLog es → n ≡ 0

abbrev pub EmptyIsNew : Type 0
EmptyIsNew = (es : List Entry) → LastPassing es 0 → NewLog es
