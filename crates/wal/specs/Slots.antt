-- A log's row in slots: blocks that pass or are lost.
use Rattle.std.specs.Prelude.{◌≡◌, ℕ, suc, ◌-◌, ◌*◌, ◌/◌, ◌≤◌, min, true, cond, List, [], ◌∷◌, ◌++◌, map, length, take, drop, ◌≢◌, slice_index_or}
use Rattle.device.specs.Disk.{Page, holds, unreadable}
use Rattle.std.specs.Simd.{first_chunks}
use Rattle.wal.specs.Journal.{Journal, Entry, entry, lost}
use Rattle.wal.specs.Records.{passes}

-- the slot of position n: it passes if it is readable, sealed and carries its own position
abbrev pub slot : ℕ → Page → Entry
slot n (holds bs) = cond (passes n bs) (entry (take 128 bs)) lost
slot n unreadable = lost

-- a row of slots, the first at position n
abbrev pub slots : ℕ → List Page → List Entry
slots n [] = []
slots n (q ∷ qs) = slot n q ∷ slots (suc n) qs

-- n is the last position that passes, or 0 where none does
pub record LastPassing (es : List Entry) (n : ℕ) : Type 0 where
  pub stands : (i : ℕ) → n ≡ suc i → slice_index_or es i lost ≢ lost
  pub beyond : (i : ℕ) → n ≤ i → slice_index_or es i lost ≡ lost

-- a log is new if no slot passes
abbrev pub NewLog : List Entry → Type 0
NewLog es = (i : ℕ) → slice_index_or es i lost ≡ lost

-- how many slots a log can have of n that are there
abbrev pub room : ℕ → ℕ
room n = min n 4294967295

-- the slots of 128 bytes in memory
abbrev pub memory_room : List ℕ → ℕ
memory_room bs = room (length bs / 128)

abbrev pub memory_slots : List ℕ → List Entry
memory_slots bs = slots 1 (map holds (first_chunks 128 (memory_room bs) bs))

-- memory with a record in the slot of position n, and all else as it was
abbrev pub with_slot : ℕ → List ℕ → List ℕ → List ℕ
with_slot n r bs = take ((n - 1) * 128) bs ++ (r ++ drop (n * 128) bs)

-- a log in memory whose row has used positions
abbrev pub memory_journal : List ℕ → ℕ → Journal
memory_journal bs used = record { capacity = memory_room bs; records = take used (memory_slots bs); on = true }
