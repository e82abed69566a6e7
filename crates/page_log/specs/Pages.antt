-- A log on a page device, one record a page.
use Rattle.std.specs.Prelude.{◌≡◌, ℕ, ◌+◌, ◌-◌, Bool, false, cond, List, ◌++◌, length, take, replicate, nat_lt, slice_index_or, Result, Err}
use Rattle.std.specs.Str.{bytes_eq}
use Rattle.seal.specs.Seal.{sealed}
use Rattle.device.specs.Disk.{Disk, page_at}
use Rattle.wal.specs.Journal.{Journal, Entry, entry, lost, shown}
use Rattle.device.specs.Writes.{Fate, written}
use Rattle.wal.specs.Records.{stamped}
use Rattle.wal.specs.Slots.{slot, slots, room, LastPassing}
use Rattle.wal.specs.declared.errors.RecordError.{RecordError}
use Rattle.wal.specs.declared.errors.RecordError.TheVariants.{Off}

-- the page of a record: its bytes, zeros, and the page's seal
unfoldable pub paged : List ℕ → List ℕ
paged r = sealed (r ++ replicate 380 0)

abbrev pub page_room : Disk → ℕ
page_room d = room (length d.pages)

abbrev pub page_slots : Disk → List Entry
page_slots d = slots 1 (take (page_room d) d.pages)

-- what a look at the slot of a position tells
abbrev pub looked : Disk → ℕ → Result (List ℕ) RecordError
looked d n = cond d.on (shown (slot n (page_at d (n - 1)))) (Err Off)

abbrev pub holds_record : List ℕ → Entry → Bool
holds_record r (entry bs) = bytes_eq bs r
holds_record r lost = false

-- a row of used positions, and one more if the slot behind it holds this record
abbrev pub with_last : List Entry → ℕ → List ℕ → ℕ
with_last es used last = cond (holds_record last (slice_index_or es used lost)) (used + 1) used

-- How far the row reaches. Power that failed in an append may have left its record: while off, the row has it exactly if
-- its slot holds it.
abbrev pub reach : Disk → ℕ → List ℕ → ℕ
reach d used last = cond d.on used (with_last (page_slots d) used last)

-- the meaning of a log on d that has used positions, and whose last append was of this record
abbrev pub page_journal : Disk → ℕ → List ℕ → Journal
page_journal d used last = record { capacity = page_room d; records = take (reach d used last) (page_slots d); on = d.on }

-- its row ends at the last position that passes
abbrev pub EndsAtLast : Disk → ℕ → List ℕ → Type 0
EndsAtLast d used last = LastPassing (page_slots d) (reach d used last)

-- what an append of bs leaves on the device: the page behind the row was written, and no other
pub record Laid (d : Disk) (used : ℕ) (bs : List ℕ) (e : Disk) : Type 0 where
  pub fate : Fate
  pub leaves : e ≡ cond (nat_lt used (page_room d)) (written fate d used (paged (stamped (used + 1) bs))) d
