-- What a log means: a fixed capacity, a row of records, and power.
use Rattle.std.specs.Prelude.{ℕ, Bool, true, cond, List, ◌∷◌, length, slice_index_or, Result, Ok, Err}
use Rattle.device.specs.Writes.{power_off}
use Rattle.device.specs.declared.errors.PowerOff.{PowerOff}
use Rattle.device.specs.declared.errors.ReadError.{ReadError}
use Rattle.device.specs.declared.errors.ReadError.TheVariants as read
use Rattle.wal.specs.declared.errors.RecordError.{RecordError}
use Rattle.wal.specs.declared.errors.RecordError.TheVariants.{Lost, Off}

-- a record of 128 bytes, or one that is lost
pub data Entry : Type 0 where
  entry : List ℕ → Entry
  lost : Entry

pub record Journal : Type 0 where
  pub capacity : ℕ
  pub records : List Entry
  pub on : Bool

-- the record of a position; positions count from 1, and outside the row every record is lost
abbrev pub entry_at : Journal → ℕ → Entry
entry_at j n = slice_index_or (lost ∷ j.records) n lost

abbrev pub shown : Entry → Result (List ℕ) RecordError
shown (entry bs) = Ok bs
shown lost = Err Lost

-- what a read of position n answers
abbrev pub reading : Journal → ℕ → Result (List ℕ) RecordError
reading j n = cond j.on (shown (entry_at j n)) (Err Off)

-- what a question for the length answers
abbrev pub measured : Journal → Result ℕ PowerOff
measured j = cond j.on (Ok (length j.records)) (Err power_off)

-- a block that cannot be read has lost its record
abbrev pub record_error : ReadError → RecordError
record_error read.Unreadable = Lost
record_error read.Off = Off

abbrev pub woken : Journal → Journal
woken j = record { capacity = j.capacity; records = j.records; on = true }
