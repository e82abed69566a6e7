-- What may become of an append.
use Rattle.std.specs.Prelude.{◌≡◌, ℕ, ◌+◌, Bool, true, false, cond, List, [], ◌∷◌, ◌++◌, length, nat_le, Result, Ok, Err}
use Rattle.wal.specs.Journal.{Journal, Entry, entry}
use Rattle.wal.specs.Records.{stamped}
use Rattle.wal.specs.declared.errors.AppendError.{AppendError}
use Rattle.wal.specs.declared.errors.AppendError.TheVariants.{Full, Off}

-- power lasts through the append, or goes off in it with the record added or not
pub data Fate : Type 0 where
  lasts : Fate
  added : Fate
  not_added : Fate

abbrev pub full : Journal → Bool
full j = nat_le j.capacity (length j.records)

-- a row with one record more, stamped with its position
abbrev pub longer : List Entry → List ℕ → List Entry
longer es bs = es ++ (entry (stamped (length es + 1) bs) ∷ [])

abbrev pub row_after : Fate → List Entry → List ℕ → List Entry
row_after lasts es bs = longer es bs
row_after added es bs = longer es bs
row_after not_added es bs = es

abbrev pub power_after : Fate → Bool
power_after lasts = true
power_after added = false
power_after not_added = false

-- the log after an append of bs: while off, and at capacity, nothing changes
abbrev pub appended : Fate → Journal → List ℕ → Journal
appended f j bs = cond j.on (cond (full j) j (record { capacity = j.capacity; records = row_after f j.records bs; on = power_after f })) j

-- what an append answers, by the power that is left
abbrev pub answer : Journal → Bool → Result ℕ AppendError
answer j power = cond power (cond (full j) (Err Full) (Ok (length j.records + 1))) (Err Off)

-- an append of bs took j to k and answered r
pub record Appended (j : Journal) (bs : List ℕ) (r : Result ℕ AppendError) (k : Journal) : Type 0 where
  pub fate : Fate
  pub leaves : k ≡ appended fate j bs
  pub answers : r ≡ answer j k.on
