-- What a page device means: a row of pages, and power.
use Rattle.std.specs.Prelude.{◌≡◌, ℕ, Bool, true, false, cond, ◌&&◌, List, length, nat_lt, slice_index_or, Result, Ok, Err}
use Rattle.seal.specs.Seal.{is_sealed}
use Rattle.device.specs.declared.errors.ReadError.{ReadError}
use Rattle.device.specs.declared.errors.ReadError.TheVariants.{Unreadable, Off}

-- a page holds 512 bytes, or cannot be read
pub data Page : Type 0 where
  holds : List ℕ → Page
  unreadable : Page

-- whether a page is readable and sealed
abbrev pub intact : Page → Bool
intact (holds bs) = is_sealed bs
intact unreadable = false

pub record Disk : Type 0 where
  pub pages : List Page
  pub on : Bool

-- page p; beyond the count there is nothing to read
abbrev pub page_at : Disk → ℕ → Page
page_at d p = slice_index_or d.pages p unreadable

-- whether a write of page p does anything
abbrev pub reaches : Disk → ℕ → Bool
reaches d p = d.on && nat_lt p (length d.pages)

abbrev pub shown : Page → Result (List ℕ) ReadError
shown (holds bs) = Ok bs
shown unreadable = Err Unreadable

-- whether an answer gives the bytes of an intact page
abbrev pub gives_sealed : Result (List ℕ) ReadError → Bool
gives_sealed (Ok bs) = is_sealed bs
gives_sealed (Err e) = false

-- what a read of page p answers
abbrev pub reading : Disk → ℕ → Result (List ℕ) ReadError
reading d p = cond d.on (shown (page_at d p)) (Err Off)

abbrev pub woken : Disk → Disk
woken d = record { pages = d.pages; on = true }

-- a device is new if every page is unreadable or fails its seal
abbrev pub NewDevice : Disk → Type 0
NewDevice d = (p : ℕ) → intact (page_at d p) ≡ false
