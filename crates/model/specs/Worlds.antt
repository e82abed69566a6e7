-- What a store works on, and what one action does to it.
use Rattle.std.specs.Prelude.{ℕ, ◌+◌, min, Bool, true, cond, List, [], ◌∷◌, ◌++◌, length, nat_lt, slice_index, slice_set}
use Rattle.device.specs.Disk.{Disk, woken}
use Rattle.device.specs.Writes as page
use Rattle.wal.specs.Journal.{Journal}
use Rattle.wal.specs.Journal as journal
use Rattle.wal.specs.Appends as log

-- the index has 256 places: the newest positions of the born pages, page 0 first, each at least 1, and zeros behind them. Here it is the
-- born ones alone
pub record World : Type 0 where
  pub index : List ℕ
  pub disk : Disk
  pub journal : Journal

abbrev pub world : List ℕ → Disk → Journal → World
world ix d j = record { index = ix; disk = d; journal = j }

abbrev pub newest : List ℕ → ℕ → ℕ
newest ix p = slice_index ix p

abbrev pub born : World → ℕ
born w = length w.index

-- how many pages the store can use
abbrev pub usable : World → ℕ
usable w = min 256 (length w.disk.pages)

-- the position that the next record gets
abbrev pub next_position : World → ℕ
next_position w = length w.journal.records + 1

-- the place of page p is raised to position n; the page behind the last born one is born with it
abbrev pub raise : ℕ → ℕ → List ℕ → List ℕ
raise n p ix = cond (nat_lt p (length ix)) (slice_set ix p n) (ix ++ (n ∷ []))

abbrev pub raised : ℕ → List ℕ → List ℕ → List ℕ
raised n [] ix = ix
raised n (p ∷ ps) ix = raised n ps (raise n p ix)

pub data Action : Type 0 where
  -- device and log are woken
  wakes : Action
  -- the index is made anew
  indexes : List ℕ → Action
  -- a record is appended, which changes some pages
  adds : (ps : List ℕ) (bs : List ℕ) → Action
  -- a page is written
  stores : (p : ℕ) (bs : List ℕ) → Action

-- an append raises the places of the pages that its record changes, and no others
abbrev pub acted : log.Fate → page.Fate → Action → World → World
acted a f wakes w = world w.index (woken w.disk) (journal.woken w.journal)
acted a f (indexes ix) w = world ix w.disk w.journal
acted a f (adds ps bs) w =
    let j = log.appended a w.journal bs in
    world (cond (log.full w.journal) w.index (cond j.on (raised (next_position w) ps w.index) w.index)) w.disk j
acted a f (stores p bs) w = world w.index (page.written f w.disk p bs) w.journal

-- the power of what an action works on
abbrev pub powered : Action → World → Bool
powered wakes w = true
powered (indexes ix) w = true
powered (adds ps bs) w = w.journal.on
powered (stores p bs) w = w.disk.on

-- an action that power outlasts, and several
abbrev pub did : Action → World → World
did a w = acted log.lasts page.lasts a w

abbrev pub done : List Action → World → World
done [] w = w
done (a ∷ as') w = done as' (did a w)
