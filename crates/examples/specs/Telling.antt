-- A store that is asked one call after another, and what it answers, as numbers.
use Rattle.std.specs.Prelude.{ℕ, zero, suc, true, List, [], ◌∷◌, ◌++◌, replicate, Ok, Err, Result, slice_index, slice_set}
use Rattle.order.specs.Orders.{by_byte}
use Rattle.device.specs.Disk.{Page, holds, unreadable}
use Rattle.device.specs.Writes as page
use Rattle.wal.specs.Journal.{Entry, entry, lost}
use Rattle.wal.specs.Appends as log
use Rattle.tree.specs.Log.{Built}
use Rattle.tree.specs.Log.Built.{Done, Lost, Misfit}
use Rattle.images.specs.Keys.{Key, Value}
use Rattle.images.specs.Images.{encode_image}
use Rattle.model.specs.declared.refusal.Refusal.{Refusal}
use Rattle.model.specs.declared.refusal.Refusal.TheVariants.{PowerFailed}
use Rattle.model.specs.declared.state.State.{State}
use Rattle.model.specs.declared.state.State.TheVariants as state
use Rattle.model.specs.declared.state.Tended.{Tended}
use Rattle.model.specs.declared.state.Tended.TheVariants.{Untended, Grown, Adopted, Split}
use Rattle.model.specs.Refusals.{number_of, values_of}
use Rattle.model.specs.Worlds.{World, Action, world, acted, done}
use Rattle.model.specs.Plans.{Plan}
use Rattle.model.specs.Fetches.{image_at}
use Rattle.model.specs.Calls.{Call, Reply, calling, state_after}
use Rattle.model.specs.Calls.Reply.{Accepted, Valued, Listed, Stepped}

pub record Store : Type 0 where
  pub state : State
  pub world : World

-- eight zeroed pages, and a log that is empty and has room for 32 records
unfoldable pub new_store : Store
new_store = record {
  state = state.New;
  world = world [] (record { pages = replicate 8 (holds (replicate 512 0)); on = true }) (record { capacity = 32; records = []; on = true });
}

-- keys by byte order
unfoldable pub planned : Store → Call → Plan Reply
planned s c = calling by_byte s.state c s.world

-- the store after a call that the power outlasts
unfoldable pub does : Store → Call → Store
does s c = let p = planned s c in record { state = state_after s.state c p.answer; world = done p.actions s.world }

-- power fails in the action behind the first n
abbrev pub cut_in : log.Fate → page.Fate → World → List Action → World
cut_in a f w [] = w
cut_in a f w (x ∷ xs) = acted a f x w

unfoldable pub cut_off_world : ℕ → log.Fate → page.Fate → World → List Action → World
cut_off_world zero a f w xs = cut_in a f w xs
cut_off_world (suc n) a f w [] = w
cut_off_world (suc n) a f w (x ∷ xs) = cut_off_world n a f (done (x ∷ []) w) xs

unfoldable pub cut : ℕ → log.Fate → page.Fate → Store → Call → Store
cut n a f s c = record { state = state_after s.state c (Err PowerFailed); world = cut_off_world n a f s.world (planned s c).actions }

-- 0 and what was given, or a refusal's number and values
unfoldable pub step_told : Tended → ℕ
step_told Untended = 0
step_told Grown = 1
step_told Adopted = 2
step_told Split = 3

unfoldable pub told : Result Reply Refusal → List ℕ
told (Ok Accepted) = 0 ∷ []
told (Ok (Valued v)) = 0 ∷ v
told (Ok (Listed k v)) = 0 ∷ (k ++ v)
told (Ok (Stepped t)) = 0 ∷ step_told t ∷ []
told (Err ε) = number_of ε ∷ values_of ε

unfoldable pub tells : Store → Call → List ℕ
tells s c = told (planned s c).answer

-- a page becomes anything, a record is lost
unfoldable pub harmed : Store → ℕ → Page → Store
harmed s p q = record {
  state = s.state;
  world = world s.world.index (record { pages = slice_set s.world.disk.pages p q; on = true }) s.world.journal;
}

-- positions count from 1
unfoldable pub losing : Store → ℕ → Store
losing s n = record {
  state = s.state;
  world = world s.world.index s.world.disk
      (record { capacity = s.world.journal.capacity; records = slice_set s.world.journal.records n lost; on = true });
}

-- page p as it was at position n
unfoldable pub as_page : ℕ → ℕ → Built Key Value → Page
as_page p n (Done x) = holds (encode_image p n x)
as_page p n (Lost m) = unreadable
as_page p n (Misfit m) = unreadable

unfoldable pub page_then : Store → ℕ → ℕ → Page
page_then s p n = as_page p n (image_at by_byte s.world.journal p n)

-- a record in short: kind, page, other, the last byte of a key of 16
unfoldable pub brief : Entry → List ℕ
brief lost = []
brief (entry b) = slice_index b 24 ∷ slice_index b 4 ∷ slice_index b 12 ∷ slice_index b 41 ∷ []

unfoldable pub briefs : List Entry → List (List ℕ)
briefs [] = []
briefs (e ∷ es) = brief e ∷ briefs es
