-- A store over a card and a log in memory, asked call by call: what it answers, where the card and the log may be edited between two starts.
use Rattle.std.specs.Prelude.{true, List, [], ◌∷◌, ◌++◌, map, ℕ, zero, suc, ◌+◌, ◌/◌, ◌%◌, ◌^◌, length, get_or, set, take, drop, replicate}
use Rattle.order.specs.Lawful.{Says}
use Rattle.device.specs.Disk.{Page, holds, unreadable}
use Rattle.wal.specs.Journal.{Entry, entry, lost}
use Rattle.wal.specs.Slots.{slots}
use Rattle.model.specs.declared.state.State.{State}
use Rattle.model.specs.declared.state.State.TheVariants.{New}
use Rattle.model.specs.Worlds.{World, world, done}
use Rattle.model.specs.Plans.{Plan}
use Rattle.model.specs.Calls.{Call, Reply, calling, state_after}
use Rattle.examples.specs.Telling.{told}

-- n bytes as one number, the first byte highest
unfoldable pub bytes : ℕ → ℕ → List ℕ
bytes zero x = []
bytes (suc n) x = x / 256 ^ n % 256 ∷ bytes n x

pub data Op : Type 0 where
  Ask : Call → Op
  -- bytes from a place on in a page, and in a slot of the log, counted from 0
  EditPage : (page place : ℕ) → List ℕ → Op
  EditSlot : (slot place : ℕ) → List ℕ → Op
  -- the store is made anew over what card and log hold
  Restart : Op

pub record Box : Type 0 where
  -- the log's memory at the last start, and how many of its slots the row had then
  pub memory : List (List ℕ)
  pub used : ℕ
  pub state : State
  pub world : World

unfoldable pub patched : List ℕ → ℕ → List ℕ → List ℕ
patched b place new = take place b ++ (new ++ drop (place + length new) b)

unfoldable pub page_patched : Page → ℕ → List ℕ → Page
page_patched unreadable place new = unreadable
page_patched (holds b) place new = holds (patched b place new)

-- how many positions up to the last that passes
unfoldable pub last_passing : ℕ → ℕ → List Entry → ℕ
last_passing best i [] = best
last_passing best i (lost ∷ es) = last_passing best (suc i) es
last_passing best i (entry b ∷ es) = last_passing (suc i) (suc i) es

unfoldable pub slot_after : List ℕ → Entry → List ℕ
slot_after m lost = m
slot_after m (entry b) = b

-- the memory with the records that were added since
unfoldable pub memory_after : List (List ℕ) → ℕ → List Entry → List (List ℕ)
memory_after [] used es = []
memory_after (m ∷ ms) (suc used) [] = m ∷ memory_after ms used []
memory_after (m ∷ ms) (suc used) (e ∷ es) = m ∷ memory_after ms used es
memory_after (m ∷ ms) zero [] = m ∷ memory_after ms zero []
memory_after (m ∷ ms) zero (e ∷ es) = slot_after m e ∷ memory_after ms zero es

unfoldable pub saved : Box → List (List ℕ)
saved x = memory_after x.memory x.used x.world.journal.records

unfoldable pub restarted : Box → Box
restarted x =
    let ms = saved x in
    let es = slots 1 (map holds ms) in
    let n = last_passing 0 0 es in
    record { memory = ms; used = n; state = New; world = world [] x.world.disk (record { capacity = length ms; records = take n es; on = true }) }

unfoldable pub page_edited : Box → ℕ → ℕ → List ℕ → Box
page_edited x p place new = record {
  memory = x.memory;
  used = x.used;
  state = x.state;
  world = world x.world.index
      (record { pages = set x.world.disk.pages p (page_patched (get_or x.world.disk.pages p unreadable) place new); on = true }) x.world.journal;
}

unfoldable pub slot_edited : Box → ℕ → ℕ → List ℕ → Box
slot_edited x i place new =
    let ms = saved x in
    record { memory = set ms i (patched (get_or ms i []) place new); used = length ms; state = x.state; world = x.world }

unfoldable pub asked_box : Box → Plan Reply → Call → Box
asked_box x p c = record { memory = x.memory; used = x.used; state = state_after x.state c p.answer; world = done p.actions x.world }

-- zeroed pages and slots
unfoldable pub zeroed : ℕ → ℕ → Box
zeroed pages slots = record {
  memory = replicate slots (replicate 128 0);
  used = 0;
  state = New;
  world = world [] (record { pages = replicate pages (holds (replicate 512 0)); on = true }) (record { capacity = slots; records = []; on = true });
}

-- the answers, one after another
unfoldable pub answers_of : Says → List Op → Box → List (List ℕ)
answers_of says [] x = []
answers_of says (Ask c ∷ os) x = let p = calling says x.state c x.world in told p.answer ∷ answers_of says os (asked_box x p c)
answers_of says (EditPage p place new ∷ os) x = answers_of says os (page_edited x p place new)
answers_of says (EditSlot i place new ∷ os) x = answers_of says os (slot_edited x i place new)
answers_of says (Restart ∷ os) x = answers_of says os (restarted x)
