-- A page as the store comes by it: read and checked, or made again from its chain and written.
use Rattle.std.specs.Prelude.{ℕ, zero, suc, cond, List, [], ◌∷◌, Some, None, Ok, Err, Option, Result}
use Rattle.order.specs.Lawful.{Says}
use Rattle.device.specs.Disk.{holds, reading}
use Rattle.device.specs.declared.errors.ReadError.{ReadError}
use Rattle.device.specs.declared.errors.ReadError.TheVariants as read
use Rattle.wal.specs.Journal.{Journal, entry_at}
use Rattle.tree.specs.Tree.{Image}
use Rattle.tree.specs.Log.{Rec, Source, source, Built, rebuild}
use Rattle.tree.specs.Log.Source.{Out, Fresh, Earlier}
use Rattle.tree.specs.Log.Built.{Done, Lost, Misfit}
use Rattle.tree.specs.Suits.{suits}
use Rattle.tree.specs.Worlds.{passes}
use Rattle.images.specs.Keys.{Key, Value, empty_key, keyed, pair_cost, kid_cost}
use Rattle.images.specs.Images.{encode_image, stored_page}
use Rattle.images.specs.Records.{entry_rec}
use Rattle.model.specs.declared.refusal.Refusal.TheVariants.{LostRecord, MisfitRecord, PowerFailed}
use Rattle.model.specs.Worlds.{World, stores, newest}
use Rattle.model.specs.Plans.{Plan, ends}

-- the record at a position, as walking back meets it
abbrev pub rec_at : Journal → ℕ → Option (Rec Key Value)
rec_at j n = entry_rec n (entry_at j n)

-- page p's image at position n: back along its chain, then applied oldest first. Positions fall, so n + 1 records are enough
unfoldable pub image_at : Says → Journal → ℕ → ℕ → Built Key Value
image_at says j p n = rebuild (keyed says) empty_key (suits (keyed says) pair_cost kid_cost) (rec_at j) (suc n) p n

-- the positions of page p's chain from position n back, as far as they can be followed
abbrev pub chain_from : (ℕ → ℕ → List ℕ) → Source → List ℕ
chain_from go Out = []
chain_from go Fresh = []
chain_from go (Earlier q m) = go q m

abbrev pub chain_at : (ℕ → ℕ → List ℕ) → ℕ → Option (Rec Key Value) → List ℕ
chain_at go p None = []
chain_at go p (Some r) = chain_from go (source r p)

unfoldable pub chain : Journal → ℕ → ℕ → ℕ → List ℕ
chain j zero p n = []
chain j (suc f) p n = n ∷ chain_at (chain j f) p (rec_at j n)

-- a page made again is written; a lost record or a misfit is told
abbrev pub mended : ℕ → ℕ → Built Key Value → Plan (Image Key Value)
mended p n (Done x) = record { actions = stores p (encode_image p n x) ∷ []; answer = Ok x }
mended p n (Lost m) = ends (Err (LostRecord p m))
mended p n (Misfit m) = ends (Err (MisfitRecord p m))

-- a log that is off has no record to tell
unfoldable pub mending : Says → World → ℕ → ℕ → Plan (Image Key Value)
mending says w p n =
    let made = mended p n (image_at says w.journal p n) in
    cond w.journal.on made (ends (Err PowerFailed))

abbrev pub checked : Says → World → ℕ → ℕ → Option (Image Key Value) → Plan (Image Key Value)
checked says w p n (Some x) = ends (Ok x)
checked says w p n None = mending says w p n

-- what was read of page p, whose newest position is n
abbrev pub looked : Says → World → ℕ → ℕ → Result (List ℕ) ReadError → Plan (Image Key Value)
looked says w p n (Ok b) = checked says w p n (passes n (stored_page says p (holds b)))
looked says w p n (Err read.Unreadable) = mending says w p n
looked says w p n (Err read.Off) = ends (Err PowerFailed)

unfoldable pub fetching : Says → World → ℕ → Plan (Image Key Value)
fetching says w p = looked says w p (newest w.index p) (reading w.disk p)
