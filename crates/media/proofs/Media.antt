-- What a run keeps of its device and log, and the actions that keep it.
use Rattle.std.proofs.Common.{◌≡◌, ℕ, suc, ◌<◌, ◌≤◌, true, false, ◌⊎◌, List, [], ◌∷◌, ◌++◌, map, length, Some, Err, Option, Result}
use Rattle.order.specs.Lawful.{Says}
use Rattle.device.specs.Disk.{page_at}
use Rattle.wal.specs.Appends.{full}
use Rattle.neat.specs.Neat.{Tidy, NamesKey}
use Rattle.tree.specs.Tree.{Image, Sound}
use Rattle.tree.specs.Log.{Change, Logged, run, start, tree, source, Linked, May}
use Rattle.tree.specs.Log.Source.{Earlier}
use Rattle.tree.specs.Halves.{total}
use Rattle.tree.specs.Plan.{linked, changes, Begins}
use Rattle.tree.proofs.Runs.{is_put, is_remove, any}
use Rattle.tree.specs.Suits.{suits}
use Rattle.tree.specs.Worlds.{Stored, Fails}
use Rattle.images.specs.Keys.{Key, Value, empty_key, keyed, pair_cost, kid_cost}
use Rattle.images.specs.Images.{encode_image, stored_page}
use Rattle.images.specs.Records.{encode_rec, names_well, chain_rec}
use Rattle.images.specs.Laws.{Ranked, Recordable}
use Rattle.model.specs.declared.refusal.Refusal.{Refusal}
use Rattle.model.specs.declared.refusal.Refusal.TheVariants.{PowerFailed}
use Rattle.model.specs.Worlds.{World, Action, wakes, indexes, adds, stores, newest, usable, did}
use Rattle.model.specs.Changes.{changed_pages}
use Rattle.model.specs.Calls.{sized}
use Rattle.model.specs.Runs.{Added, Reads, records_from, bytes_in, new_records}
use Rattle.model.specs.Promises.{reaches}
use Rattle.media.proofs.Growth.{GrownLog}

-- each record as it was added is the image of what it says at its position, and names its pages well
abbrev pub Written : ℕ → Added → Type 0
Written n [] = Unit {0}
Written n (b ∷ bs) = ((encode_rec n (chain_rec n b) ≡ b) × Recordable n (chain_rec n b) × (names_well n (chain_rec n b) ≡ true)) × Written (suc n) bs

-- an image within a page's room
pub record Room (x : Image Key Value) : Type 0 where
  pub pairs : total pair_cost x.pairs ≤ 436
  pub kids : total kid_cost x.frame.kids ≤ 436

module _ (says : Says) (r : Ranked says) where
  -- what the records as they were added have made
  abbrev pub made : Added → Logged Key Value
  made added = run (keyed says) empty_key (start (keyed says) empty_key) (records_from 1 added)

  -- the tree that a log which is not empty has made
  pub record Standing (s : Logged Key Value) : Type 0 where
    pub sound : Sound r.rank r.top empty_key (tree s)
    pub positive : (p : ℕ) → p < s.born → 0 < s.newest p

  -- a page reads as its image at its newest position, or fails there and at every later one
  abbrev pub Intact : Logged Key Value → ℕ → Option (Stored Key Value) → Type 0
  Intact s p page = (page ≡ Some (record { lsn = s.newest p; image = s.page p })) ⊎ Fails (s.newest p) page

  pub record Media (added : Added) (w : World) : Type 0 where
    pub reads : Reads w.journal.records added
    pub written : Written 1 added
    pub link : Linked (keyed says) empty_key (suits (keyed says) pair_cost kid_cost) (start (keyed says) empty_key) (records_from 1 added)
    pub well : (added ≡ []) ⊎ Standing (made added)
    pub tidy : Tidy r.rank r.top empty_key (made added)
    pub room : (p : ℕ) → Room ((made added).page p)
    pub intact : (p : ℕ) → Intact (made added) p (stored_page says p (page_at w.disk p))
    pub fits : length added ≤ w.journal.capacity
    pub is_sized : (added ≡ [] → ⊥) → sized w ≡ true
    pub enough : (made added).born ≤ usable w
    pub grown : GrownLog says (usable w) added

  -- an open store's index is that of its log, and power is on
  pub record Opened (added : Added) (w : World) : Type 0 where
    pub some : added ≡ [] → ⊥
    pub disk_on : w.disk.on ≡ true
    pub journal_on : w.journal.on ≡ true
    pub born_is : length w.index ≡ (made added).born
    pub newest_is : (p : ℕ) → newest w.index p ≡ (made added).newest p

  -- a change that the store may make, and that suits what it changes
  pub record AptChange (s : Logged Key Value) (c : Change Key Value) : Type 0 where
    pub may : May r.rank r.top empty_key c s
    pub suit : (p q n : ℕ) → source (linked s c) p ≡ Earlier q n → suits (keyed says) pair_cost kid_cost c p (s.page q) ≡ true
    pub names : NamesKey r.rank r.top empty_key c

  -- from a device and a log, some actions that keep what a run keeps: the changes that they make, and the log and world that they lead to
  pub data Apt : Added → World → List Action → List (Change Key Value) → Added → World → Type 0 where
    rests : {added : Added} {w : World} → Apt added w [] [] added w
    awakes : {added last : Added} {w e : World} {xs : List Action} {cs : List (Change Key Value)}
        → Apt added (did wakes w) xs cs last e → Apt added w (wakes ∷ xs) cs last e
    reindexes : {added last : Added} {w e : World} {ix : List ℕ} {xs : List Action} {cs : List (Change Key Value)}
        → Apt added (did (indexes ix) w) xs cs last e → Apt added w (indexes ix ∷ xs) cs last e
    -- a born page gets its image
    mends : {added last : Added} {w e : World} {p : ℕ} {bs : List ℕ} {xs : List Action} {cs : List (Change Key Value)}
        → p < (made added).born → bs ≡ encode_image p ((made added).newest p) ((made added).page p) → w.disk.on ≡ true
        → Apt added (did (stores p bs) w) xs cs last e → Apt added w (stores p bs ∷ xs) cs last e
    -- a change's record is added
    makes : {added last : Added} {w e : World} {bs : List ℕ} {xs : List Action} {c : Change Key Value} {cs : List (Change Key Value)}
        → AptChange (made added) c → bs ≡ encode_rec (suc (length added)) (linked (made added) c)
        → w.journal.on ≡ true → full w.journal ≡ false → sized w ≡ true → (made (added ++ (bs ∷ []))).born ≤ usable w
        → Apt (added ++ (bs ∷ [])) (did (adds (changed_pages c) bs) w) xs cs last e
        → Apt added w (adds (changed_pages c) bs ∷ xs) (c ∷ cs) last e

  -- what some changes, each of whose records reached the log, have left
  pub record Came (added : Added) (w : World) (cs : List (Change Key Value)) (e : World) : Type 0 where
    pub log : Added
    pub media : Media log e
    pub makes_all : made log ≡ changes (keyed says) empty_key (made added) cs
    pub log_is : log ≡ added ++ map bytes_in (new_records w e)
    pub puts : reaches 2 (new_records w e) ≡ any is_put cs
    pub removes : reaches 3 (new_records w e) ≡ any is_remove cs

  -- power outlasted such actions: they are all done
  pub record Finished {X : Type 0} (added : Added) (w : World) (cs : List (Change Key Value)) (last : Added) (end : World) (x res : Result X Refusal) (e : World) : Type 0 where
    pub answers : res ≡ x
    pub leaves : e ≡ end
    pub came : Came added w cs e
    pub log_is : came.log ≡ last

  -- or it failed in one of them: only the first changes, at most, reached the log
  pub record Broken {X : Type 0} (added : Added) (w : World) (cs : List (Change Key Value)) (res : Result X Refusal) (e : World) : Type 0 where
    pub answers : res ≡ Err PowerFailed
    pub some : List (Change Key Value)
    pub first : Begins some cs
    pub came : Came added w some e
