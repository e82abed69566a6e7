-- A change as the store makes it keeps what a run keeps, and leaves the store open.
use Rattle.std.proofs.Common.{◌≡◌, ℕ, suc, ◌<◌, ◌≤◌, min, true, false, cond, List, [], ◌∷◌, ◌++◌, length, sym, refl, ap, ◌∙◌, subst, ap₂, arith}
use mathlib.Core.Path.{fun_ext}
use Rattle.std.proofs.lemmas.Bool.{cond-false, lt-leb}
use Rattle.std.proofs.lemmas.List.{length_push}
use Rattle.order.specs.Lawful.{Says}
use Rattle.ranks.specs.Lists.{All}
use Rattle.device.specs.Writes as page
use Rattle.wal.specs.Journal.{Journal}
use Rattle.wal.specs.Appends as log
use Rattle.tree.specs.Tree.{Image}
use Rattle.tree.specs.Log.{Change, births, make, Logged}
use Rattle.tree.specs.Plan.{linked, linked_by, changed}
use Rattle.images.specs.Keys.{Key, Value, empty_key, keyed}
use Rattle.images.specs.Images.{encode_image}
use Rattle.images.specs.Records.{encode_rec}
use Rattle.images.specs.Laws.{Ranked}
use Rattle.model.specs.Worlds.{World, Action, adds, stores, world, newest, raised, next_position, usable, did, done}
use Rattle.model.specs.Changes.{changed_pages, writes, changing}
use Rattle.model.specs.Calls.{sized}
use Rattle.model.specs.Runs.{Added}
use Rattle.media.proofs.Media.{made, Media, Opened, AptChange, Apt}
use Rattle.media.proofs.Media.Apt.{rests, mends, makes}
use Rattle.media.proofs.Growth.{Taken}
use Rattle.media.proofs.Rows.{reads-length, made-count}
use Rattle.media.proofs.Noted.{linked-change}
use Rattle.media.proofs.Keeps.{same-sized, written_count, written_on}
use Rattle.media.proofs.Adds.{appended-is, change-taken, made_more}
use Rattle.plans.proofs.Index.{index-after}
use Rattle.plans.proofs.Sources.{OldIs, WrittenWell, changed-pages}

-- What an append and a write that power outlasts do.

abbrev longer : Journal → List ℕ → Journal
longer j bs = record { capacity = j.capacity; records = log.longer j.records bs; on = true }

pub did-adds : (w : World) (ps bs : List ℕ) → w.journal.on ≡ true → log.full w.journal ≡ false
    → did (adds ps bs) w ≡ world (raised (next_position w) ps w.index) w.disk (longer w.journal bs)
did-adds w ps bs on room =
    ap (λ (j : Journal). world (cond (log.full w.journal) w.index (cond j.on (raised (next_position w) ps w.index) w.index)) w.disk j)
    (appended-is log.lasts w.journal bs on room)
    ∙ ap (λ ix. world ix w.disk (longer w.journal bs)) (cond-false (log.full w.journal) w.index _ room)

-- a world that differs in pages alone
pub record SameButPages (w e : World) : Type 0 where
  pub index : e.index ≡ w.index
  pub journal : e.journal ≡ w.journal
  pub on : e.disk.on ≡ true
  pub count : length e.disk.pages ≡ length w.disk.pages

pub writes_keep : (says : Says) (n : ℕ) (c : Change Key Value) (old : ℕ → Image Key Value) (ps : List ℕ) (w : World) → w.disk.on ≡ true
    → SameButPages w (done (writes says n c old ps) w)
writes_keep says n c old [] w h = record { index = refl; journal = refl; on = h; count = refl }
writes_keep says n c old (p ∷ ps) w h =
    let bs : List ℕ = encode_image p n (make (keyed says) empty_key c p (old p)) in
    let t = writes_keep says n c old ps (did (stores p bs) w) (written_on w.disk p bs h) in
    record { index = t.index; journal = t.journal; on = t.on; count = t.count ∙ written_count w.disk p bs page.lasts }

module _ (says : Says) (r : Ranked says) where
  -- a change's pages are written once its record is in the log
  writes-apt : (last : Added) (s : Logged Key Value) (c : Change Key Value) (n : ℕ) (old : ℕ → Image Key Value) → made says r last ≡ changed (keyed says) empty_key s c
      → n ≡ suc s.count → (ps : List ℕ) → All (λ p. WrittenWell says s c (old p) p) ps → (w : World) → w.disk.on ≡ true
      → Apt says r last w (writes says n c old ps) [] last (done (writes says n c old ps) w)
  writes-apt last s c n old e at [] h w on = rests
  writes-apt last s c n old e at (p ∷ ps) h w on =
      let bs : List ℕ = encode_image p n (make (keyed says) empty_key c p (old p)) in
      let b : p < (made says r last).born = subst (λ t. p < t.born) (sym e) h.0.is_born in
      let m : n ≡ (made says r last).newest p = at ∙ sym h.0.newest_is ∙ sym (ap (λ t. t.newest p) e) in
      let x : make (keyed says) empty_key c p (old p) ≡ (made says r last).page p = h.0.page_is ∙ sym (ap (λ t. t.page p) e) in
      mends b (ap₂ (encode_image p) m x) on (writes-apt last s c n old e at ps h.1 (did (stores p bs) w) (written_on w.disk p bs on))

  -- the plan's actions, by the log
  changing-is : (w : World) (c : Change Key Value) (old : ℕ → Image Key Value) (s : Logged Key Value) (n : ℕ) → next_position w ≡ n
      → ((p : ℕ) → newest w.index p ≡ s.newest p)
      → adds (changed_pages c) (encode_rec n (linked s c)) ∷ writes says n c old (changed_pages c) ≡ (changing says w c old).actions
  unfolding changing
  changing-is w c old s n next new =
      ap₂ {C = List Action} (λ (m : ℕ) (f : ℕ → ℕ). adds (changed_pages c) (encode_rec m (linked_by f c)) ∷ writes says m c old (changed_pages c)) (sym next) (sym (fun_ext new))

  pub changing-apt : (added : Added) (w : World) → Media says r added w → w.disk.on ≡ true → w.journal.on ≡ true
      → length w.index ≡ (made says r added).born → ((p : ℕ) → newest w.index p ≡ (made says r added).newest p)
      → (c : Change Key Value) → AptChange says r (made says r added) c
      → (old : ℕ → Image Key Value) → OldIs (made says r added) c old
      → suc (length added) ≤ w.journal.capacity → sized w ≡ true → births c (made says r added).born ≤ usable w
      → (last : Added) × (end : World) × Apt says r added w (changing says w c old).actions (c ∷ []) last end × Opened says r last end
      × (made says r last ≡ changed (keyed says) empty_key (made says r added) c) × (end.journal.capacity ≡ w.journal.capacity)
      × (length last ≡ suc (length added)) × (usable end ≡ usable w) × (sized end ≡ true)
  changing-apt added w media disk_on journal_on long new c apt old was room size fit =
      let s : Logged Key Value = made says r added in
      let n : ℕ = suc (length added) in
      let bs : List ℕ = encode_rec n (linked s c) in
      let last : Added = added ++ (bs ∷ []) in
      let w₁ : World = did (adds (changed_pages c) bs) w in
      let end : World = done (writes says n c old (changed_pages c)) w₁ in
      let len : length w.journal.records ≡ length added = reads-length w.journal.records added media.reads in
      let next : next_position w ≡ n = omega (arith, len) in
      let free : log.full w.journal ≡ false = lt-leb w.journal.capacity (length w.journal.records) (omega (arith, len, room)) in
      let grew : made says r last ≡ changed (keyed says) empty_key s c = made_more says r added w media c apt bs refl journal_on free size in
      let fits : (changed (keyed says) empty_key s c).born ≤ usable w = subst (λ x. births x s.born ≤ usable w) (sym (linked-change s.newest c)) fit in
      let born : (made says r last).born ≤ usable w = subst (λ x. x.born ≤ usable w) (sym grew) fits in
      let count : n ≡ suc s.count = ap suc (sym (made-count says r added)) in
      let t : Taken s.born c = change-taken says r added w media c apt in
      let pages : All (λ p. WrittenWell says s c (old p) p) (changed_pages c) = changed-pages says s c old t was in
      let did-it : w₁ ≡ world (raised (next_position w) (changed_pages c) w.index) w.disk (longer w.journal bs) =
      did-adds w (changed_pages c) bs journal_on free in
      let keep : SameButPages w₁ end = writes_keep says n c old (changed_pages c) w₁ disk_on in
      let ix : end.index ≡ raised (suc s.count) (changed_pages c) w.index =
      keep.index ∙ ap (λ x. x.index) did-it ∙ ap (λ m. raised m (changed_pages c) w.index) (next ∙ count) in
      let after = index-after says s c w.index t long new in
      let cap : end.journal.capacity ≡ w.journal.capacity = ap (λ j. j.capacity) keep.journal ∙ ap (λ x. x.journal.capacity) did-it in
      let longer-by : length last ≡ suc (length added) = omega (arith, length_push added bs) in (
        last,
        end,
        subst (λ as'. Apt says r added w as' (c ∷ []) last end) (changing-is w c old s n next new)
            (makes apt refl journal_on free size born (writes-apt last s c n old grew count (changed_pages c) pages w₁ disk_on)),
        record {
          some = λ e. omega (arith, longer-by, ap length e);
          disk_on = keep.on;
          journal_on = ap (λ j. j.on) keep.journal ∙ ap (λ x. x.journal.on) did-it;
          born_is = ap length ix ∙ after.0 ∙ sym (ap (λ x. x.born) grew);
          newest_is = λ p. ap (λ l. newest l p) ix ∙ after.1 p ∙ sym (ap (λ x. x.newest p) grew);
        },
        grew,
        cap,
        longer-by,
        ap (min 256) keep.count,
        same-sized w end cap keep.count ∙ size,
      )
