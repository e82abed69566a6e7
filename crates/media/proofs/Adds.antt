-- What a run keeps of its device and log, where a change's record is added.
use Rattle.std.proofs.Common.{◌≡◌, ℕ, suc, ◌+◌, ◌<◌, ◌≤◌, min, true, false, ◌⊎◌, List, [], ◌∷◌, ◌++◌, length, get_or, Some, None, Option, sym, refl, ap, ◌∙◌, subst, subst₂, inl, inr, arith, length-append}
use Prim.Native.Nat.{Ordering}
use Rattle.std.proofs.lemmas.Bool.{cond-true, cond-false, leb-false}
use Rattle.order.specs.Lawful.{Says}
use Rattle.device.specs.Disk.{unreadable, page_at}
use Rattle.device.specs.Writes as page
use Rattle.wal.specs.Journal.{Journal, Entry, entry}
use Rattle.wal.specs.Records.{stamped}
use Rattle.wal.specs.Appends.{Fate, lasts, added, not_added, full, longer, row_after, power_after, appended}
use Rattle.neat.specs.Neat.{Tidy, Recorded}
use Rattle.neat.proofs.Recorded.{change-recorded}
use Rattle.tree.specs.Tree.{Image}
use Rattle.tree.specs.Log.{Change, Rec, Logged, append, run, start, births, Linked, May}
use Rattle.tree.specs.Log.Change.{Format}
use Rattle.tree.specs.Suits.{suits}
use Rattle.tree.specs.Plan.{linked, changed}
use Rattle.tree.specs.Worlds.{Stored, Fails}
use Rattle.tree.proofs.Runs.{run-append, link-append, moved}
use Rattle.images.specs.Keys.{Key, Value, empty_key, keyed, pair_cost, kid_cost}
use Rattle.images.specs.Images.{stored_page}
use Rattle.images.specs.Records.{encode_rec, names_well, chain_rec}
use Rattle.images.specs.Laws.{Ranked, Recordable}
use Rattle.images.proofs.Recorded.{records_keep_their_stamp}
use Rattle.model.specs.Worlds.{World, adds, acted, usable}
use Rattle.model.specs.Calls.{sized}
use Rattle.model.specs.Runs.{Added, Reads, records_from}
use Rattle.media.proofs.Media.{Media, Standing, Room, Intact, made, AptChange}
use Rattle.media.proofs.Growth.{Taken, recorded-taken, Grown, grown-more, GrownLog}
use Rattle.media.proofs.Rows.{records-more, written-more, reads_more, reads-length, made-count, made-within}
use Rattle.media.proofs.Told.{Step, step-on, step-first, first-formats, new}
use Rattle.media.proofs.Noted.{chain-is, is-recordable, names-well, linked-change}
use Rattle.media.proofs.Keeps.{same-sized, sized-capacity, keep_media}

-- a page that is not written, by its newest position before and after a change
page-left : (n m : ℕ) (x y : Image Key Value) (o : Option (Stored Key Value)) → ((m ≡ n) × (y ≡ x)) ⊎ (n < m)
    → (o ≡ Some (record { lsn = n; image = x })) ⊎ Fails n o → (o ≡ Some (record { lsn = m; image = y })) ⊎ Fails m o
page-left n m x y o (inl a) (inl e) = inl (e ∙ (λ i. Some (record { lsn = sym a.0 i; image = sym a.1 i })))
page-left n m x y o (inl a) (inr f) = inr (λ z e l. f z e (omega (arith, a.0)))
page-left n m x y o (inr a) (inl e) = inr (λ z i l. let t : n ≡ z.lsn = lsn-is z (sym e ∙ i) in omega arith)
  where
    lsn-is : (z : Stored Key Value) → Some (record { lsn = n; image = x }) ≡ Some z → n ≡ z.lsn
    lsn-is z i = ap (λ w. elim w [ None ↦ n | Some u ↦ u.lsn ]) i
page-left n m x y o (inr a) (inr f) = inr (λ z e l. f z e (omega arith))

-- an append to a log that is on and not full
pub appended-is : (f : Fate) (j : Journal) (bs : List ℕ) → j.on ≡ true → full j ≡ false
    → appended f j bs ≡ record { capacity = j.capacity; records = row_after f j.records bs; on = power_after f }
appended-is f j bs on free = cond-true j.on _ j on ∙ cond-false (full j) j _ free

module _ (says : Says) (r : Ranked says) where
  abbrev cmp : Key → Key → Ordering
  cmp = keyed says

  -- what a change leaves of a log that is kept, and that it has a record
  module _ (old : Added) (w : World) (m : Media says r old w) (c : Change Key Value) (apt : AptChange says r (made says r old) c) where
    made-new : old ≡ [] → made says r old ≡ new says r
    unfolding records_from
    made-new e = ap (λ (l : Added). made says r l) e

    formats : old ≡ [] → c ≡ Format
    formats e = first-formats says r c (subst (λ s. AptChange says r s c) (made-new e) apt)

    step : Step says r (made says r old) c
    step = elim m.well [
      | inl e ↦ subst₂ (λ s d. Step says r s d) (sym (made-new e)) (sym (formats e)) (step-first says r)
      | inr o ↦ step-on says r (made says r old) c apt o m.tidy m.room
    ]

    recorded : Recorded r.rank r.top empty_key (made says r old).born c
    recorded = elim m.well [
      | inl e ↦ subst (λ d. Recorded r.rank r.top empty_key (made says r old).born d) (sym (formats e)) tt
      | inr o ↦ change-recorded r.rank r.top empty_key r.ranking (made says r old) o.sound c apt.may apt.names
    ]

    pub change-taken : Taken (made says r old).born c
    change-taken = recorded-taken r.rank r.top (made says r old).born c none recorded
      where
        none : c ≡ Format → (made says r old).born ≡ 0
        none e = ap (λ t. t.born) (subst (λ x. May r.rank r.top empty_key x (made says r old)) e apt.may)

    module _ (bs : List ℕ) (is : bs ≡ encode_rec (suc (length old)) (linked (made says r old) c)) (on : w.journal.on ≡ true) (free : full w.journal ≡ false)
        (siz : sized w ≡ true) where
      abbrev n : ℕ
      n = suc (length old)

      abbrev s : Logged Key Value
      s = made says r old

      below : length old < w.journal.capacity
      below = omega (arith, leb-false w.journal.capacity (length w.journal.records) free, reads-length w.journal.records old m.reads)

      few : s.born ≤ 256
      few = omega (arith, m.enough)

      recordable : Recordable n (linked s c)
      recordable = is-recordable says r s few (made-within says r old) c recorded n (omega (arith, below, sized-capacity w siz)) (omega (arith, made-count says r old))

      named : names_well n (linked s c) ≡ true
      named = names-well says r s few (made-within says r old) c recorded n (omega (arith, made-count says r old))

      rec_is : chain_rec n bs ≡ linked s c
      rec_is = ap (chain_rec n) is ∙ chain-is n (linked s c) recordable named

      records_are : records_from 1 (old ++ (bs ∷ [])) ≡ records_from 1 old ++ (chain_rec n bs ∷ [])
      records_are = records-more 1 n old bs (omega arith)

      pub made_more : made says r (old ++ (bs ∷ [])) ≡ changed cmp empty_key s c
      made_more = ap (run cmp empty_key (start cmp empty_key)) records_are
          ∙ run-append cmp empty_key (start cmp empty_key) (records_from 1 old) (chain_rec n bs ∷ [])
          ∙ ap (λ q. append cmp empty_key q s) rec_is

      pub longer-is : longer w.journal.records bs ≡ w.journal.records ++ (entry bs ∷ [])
      longer-is =
          let i : length w.journal.records + 1 ≡ n = omega (arith, reads-length w.journal.records old m.reads) in
          let k : stamped (length w.journal.records + 1) bs ≡ bs =
          ap (λ (q : ℕ). stamped q bs) i ∙ ap (λ (b : List ℕ). stamped n b) is ∙ records_keep_their_stamp n (linked s c) recordable ∙ sym is in
          ap {B = List Entry} (λ (b : List ℕ). w.journal.records ++ (entry b ∷ [])) k

      left : (p : ℕ) → Intact says r (changed cmp empty_key s c) p (stored_page says p (page_at w.disk p))
      left p = page-left (s.newest p) ((changed cmp empty_key s c).newest p) (s.page p) ((changed cmp empty_key s c).page p) (stored_page says p (page_at w.disk p))
          (moved cmp empty_key s (c ∷ []) (made-within says r old) p) (m.intact p)

      module _ (enough : (made says r (old ++ (bs ∷ []))).born ≤ usable w) where
        grown_too : GrownLog says (usable w) (old ++ (bs ∷ []))
        grown_too =
            let i : (chain_rec n bs).change ≡ c = ap (λ (q : Rec Key Value). q.change) rec_is ∙ linked-change s.newest c in
            let fits : births c s.born ≤ usable w = subst (λ d. births d s.born ≤ usable w) (linked-change s.newest c) (subst (λ t. t.born ≤ usable w) made_more enough) in
            subst (Grown says (usable w) (start cmp empty_key)) (sym records_are)
            (grown-more says (usable w) (start cmp empty_key) (records_from 1 old) (chain_rec n bs) m.grown (rec_is ∙ ap (linked s) (sym i))
            (subst (Taken s.born) (sym i) change-taken) (subst (λ d. births d s.born ≤ usable w) (sym i) fits))

        -- a world that has the record
        pub more-media : (e : World) → e.disk.pages ≡ w.disk.pages → e.journal.capacity ≡ w.journal.capacity
            → e.journal.records ≡ w.journal.records ++ (entry bs ∷ []) → Media says r (old ++ (bs ∷ [])) e
        more-media e pages cap rows =
            let count : length e.disk.pages ≡ length w.disk.pages = ap (λ l. length l) pages in
            record {
              reads = subst (λ es. Reads es (old ++ (bs ∷ []))) (sym rows) (reads_more w.journal.records old bs m.reads);
              written = written-more 1 n old bs (omega arith) m.written (
                ap (encode_rec n) rec_is ∙ sym is,
                subst (Recordable n) (sym rec_is) recordable,
                ap (names_well n) rec_is ∙ named,
              );
              link = subst (Linked cmp empty_key (suits cmp pair_cost kid_cost) (start cmp empty_key)) (sym records_are)
                  (link-append cmp empty_key (suits cmp pair_cost kid_cost) (start cmp empty_key) (records_from 1 old) (chain_rec n bs ∷ []) m.link
                  (subst (λ q. Linked cmp empty_key (suits cmp pair_cost kid_cost) s (q ∷ [])) (sym rec_is) step.link));
              well = inr (subst (Standing says r) (sym made_more) step.standing);
              tidy = subst (Tidy r.rank r.top empty_key) (sym made_more) step.tidy;
              room = subst (λ t. (p : ℕ) → Room (t.page p)) (sym made_more) step.room;
              intact = λ p. subst₂ (λ t l. Intact says r t p (stored_page says p (get_or l p unreadable))) (sym made_more) (sym pages) (left p);
              fits = omega (arith, below, length-append old (bs ∷ []));
              is_sized = λ _. same-sized w e cap count ∙ siz;
              enough = omega arith;
              grown = subst (λ k. GrownLog says (min 256 k) (old ++ (bs ∷ []))) (sym count) grown_too;
            }

        rows_are : (a : Fate) (f : page.Fate) (ps : List ℕ) → (acted a f (adds ps bs) w).journal.records ≡ row_after a w.journal.records bs
        rows_are a f ps = ap (λ (j : Journal). j.records) (appended-is a w.journal bs on free)

        capacity-is : (a : Fate) (f : page.Fate) (ps : List ℕ) → (acted a f (adds ps bs) w).journal.capacity ≡ w.journal.capacity
        capacity-is a f ps = ap (λ (j : Journal). j.capacity) (appended-is a w.journal bs on free)

        -- whatever becomes of the append
        pub record AddedTo (e : World) : Type 0 where
          pub media : Media says r (old ++ (bs ∷ [])) e
          pub rows : e.journal.records ≡ w.journal.records ++ (entry bs ∷ [])

        pub record LeftAs (e : World) : Type 0 where
          pub media : Media says r old e
          pub rows : e.journal.records ≡ w.journal.records

        has_more : (a : Fate) (f : page.Fate) (ps : List ℕ) → row_after a w.journal.records bs ≡ longer w.journal.records bs → AddedTo (acted a f (adds ps bs) w)
        has_more a f ps i =
            let rows : (acted a f (adds ps bs) w).journal.records ≡ w.journal.records ++ (entry bs ∷ []) = rows_are a f ps ∙ i ∙ longer-is in
            record { media = more-media (acted a f (adds ps bs) w) refl (capacity-is a f ps) rows; rows = rows }

        pub add-lasts : (f : page.Fate) (ps : List ℕ) → AddedTo (acted lasts f (adds ps bs) w)
        add-lasts f ps = has_more lasts f ps refl

        pub add-ends : (a : Fate) (f : page.Fate) (ps : List ℕ) → AddedTo (acted a f (adds ps bs) w) ⊎ LeftAs (acted a f (adds ps bs) w)
        add-ends lasts f ps = inl (has_more lasts f ps refl)
        add-ends added f ps = inl (has_more added f ps refl)
        add-ends not_added f ps =
            let rows = rows_are not_added f ps in
            inr (record {
              media = keep_media says r old w (acted not_added f (adds ps bs) w) m (subst (λ es. Reads es old) (sym rows) m.reads) (capacity-is not_added f ps) refl m.intact;
              rows = rows;
            })
