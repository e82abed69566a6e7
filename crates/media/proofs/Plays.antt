-- Playing actions that keep what a run keeps, to the end or until power fails in one.
use Rattle.std.proofs.Common.{◌≡◌, ℕ, suc, ◌≤◌, Bool, true, false, cond, ◌⊎◌, List, [], ◌∷◌, ◌++◌, map, length, drop, Err, Result, sym, refl, ap, ◌∙◌, subst, ap₂, inl, inr}
use Rattle.std.proofs.lemmas.Bool.{true≢false}
use Rattle.std.proofs.lemmas.List.{append-nil, append_assoc}
use Rattle.order.specs.Lawful.{Says}
use Rattle.device.specs.Writes as page
use Rattle.wal.specs.Journal.{Entry, entry}
use Rattle.wal.specs.Appends as log
use Rattle.tree.specs.Log.{Change}
use Rattle.tree.specs.Plan.{linked, changed, changes, Begins}
use Rattle.tree.specs.Plan.Begins.{nothing, more}
use Rattle.tree.proofs.Runs.{is_put, is_remove, any}
use Rattle.images.specs.Keys.{Key, Value, empty_key, keyed}
use Rattle.images.specs.Records.{encode_rec}
use Rattle.images.specs.Laws.{Ranked}
use Rattle.model.specs.declared.refusal.Refusal.{Refusal}
use Rattle.model.specs.declared.refusal.Refusal.TheVariants.{PowerFailed}
use Rattle.model.specs.Worlds.{World, Action, wakes, indexes, adds, stores, usable, acted, did, done}
use Rattle.model.specs.Calls.{sized}
use Rattle.model.specs.Plans.{Plays, Cut}
use Rattle.model.specs.Changes.{changed_pages}
use Rattle.model.specs.Runs.{Added, bytes_in, new_records}
use Rattle.model.specs.Promises.{is_kind, reaches}
use Rattle.media.proofs.Media.{Media, made, AptChange, Apt, Came, Finished, Broken}
use Rattle.media.proofs.Media.Apt.{rests, awakes, reindexes, mends, makes}
use Rattle.media.proofs.Marks.{kind-put, kind-remove}
use Rattle.media.proofs.Rows.{drop-front}
use Rattle.media.proofs.Keeps.{keep_media, store_media}
use Rattle.media.proofs.Adds.{made_more, add-lasts, add-ends}

module _ (says : Says) (r : Ranked says) where
  pub apt-append : {a b c : Added} {w v u : World} {xs ys : List Action} {cs ds : List (Change Key Value)}
      → Apt says r a w xs cs b v → Apt says r b v ys ds c u → Apt says r a w (xs ++ ys) (cs ++ ds) c u
  apt-append rests q = q
  apt-append (awakes t) q = awakes (apt-append t q)
  apt-append (reindexes t) q = reindexes (apt-append t q)
  apt-append (mends b is on t) q = mends b is on (apt-append t q)
  apt-append (makes ok is on free siz enough t) q = makes ok is on free siz enough (apt-append t q)

  pub apt-done : {added last : Added} {w end : World} {xs : List Action} {cs : List (Change Key Value)} → Apt says r added w xs cs last end → end ≡ done xs w
  apt-done rests = refl
  apt-done (awakes t) = apt-done t
  apt-done (reindexes t) = apt-done t
  apt-done (mends b is on t) = apt-done t
  apt-done (makes ok is on free siz enough t) = apt-done t

  wake_media : (added : Added) (w : World) → Media says r added w → Media says r added (did wakes w)
  wake_media added w m = keep_media says r added w (did wakes w) m m.reads refl refl m.intact

  index-media : (added : Added) (w : World) (ix : List ℕ) → Media says r added w → Media says r added (did (indexes ix) w)
  index-media added w ix m = keep_media says r added w (did (indexes ix) w) m m.reads refl refl m.intact

  pub apt-media : {added last : Added} {w end : World} {xs : List Action} {cs : List (Change Key Value)}
      → Media says r added w → Apt says r added w xs cs last end → Media says r last end
  apt-media m rests = m
  apt-media m (awakes {added = added} {w = w} t) = apt-media (wake_media added w m) t
  apt-media m (reindexes {added = added} {w = w} {ix = ix} t) = apt-media (index-media added w ix m) t
  apt-media m (mends {added = added} {w = w} {p = p} {bs = bs} b is on t) = apt-media (store_media says r added w m p bs b is log.lasts page.lasts) t
  apt-media m (makes {added = added} {w = w} {bs = bs} {c = c} ok is on free siz enough t) =
      apt-media (add-lasts says r added w m c ok bs is on free siz enough page.lasts (changed_pages c)).media t

  -- what some changes have left of a row, and the log that it is now
  record Longer (added : Added) (rows : List Entry) (cs : List (Change Key Value)) (e : World) (now : Added) : Type 0 where
    news : List Entry
    row_is : e.journal.records ≡ rows ++ news
    media : Media says r now e
    makes_all : made says r now ≡ changes (keyed says) empty_key (made says r added) cs
    log_is : now ≡ added ++ map bytes_in news
    puts : reaches 2 news ≡ any is_put cs
    removes : reaches 3 news ≡ any is_remove cs

  none-longer : (added : Added) (rows : List Entry) (e : World) → Media says r added e → e.journal.records ≡ rows → Longer added rows [] e added
  none-longer added rows e m i = record {
    news = [];
    row_is = i ∙ sym (append-nil rows);
    media = m;
    makes_all = refl;
    log_is = sym (append-nil added);
    puts = refl;
    removes = refl;
  }

  more-longer : (added : Added) (rows : List Entry) (bs : List ℕ) (c : Change Key Value) (cs : List (Change Key Value)) (e : World) (now : Added)
      → bs ≡ encode_rec (suc (length added)) (linked (made says r added) c) → made says r (added ++ (bs ∷ [])) ≡ changed (keyed says) empty_key (made says r added) c
      → Longer (added ++ (bs ∷ [])) (rows ++ (entry bs ∷ [])) cs e now → Longer added rows (c ∷ cs) e now
  more-longer added rows bs c cs e now is step g = record {
    news = entry bs ∷ g.news;
    row_is = g.row_is ∙ append_assoc rows (entry bs ∷ []) g.news;
    media = g.media;
    makes_all = g.makes_all ∙ ap (λ s. changes (keyed says) empty_key s cs) step;
    log_is = g.log_is ∙ append_assoc added (bs ∷ []) (map bytes_in g.news);
    puts = ap₂ (λ (x y : Bool). cond x true y) (ap (λ b. is_kind 2 (entry b)) is ∙ kind-put (suc (length added)) (made says r added) c) g.puts;
    removes = ap₂ (λ (x y : Bool). cond x true y) (ap (λ b. is_kind 3 (entry b)) is ∙ kind-remove (suc (length added)) (made says r added) c) g.removes;
  }

  came : (added : Added) (w : World) (cs : List (Change Key Value)) (e : World) (now : Added) → Longer added w.journal.records cs e now → Came says r added w cs e
  came added w cs e now g =
      let i : new_records w e ≡ g.news = ap (λ l. drop (length w.journal.records) l) g.row_is ∙ drop-front w.journal.records g.news in
      record {
        log = now;
        media = g.media;
        makes_all = g.makes_all;
        log_is = g.log_is ∙ ap (λ l. added ++ map bytes_in l) (sym i);
        puts = ap (reaches 2) i ∙ g.puts;
        removes = ap (reaches 3) i ∙ g.removes;
      }

  -- how actions end
  record Ended {X : Type 0} (added : Added) (rows : List Entry) (cs : List (Change Key Value)) (last : Added) (end : World) (x res : Result X Refusal) (e : World) : Type 0 where
    answers : res ≡ x
    leaves : e ≡ end
    left : Longer added rows cs e last

  record Stopped {X : Type 0} (added : Added) (rows : List Entry) (cs : List (Change Key Value)) (res : Result X Refusal) (e : World) : Type 0 where
    answers : res ≡ Err PowerFailed
    some : List (Change Key Value)
    first : Begins some cs
    now : Added
    left : Longer added rows some e now

  abbrev Ends : {X : Type 0} → Added → List Entry → List (Change Key Value) → Added → World → Result X Refusal → Result X Refusal → World → Type 0
  Ends added rows cs last end x res e = Ended added rows cs last end x res e ⊎ Stopped added rows cs res e

  module _ {X : Type 0} (x res : Result X Refusal) (e : World) where
    records_of : (v : World) → e ≡ v → e.journal.records ≡ v.journal.records
    records_of v i = ap (λ (u : World). u.journal.records) i

    -- power fails in the write of a page
    cut_in_store : (added : Added) (w : World) (p : ℕ) (bs : List ℕ) (cs : List (Change Key Value)) → ((a : log.Fate) (f : page.Fate) → Media says r added (acted a f (stores p bs) w))
        → Cut (stores p bs) w res e → Stopped added w.journal.records cs res e
    cut_in_store added w p bs cs keeps k = record {
      answers = k.answers;
      some = [];
      first = nothing;
      now = added;
      left = none-longer added w.journal.records e (subst (Media says r added) (sym k.leaves) (keeps k.in_append k.in_write))
          (records_of (acted k.in_append k.in_write (stores p bs) w) k.leaves);
    }

    module _ (added : Added) (w : World) (m : Media says r added w) (c : Change Key Value) (ok : AptChange says r (made says r added) c) (bs : List ℕ)
        (is : bs ≡ encode_rec (suc (length added)) (linked (made says r added) c)) (on : w.journal.on ≡ true) (free : log.full w.journal ≡ false)
        (siz : sized w ≡ true) (enough : (made says r (added ++ (bs ∷ []))).born ≤ usable w) (cs : List (Change Key Value)) where
      one_more : (ds : List (Change Key Value)) (rows : List Entry) (now : Added) → rows ≡ w.journal.records ++ (entry bs ∷ [])
          → Longer (added ++ (bs ∷ [])) rows ds e now → Longer added w.journal.records (c ∷ ds) e now
      one_more ds rows now i g = more-longer added w.journal.records bs c ds e now is (made_more says r added w m c ok bs is on free siz)
          (subst (λ es. Longer (added ++ (bs ∷ [])) es ds e now) i g)

      -- power fails in the append of a record
      cut-add : (ps : List ℕ) → Cut (adds ps bs) w res e → Stopped added w.journal.records (c ∷ cs) res e
      cut-add ps k = elim (add-ends says r added w m c ok bs is on free siz enough k.in_append k.in_write ps) [
        | inl a ↦ record {
          answers = k.answers;
          some = c ∷ [];
          first = more nothing;
          now = added ++ (bs ∷ []);
          left = one_more [] (w.journal.records ++ (entry bs ∷ [])) (added ++ (bs ∷ [])) refl
              (none-longer (added ++ (bs ∷ [])) (w.journal.records ++ (entry bs ∷ [])) e (subst (Media says r (added ++ (bs ∷ []))) (sym k.leaves) a.media)
              (records_of (acted k.in_append k.in_write (adds ps bs) w) k.leaves ∙ a.rows));
        }
        | inr a ↦ record {
          answers = k.answers;
          some = [];
          first = nothing;
          now = added;
          left = none-longer added w.journal.records e (subst (Media says r added) (sym k.leaves) a.media)
              (records_of (acted k.in_append k.in_write (adds ps bs) w) k.leaves ∙ a.rows);
        }
      ]

      -- power outlasts it, and the other actions end somehow
      add-on : (ps : List ℕ) (last : Added) (end : World) → Ends (added ++ (bs ∷ [])) (did (adds ps bs) w).journal.records cs last end x res e
          → Ends added w.journal.records (c ∷ cs) last end x res e
      add-on ps last end (inl g) = inl (record {
        answers = g.answers;
        leaves = g.leaves;
        left = one_more cs (did (adds ps bs) w).journal.records last (add-lasts says r added w m c ok bs is on free siz enough page.lasts ps).rows g.left;
      })
      add-on ps last end (inr g) = inr (record {
        answers = g.answers;
        some = c ∷ g.some;
        first = more g.first;
        now = g.now;
        left = one_more g.some (did (adds ps bs) w).journal.records g.now (add-lasts says r added w m c ok bs is on free siz enough page.lasts ps).rows g.left;
      })

    plays : {added last : Added} {w end : World} {xs : List Action} {cs : List (Change Key Value)} → Apt says r added w xs cs last end → Media says r added w
        → Plays xs x w res e → Ends added w.journal.records cs last end x res e
    plays (rests {added = added} {w = w}) m p = inl (record {
      answers = p.0;
      leaves = p.1;
      left = none-longer added w.journal.records e (subst (Media says r added) (sym p.1) m) (records_of w p.1);
    })
    plays (awakes t) m (inl k) = absurd (true≢false k.off)
    plays (awakes {added = added} {w = w} t) m (inr q) = plays t (wake_media added w m) q.1
    plays (reindexes t) m (inl k) = absurd (true≢false k.off)
    plays (reindexes {added = added} {w = w} {ix = ix} t) m (inr q) = plays t (index-media added w ix m) q.1
    plays (mends {added = added} {w = w} {p = p} {bs = bs} {cs = cs} b is on t) m (inl k) = inr (cut_in_store added w p bs cs (store_media says r added w m p bs b is) k)
    plays (mends {added = added} {w = w} {p = p} {bs = bs} b is on t) m (inr q) = plays t (store_media says r added w m p bs b is log.lasts page.lasts) q.1
    plays (makes {added = added} {w = w} {bs = bs} {c = c} {cs = cs} ok is on free siz enough t) m (inl k) =
        inr (cut-add added w m c ok bs is on free siz enough cs (changed_pages c) k)
    plays (makes {added = added} {last = last} {w = w} {e = end} {bs = bs} {c = c} {cs = cs} ok is on free siz enough t) m (inr q) =
        add-on added w m c ok bs is on free siz enough cs (changed_pages c) last end
        (plays t (add-lasts says r added w m c ok bs is on free siz enough page.lasts (changed_pages c)).media q.1)

  pub plays_keep : {X : Type 0} (added last : Added) (w end : World) (xs : List Action) (cs : List (Change Key Value)) → Media says r added w
      → Apt says r added w xs cs last end → (x res : Result X Refusal) (e : World) → Plays xs x w res e
      → Finished says r added w cs last end x res e ⊎ Broken says r added w cs res e
  unfolding came
  plays_keep added last w end xs cs m apt x res e p = elim (plays x res e apt m p) [
    | inl g ↦ inl (record { answers = g.answers; leaves = g.leaves; came = came added w cs e last g.left; log_is = refl })
    | inr g ↦ inr (record { answers = g.answers; some = g.some; first = g.first; came = came added w g.some e g.now g.left })
  ]
