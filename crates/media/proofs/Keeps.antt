-- What a run keeps of its device and log, where no record is added.
use Rattle.std.proofs.Common.{◌≡◌, ℕ, ◌<◌, ◌≤◌, min, true, ◌&&◌, leb, List, [], length, get_or, set, Some, sym, refl, ap, ◌∙◌, subst, ap₂, inl, inr, arith, length-set}
use Rattle.std.proofs.lemmas.Bool.{and_parts, cond_both, ltb-true, leb-true, cases_eq}
use Rattle.std.proofs.lemmas.List.{get_or-set_same, get_or-set_other}
use Rattle.order.specs.Lawful.{Says}
use Rattle.ranks.proofs.Tally.{all_more}
use Rattle.device.specs.Disk.{Disk, Page, holds, unreadable, intact, page_at, reaches, NewDevice}
use Rattle.device.specs.Writes.{Fate, lasts, keeps_old, leaves_new, tears, left_by, written}
use Rattle.wal.specs.Appends as log
use Rattle.neat.specs.Neat.{Tidy, Pointed}
use Rattle.neat.proofs.Tidy.{start-tidy}
use Rattle.neat.proofs.Written.{page_writable}
use Rattle.tree.specs.Log.{Logged}
use Rattle.tree.proofs.Upd.{none-some}
use Rattle.images.specs.Keys.{Key, Value, empty_key}
use Rattle.images.specs.Images.{encode_image, stored_page}
use Rattle.images.specs.Laws.{Ranked, Shaped, Child}
use Rattle.images.proofs.Stored.{pages_read_back, torn_pages_fail}
use Rattle.model.specs.Worlds.{World, stores, acted}
use Rattle.model.specs.Calls.{sized}
use Rattle.model.specs.Runs.{Added, Reads, records_from, Harm}
use Rattle.media.proofs.Media.{Media, Opened, Standing, Room, Intact, made}
use Rattle.media.proofs.Growth.{GrownLog}
use Rattle.media.proofs.Rows.{reads_nothing, made-count, made-within}
use Rattle.media.proofs.Noted.{named-length}

pub same-sized : (w e : World) → e.journal.capacity ≡ w.journal.capacity → length e.disk.pages ≡ length w.disk.pages → sized e ≡ sized w
unfolding sized
same-sized w e c n = ap₂ (λ (a b : ℕ). (leb 4 a && leb a 65536) && (leb 8 b && leb b 65536)) n c

pub sized-capacity : (w : World) → sized w ≡ true → w.journal.capacity ≤ 65536
unfolding sized
sized-capacity w h = leb-true w.journal.capacity 65536 (and_parts (leb 8 w.journal.capacity) _ (and_parts _ _ h).1).1

-- what a write leaves of the pages
pub written-pages : (d : Disk) (p : ℕ) (bs : List ℕ) (f : Fate) (P : ℕ → Page → Type 0) → ((q : ℕ) → P q (page_at d q)) → P p (left_by f (page_at d p) (holds bs))
    → (q : ℕ) → P q (page_at (written f d p bs) q)
written-pages d p bs f P old new q = cond_both (reaches d p) _ d (λ (e : Disk). P q (page_at e q)) within (λ _. old q)
  where
    within : reaches d p ≡ true → P q (get_or (set d.pages p (left_by f (page_at d p) (holds bs))) q unreadable)
    within t = elim (cases_eq q p) [
      | inl i ↦ subst (λ z. P z (get_or (set d.pages p (left_by f (page_at d p) (holds bs))) z unreadable)) (sym i)
          (subst (P p) (sym (get_or-set_same d.pages p (left_by f (page_at d p) (holds bs)) unreadable (ltb-true p (length d.pages) (and_parts d.on _ t).1))) new)
      | inr i ↦ subst (P q) (sym (get_or-set_other d.pages p q (left_by f (page_at d p) (holds bs)) unreadable i)) (old q)
    ]

pub written_count : (d : Disk) (p : ℕ) (bs : List ℕ) (f : Fate) → length (written f d p bs).pages ≡ length d.pages
written_count d p bs f = cond_both (reaches d p) _ d (λ (e : Disk). length e.pages ≡ length d.pages)
    (λ _. length-set d.pages p (left_by f (page_at d p) (holds bs))) (λ _. refl)

pub written_on : (d : Disk) (p : ℕ) (bs : List ℕ) → d.on ≡ true → (written lasts d p bs).on ≡ true
written_on d p bs h = cond_both (reaches d p) _ d (λ (e : Disk). e.on ≡ true) (λ _. refl) (λ _. h)

module _ (says : Says) (r : Ranked says) where
  pub keep_media : (added : Added) (w e : World) → Media says r added w → Reads e.journal.records added → e.journal.capacity ≡ w.journal.capacity
      → length e.disk.pages ≡ length w.disk.pages → ((p : ℕ) → Intact says r (made says r added) p (stored_page says p (page_at e.disk p)))
      → Media says r added e
  keep_media added w e m reads cap count intact = record {
    reads = reads;
    written = m.written;
    link = m.link;
    well = m.well;
    tidy = m.tidy;
    room = m.room;
    intact = intact;
    fits = omega (arith, m.fits);
    is_sized = λ n. same-sized w e cap count ∙ m.is_sized n;
    enough = omega (arith, m.enough);
    grown = subst (λ n. GrownLog says (min 256 n) added) (sym count) m.grown;
  }

  pub new-media : (w : World) → NewDevice w.disk → w.journal.records ≡ [] → Media says r [] w
  unfolding records_from
  new-media w new none = record {
    reads = reads_nothing w.journal.records none;
    written = tt;
    link = tt;
    well = inl refl;
    tidy = start-tidy r.rank r.top empty_key;
    room = λ p. record { pairs = omega arith; kids = omega arith };
    intact = λ p. inr (λ x e l. none-some x (sym (torn_pages_fail says p (page_at w.disk p) (new p)) ∙ e));
    fits = omega arith;
    is_sized = λ n. absurd (n refl);
    enough = omega arith;
    grown = tt;
  }

  pub harm_media : (added : Added) (w e : World) → Media says r added w → Harm says added w e → Media says r added e
  harm_media added w e m h = keep_media added w e m h.records h.capacity h.count (λ p. elim (h.pages p) [
    | inl i ↦ subst (λ x. Intact says r (made says r added) p (stored_page says p x)) (sym i) (m.intact p)
    | inr f ↦ inr f
  ])

  pub harm_opened : (added : Added) (w e : World) → Opened says r added w → Harm says added w e → Opened says r added e
  harm_opened added w e o h = record {
    some = o.some;
    disk_on = h.disk_power ∙ o.disk_on;
    journal_on = h.journal_power ∙ o.journal_on;
    born_is = ap (λ (ix : List ℕ). length ix) h.index ∙ o.born_is;
    newest_is = λ p. ap (λ (ix : List ℕ). get_or ix p 0) h.index ∙ o.newest_is p;
  }

  -- a born page's image can be written
  pub page_shaped : (s : Logged Key Value) → Standing says r s → Tidy r.rank r.top empty_key s → ((p : ℕ) → Room (s.page p)) → s.born ≤ 256
      → (p : ℕ) → p < s.born → Shaped r.rank r.top p (s.page p)
  page_shaped s well tidy room few p b =
      let x = page_writable r.rank r.top empty_key r.ranking s well.sound tidy p b in
      let low = well.sound.shape.tallest p b in
      let high = tidy.level well.sound.shape.any in
      let child : (c : ℕ) → Pointed s.born p c → Child p c = λ c h. record { inner = h.inner; other = h.other; word = omega (arith, h.is_born) } in
      record {
        level = omega arith;
        leaf_kids = x.neat.leaf_kids;
        branch_pairs = x.neat.branch_pairs;
        named = all_more (λ (e : Key × Value) h. named-length says r e.0 h) (s.page p).pairs x.neat.named;
        form = x.form;
        foster_above = x.foster_above;
        fosters = λ f e. child f.1 (x.fosters f e);
        kids = all_more (λ (e : Key × ℕ) h. child e.1 h) (s.page p).frame.kids x.kids;
        pairs_room = (room p).pairs;
        kids_room = (room p).kids;
      }

  -- a log that has made a page is not empty
  pub born-stands : (added : Added) (w : World) → Media says r added w → (p : ℕ) → p < (made says r added).born → (added ≡ [] → ⊥) × Standing says r (made says r added)
  unfolding records_from
  born-stands added w m p b =
      let some : added ≡ [] → ⊥ = λ e. let t : (made says r added).born ≡ 0 = ap (λ (l : Added). (made says r l).born) e in omega arith in
      (some, elim m.well [ inl e ↦ absurd (some e) | inr o ↦ o ])

  -- a born page's image, written, is read back
  pub read_back : (added : Added) (w : World) → Media says r added w → (p : ℕ) → p < (made says r added).born
      → stored_page says p (holds (encode_image p ((made says r added).newest p) ((made says r added).page p)))
      ≡ Some (record { lsn = (made says r added).newest p; image = (made says r added).page p })
  read_back added w m p b =
      let t = born-stands added w m p b in
      let cap = sized-capacity w (m.is_sized t.0) in
      let few : (made says r added).born ≤ 256 = omega (arith, m.enough) in
      pages_read_back says r p ((made says r added).newest p) ((made says r added).page p) (omega arith)
      (omega (arith, made-within says r added p, made-count says r added, m.fits)) (page_shaped (made says r added) t.1 m.tidy m.room few p b)

  -- whatever becomes of the write of it
  pub store_media : (added : Added) (w : World) → Media says r added w → (p : ℕ) (bs : List ℕ) → p < (made says r added).born
      → bs ≡ encode_image p ((made says r added).newest p) ((made says r added).page p) → (a : log.Fate) (f : Fate) → Media says r added (acted a f (stores p bs) w)
  store_media added w m p bs b is a f =
      keep_media added w (acted a f (stores p bs) w) m m.reads refl (written_count w.disk p bs f)
      (written-pages w.disk p bs f (λ q x. Intact says r (made says r added) q (stored_page says q x)) m.intact (left f))
    where
      new : Intact says r (made says r added) p (stored_page says p (holds bs))
      new = inl (ap (λ (x : List ℕ). stored_page says p (holds x)) is ∙ read_back added w m p b)

      left : (g : Fate) → Intact says r (made says r added) p (stored_page says p (left_by g (page_at w.disk p) (holds bs)))
      left lasts = new
      left keeps_old = m.intact p
      left leaves_new = new
      left (tears q torn) = inr (λ x e l. none-some x (sym (torn_pages_fail says p q torn) ∙ e))
