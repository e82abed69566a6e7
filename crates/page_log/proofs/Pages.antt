-- What the calls of a log on pages come to.
use Rattle.std.proofs.Common.{◌≡◌, ℕ, zero, suc, ◌+◌, ◌-◌, ◌^◌, ◌<◌, ◌≤◌, Bool, true, false, cond, ◌⊎◌, List, [], ◌∷◌, ◌++◌, length, get_or, take, drop, set, replicate, sym, refl, ap, ◌∙◌, ap₂, inl, inr, ⊎_elim, Result, Ok, Err, is_ok, IsErrAnd, arith, length-append, length-set, length-take}
use Rattle.std.specs.Str.{bytes_eq}
use Rattle.std.specs.Result.{result_eq}
use Rattle.std.proofs.lemmas.Slice.Eq.{bytes_eq-Decides}
use Rattle.std.proofs.lemmas.List.{take-append-drop, take-append-le, take_at, take-take, drop-take, drop-replicate, take-replicate, get_or-take, get_or_past, get_or-set_same, set-get_or, take-set}
use Rattle.std.proofs.lemmas.Bool.{and_from, eq-eqb, cond-true, cond-false, and_left, false≢true}
use Rattle.seal.specs.Crc.{crc}
use Rattle.seal.specs.Laws.{Bytes}
use Rattle.seal.specs.Seal.{le4, sealed}
use Rattle.seal.proofs.Seals.{sealed_passes}
use Rattle.device.specs.Disk.{Disk, Page, holds, unreadable, intact, page_at}
use Rattle.device.specs.Writes as page
use Rattle.device.proofs.Outcomes as outcome
use Rattle.wal.specs.Journal.{Journal, Entry, entry, lost, shown, reading, measured}
use Rattle.wal.specs.Records.{stamped, passes}
use Rattle.wal.specs.Appends.{Fate, lasts, added, not_added, longer, row_after, power_after, appended, answer, Appended}
use Rattle.wal.specs.Slots.{slot, slots, room, LastPassing}
use Rattle.wal.specs.declared.errors.AppendError.{AppendError}
use Rattle.wal.specs.declared.errors.AppendError.TheVariants as append
use Rattle.wal.specs.declared.errors.RecordError.{RecordError}
use Rattle.wal.proofs.Stamps.{bytes-append, bytes-zeros, bytes-stamped, length-stamped, carries}
use Rattle.wal.proofs.Rows.{length-slots, slot_of, slots_set, entry-within, slot-stands, row_more, last_more, last-fits, going, row-length, full-append, grows, answers-added}
use Rattle.page_log.specs.Pages.{paged, page_room, page_slots, looked, holds_record, with_last, reach, page_journal, EndsAtLast}

-- the page of a record, as it is put together
pub page-is : (out r : List ℕ) → length r ≡ 128 → take (0 + length r) out ≡ take 0 (replicate 512 0) ++ r → drop (0 + length r) out ≡ drop (0 + length r) (replicate 512 0) → sealed (take 508 out) ≡ paged r
unfolding paged
page-is out r long front back =
    let f : take 128 out ≡ r = rw long at front in
    let b : drop 128 out ≡ drop 128 (replicate 512 0) = rw long at back in
    let head : take 128 (take 508 out) ≡ r = take-take 128 508 out (omega arith) ∙ f in
    let tail : drop 128 (take 508 out) ≡ replicate 380 0 = drop-take 128 380 out ∙ ap (take 380) (b ∙ drop-replicate 128 512 0) ∙ take-replicate 380 384 0 (omega arith) in
    ap sealed (sym (take-append-drop 128 (take 508 out)) ∙ ap₂ (λ (x y : List ℕ). x ++ y) head tail)

-- a page laid for a stamped record passes, with that record
page-passes : (n : ℕ) (rs : List ℕ) → n < 2 ^ 32 → Bytes rs → passes n (paged (stamped n rs)) ≡ true
unfolding passes paged stamped
page-passes n rs h w =
    let rest : List ℕ = take 120 (drop 4 rs) in
    let body : List ℕ = le4 n ++ rest in
    let inner : List ℕ = stamped n rs ++ replicate 380 0 in
    and_from _ _ (sealed_passes inner (bytes-append (stamped n rs) (replicate 380 0) (bytes-stamped n rs w) (bytes-zeros 380)))
    (eq-eqb _ n (carries n (((rest ++ le4 (crc body)) ++ replicate 380 0) ++ le4 (crc inner)) h))

page-front : (r : List ℕ) → length r ≡ 128 → take 128 (paged r) ≡ r
unfolding paged
page-front r e =
    take-append-le 128 (r ++ replicate 380 0) (le4 (crc (r ++ replicate 380 0))) (simp length-append (omega arith)) ∙ take_at r (replicate 380 0) 128 e

pub page-stands : (n : ℕ) (rs : List ℕ) → n < 2 ^ 32 → length rs ≡ 128 → Bytes rs → slot n (holds (paged (stamped n rs))) ≡ entry (stamped n rs)
page-stands n rs h e w = slot-stands n rs (paged (stamped n rs)) (page-passes n rs h w) (page-front (stamped n rs) (length-stamped n rs e))

pub length-pages : (d : Disk) → length (page_slots d) ≡ page_room d
length-pages d = length-slots 1 (take (page_room d) d.pages) ∙ length-take (page_room d) d.pages ∙ omega arith

pub slot-in : (d : Disk) (n : ℕ) → 0 < n → n ≤ page_room d → get_or (page_slots d) (n - 1) lost ≡ slot n (page_at d (n - 1))
slot-in d n from within = slot_of n (take (page_room d) d.pages) from ∙ ap (slot n) (get_or-take (page_room d) d.pages (n - 1) unreadable (omega arith))

-- what a look tells
is-lost : (e : Entry) → false ≡ is_ok (shown e) → e ≡ lost
is-lost (entry bs) none = absurd (false≢true none)
is-lost lost none = refl

is-held : (e : Entry) → true ≡ is_ok (shown e) → e ≡ lost → ⊥
is-held (entry bs) found gone = cc
is-held lost found gone = false≢true (sym found)

look_on : (d : Disk) (n : ℕ) → d.on ≡ true → 0 < n → n ≤ page_room d → looked d n ≡ shown (get_or (page_slots d) (n - 1) lost)
look_on d n on from within = cond-true _ _ _ on ∙ sym (ap shown (slot-in d n from within))

pub look_fails : (d : Disk) (n : ℕ) → d.on ≡ true → 0 < n → n ≤ page_room d → false ≡ is_ok (looked d n) → get_or (page_slots d) (n - 1) lost ≡ lost
look_fails d n on from within none = is-lost _ (none ∙ ap is_ok (look_on d n on from within))

pub look_finds : (d : Disk) (n : ℕ) → d.on ≡ true → 0 < n → n ≤ page_room d → true ≡ is_ok (looked d n) → get_or (page_slots d) (n - 1) lost ≡ lost → ⊥
look_finds d n on from within found = is-held _ (found ∙ ap is_ok (look_on d n on from within))

-- the row once power is back
pub last_past : (d : Disk) (u : ℕ) (r : List ℕ) → page_room d ≤ u → u ≡ with_last (page_slots d) u r
last_past d u r far = sym (ap (λ (e : Entry). cond (holds_record r e) (u + 1) u) (get_or_past (page_slots d) u lost (omega (arith, length-pages d))))

same_true : (xs ys : List ℕ) → xs ≡ ys → bytes_eq xs ys ≡ true
same_true xs ys = (bytes_eq-Decides xs ys).1

same_from : (xs ys : List ℕ) → bytes_eq xs ys ≡ true → xs ≡ ys
same_from xs ys = (bytes_eq-Decides xs ys).0

-- a look that compares equal to a record is one at a slot that holds it
told-held : (same : RecordError → RecordError → Bool) (r : List ℕ) (e : Entry) → result_eq bytes_eq same (shown e) (Ok r) ≡ holds_record r e
told-held same r (entry bs) = refl
told-held same r lost = refl

pub last-told : (same : RecordError → RecordError → Bool) (d : Disk) (u : ℕ) (r : List ℕ) (x : Bool) → d.on ≡ true → u < page_room d → x ≡ result_eq bytes_eq same (looked d (u + 1)) (Ok r) → cond x (u + 1) u ≡ with_last (page_slots d) u r
last-told same d u r x on free is =
    let one : u + 1 - 1 ≡ u = omega arith in
    ap (λ (b : Bool). cond b (u + 1) u)
    (is ∙ ap (λ (a : Result (List ℕ) RecordError). result_eq bytes_eq same a (Ok r)) (look_on d (u + 1) on (omega arith) (omega arith))
    ∙ told-held same r (get_or (page_slots d) (u + 1 - 1) lost) ∙ ap (λ (i : ℕ). holds_record r (get_or (page_slots d) i lost)) one)

-- a log that is on
pub journal-on : (d : Disk) (u : ℕ) (r : List ℕ) → true ≡ d.on → page_journal d u r ≡ going (page_room d) (page_slots d) u true
journal-on d u r on = rw (sym on)

pub journal_fits : (d : Disk) (u : ℕ) (r : List ℕ) → length (page_journal d u r).records ≤ page_room d
journal_fits d u r = omega (arith, length-take (reach d u r) (page_slots d), length-pages d)

-- while on, the row ends at the last slot that passes, so it fits
pub ends-on : (d : Disk) (u : ℕ) (r : List ℕ) → true ≡ d.on → EndsAtLast d u r → LastPassing (page_slots d) u
ends-on d u r on ends = rw (cond-true d.on u (with_last (page_slots d) u r) (sym on)) at ends

pub used-fits : (d : Disk) (u : ℕ) (r : List ℕ) → true ≡ d.on → EndsAtLast d u r → u ≤ page_room d
used-fits d u r on ends = omega (arith, last-fits (page_slots d) u (ends-on d u r on ends), length-pages d)

pub length-told : (d : Disk) (u : ℕ) (r : List ℕ) → true ≡ d.on → EndsAtLast d u r → Ok u ≡ measured (page_journal d u r)
length-told d u r on ends =
    ap Ok (omega (arith, row-length (page_room d) (page_slots d) u [] (length-pages d), used-fits d u r on ends)) ∙ sym (ap measured (journal-on d u r on))

-- what a read finds inside the row, and outside
pub read-inside : (d : Disk) (u n : ℕ) (r : List ℕ) → true ≡ d.on → (n ≡ 0 → ⊥) → n ≤ u → n ≤ page_room d → looked d n ≡ reading (page_journal d u r) n
read-inside d u n r on z h within =
    look_on d n (sym on) (omega arith) within ∙ sym (ap (λ (j : Journal). reading j n) (journal-on d u r on) ∙ ap shown (entry-within (page_slots d) n u z h))

pub append-full : (d : Disk) (u : ℕ) (r bs : List ℕ) → true ≡ d.on → page_room d ≤ u → Appended (page_journal d u r) bs (Err append.Full) (page_journal d u r)
append-full d u r bs on h = rw (journal-on d u r on) (full-append (page_room d) (page_slots d) u bs (length-pages d) h)

-- the slots after one page was set
set-taken : (n i : ℕ) (ps : List Page) (q : Page) → take n (set ps i q) ≡ set (take n ps) i q
set-taken zero i ps q = refl
set-taken (suc n) i [] q = refl
set-taken (suc n) zero (p ∷ ps) q = refl
set-taken (suc n) (suc i) (p ∷ ps) q = ap (λ (l : List Page). p ∷ l) (set-taken n i ps q)

set_room : (d e : Disk) (u : ℕ) (q : Page) → e.pages ≡ set d.pages u q → page_room e ≡ page_room d
set_room d e u q is = ap room (ap length is ∙ length-set d.pages u q)

set-slots : (d e : Disk) (u : ℕ) (q : Page) → e.pages ≡ set d.pages u q → page_slots e ≡ set (page_slots d) u (slot (u + 1) q)
set-slots d e u q is =
    let one : 1 + u ≡ u + 1 = omega arith in
    ap₂ (λ (n : ℕ) (ps : List Page). slots 1 (take n ps)) (set_room d e u q is) is
    ∙ ap (slots 1) (set-taken (page_room d) u d.pages q)
    ∙ slots_set 1 u (take (page_room d) d.pages) q
    ∙ ap (λ (n : ℕ). set (page_slots d) u (slot n q)) one

holds-is : (r : List ℕ) (x : Entry) → holds_record r x ≡ true → x ≡ entry r
holds-is r (entry bs) e = ap entry (same_from bs r e)
holds-is r lost e = absurd (false≢true e)

holds-own : (r : List ℕ) (x : Entry) → x ≡ entry r → holds_record r x ≡ true
holds-own r x e = ap (holds_record r) e ∙ same_true r r refl

torn-lost : (n : ℕ) (q : Page) → intact q ≡ false → slot n q ≡ lost
unfolding passes
torn-lost n (holds bs) torn = cond-false _ _ _ (and_left _ _ torn)
torn-lost n unreadable torn = refl

-- an append on d that wrote its page and left e
module _ (d e : Disk) (u : ℕ) (old bs r image : List ℕ) (on : true ≡ d.on) (free : u < page_room d) (long : length bs ≡ 128) (bytes : Bytes bs) (stamps : r ≡ stamped (u + 1) bs) (lays : image ≡ paged r) where
  abbrev es : List Entry
  es = page_slots d

  inside : u < length es
  inside = omega (arith, length-pages d)

  new-stands : slot (u + 1) (holds image) ≡ entry r
  new-stands = ap (λ (l : List ℕ). slot (u + 1) (holds l)) (lays ∙ ap paged stamps) ∙ page-stands (u + 1) bs (omega arith) long bytes ∙ ap entry (sym stamps)

  written_is : (f : page.Fate) → page.written f d u image ≡ outcome.changed f d u image
  written_is f = outcome.written-within f d u image on (omega arith)

  more-is : take (u + 1) (set es u (entry r)) ≡ longer (take u es) bs
  more-is = ap (λ (l : List ℕ). take (u + 1) (set es u (entry l))) stamps ∙ row_more es u bs inside

  grown : (f : Fate) (k : Journal) → k ≡ record { capacity = page_room d; records = row_after f (take u es) bs; on = power_after f } → k ≡ appended f (page_journal d u old) bs
  grown f k is = is ∙ sym (ap (λ (j : Journal). appended f j bs) (journal-on d u old on) ∙ grows (page_room d) es u bs (length-pages d) f free)

  module _ (w : page.Wrote d u image (Ok tt) e) where
    done-is : e ≡ outcome.changed page.lasts d u image
    done-is = outcome.finished_unless_off d e u image (Ok tt) w outcome.done-not-off ∙ written_is page.lasts

    done_on : true ≡ e.on
    done_on = sym (ap (λ (x : Disk). x.on) done-is)

    done-pages : e.pages ≡ set d.pages u (holds image)
    done-pages = ap (λ (x : Disk). x.pages) done-is

    done-slots : page_slots e ≡ set es u (entry r)
    done-slots = set-slots d e u (holds image) done-pages ∙ ap (set es u) new-stands

    pub append-done : Appended (page_journal d u old) bs (Ok (u + 1)) (page_journal e (u + 1) r)
    append-done =
        record {
          fate = lasts;
          leaves = grown lasts _ (journal-on e (u + 1) r done_on
              ∙ ap₂ (λ (n : ℕ) (l : List Entry). going n l (u + 1) true) (set_room d e u (holds image) done-pages) done-slots
              ∙ ap (λ (l : List Entry). record { capacity = page_room d; records = l; on = true }) more-is);
          answers = answers-added (page_room d) es u bs (length-pages d) free
              ∙ ap₂ (λ (j : Journal) (x : Bool). answer j x) (sym (journal-on d u old on)) done_on;
        }

    pub ends-done : EndsAtLast d u old → EndsAtLast e (u + 1) r
    ends-done ends =
        let none : LastPassing es u = rw (cond-true d.on u (with_last es u old) (sym on)) at ends in
        rw (cond-true e.on (u + 1) (with_last (page_slots e) (u + 1) r) (sym done_on), done-slots) (last_more es u bs r inside none.beyond)

  module _ (w : page.Wrote d u image (Err page.power_off) e) where
    left : Page
    left = page.left_by w.fate (page_at d u) (holds image)

    cut-is : e ≡ outcome.changed w.fate d u image
    cut-is = w.leaves ∙ written_is w.fate

    off : e.on ≡ false
    off = outcome.off_means_off d e u image w

    cut-pages : e.pages ≡ set d.pages u left
    unfolding left
    cut-pages = ap (λ (x : Disk). x.pages) cut-is

    abbrev x : Entry
    x = slot (u + 1) left

    cut-slots : page_slots e ≡ set es u x
    cut-slots = set-slots d e u left cut-pages

    seen : get_or (page_slots e) u lost ≡ x
    seen = ap (λ (l : List Entry). get_or l u lost) cut-slots ∙ get_or-set_same es u x lost inside

    reached : (b : Bool) → holds_record r x ≡ b → reach e u r ≡ cond b (u + 1) u
    reached b is = cond-false e.on u (with_last (page_slots e) u r) off ∙ ap (λ (t : Bool). cond t (u + 1) u) (ap (holds_record r) seen ∙ is)

    cut-journal : (n : ℕ) → reach e u r ≡ n → page_journal e u r ≡ going (page_room d) (set es u x) n false
    cut-journal n is =
        ap₂ (λ (m : ℕ) (p : Bool). record { capacity = m; records = take (reach e u r) (page_slots e); on = p }) (set_room d e u left cut-pages) off
        ∙ ap₂ (λ (m : ℕ) (l : List Entry). going (page_room d) l m false) is cut-slots

    tells : Err append.Off ≡ answer (page_journal d u old) e.on
    tells = sym (cond-false e.on _ _ off)

    by-slot : (b : Bool) → holds_record r x ≡ b → Appended (page_journal d u old) bs (Err append.Off) (page_journal e u r)
    by-slot true is =
        record {
          fate = added;
          leaves = grown added _ (cut-journal (u + 1) (reached true is)
              ∙ ap (λ (l : List Entry). record { capacity = page_room d; records = l; on = false }) (ap (λ (y : Entry). take (u + 1) (set es u y)) (holds-is r x is) ∙ more-is));
          answers = tells;
        }
    by-slot false is =
        record {
          fate = not_added;
          leaves = grown not_added _ (cut-journal u (reached false is) ∙ ap (λ (l : List Entry). record { capacity = page_room d; records = l; on = false }) (take-set es u x));
          answers = tells;
        }

    pub append-cut : (a : Result ℕ AppendError) → IsErrAnd a (λ e. e ≡ append.Off) → Appended (page_journal d u old) bs a (page_journal e u r)
    append-cut (Ok n) failed = absurd failed
    append-cut (Err e) failed = rw failed (by-slot (holds_record r x) refl)

    -- the slot behind the row has the record, or nothing that passes
    cut-slot : get_or es u lost ≡ lost → (x ≡ entry r) ⊎ (x ≡ lost)
    unfolding left
    cut-slot none = by w.fate
      where
        was : slot (u + 1) (page_at d u) ≡ lost
        was =
            let one : u + 1 - 1 ≡ u = omega arith in
            sym (ap (λ (i : ℕ). slot (u + 1) (page_at d i)) one) ∙ sym (slot-in d (u + 1) (omega arith) (omega arith)) ∙ ap (λ (i : ℕ). get_or es i lost) one ∙ none

        by : (f : page.Fate) → (slot (u + 1) (page.left_by f (page_at d u) (holds image)) ≡ entry r) ⊎ (slot (u + 1) (page.left_by f (page_at d u) (holds image)) ≡ lost)
        by page.lasts = inl new-stands
        by page.keeps_old = inr was
        by page.leaves_new = inl new-stands
        by (page.tears q torn) = inr (torn-lost (u + 1) q torn)

    pub ends-cut : EndsAtLast d u old → EndsAtLast e u r
    ends-cut ends =
        let last : LastPassing es u = rw (cond-true d.on u (with_last es u old) (sym on)) at ends in
        let none : get_or es u lost ≡ lost = last.beyond u (omega arith) in
        ⊎_elim
        (λ (is : x ≡ entry r). rw (reached true (holds-own r x is), cut-slots, is) (last_more es u bs r inside last.beyond))
        (λ (is : x ≡ lost). rw (reached false (ap (holds_record r) is), cut-slots, is, sym none, set-get_or es u lost) last)
        (cut-slot none)
