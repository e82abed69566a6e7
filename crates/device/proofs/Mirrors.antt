-- What a mirror's calls come to, by what the calls of its two devices come to.
use Rattle.std.proofs.Common.{◌≡◌, ℕ, zero, suc, ◌<◌, min, Bool, true, false, cond, ◌&&◌, List, [], ◌∷◌, Result, Ok, Err, IsErr, length, get_or, set, sym, refl, ap, ◌∙◌, le_of_suc-le-suc, not-suc-le-zero, arith}
use native.Mathlib.Nat.{zero-min, min-zero, suc-min-suc}
use Rattle.std.proofs.lemmas.List.{set-get_or}
use Rattle.std.proofs.lemmas.Bool.{lt-ltb, and_from, cond-true, cond-false, false≢true}
use Rattle.seal.specs.Seal.{is_sealed}
use Rattle.device.specs.Disk.{Disk, Page, holds, unreadable, intact, reaches, shown, gives_sealed, reading}
use Rattle.device.specs.Writes.{Fate, lasts, keeps_old, leaves_new, tears, left_by, power_after, power_off, written, answer, Wrote}
use Rattle.device.specs.Mirror.{better, paired, mirrored, InOrder}
use Rattle.device.specs.declared.errors.PowerOff.{PowerOff}
use Rattle.device.specs.declared.errors.ReadError.{ReadError}
use Rattle.device.proofs.Outcomes.{written-within, finished_unless_off, on_unless_off, off_means_off, done-not-off, only-off}

pub length_paired : (ps qs : List Page) → length (paired ps qs) ≡ min (length ps) (length qs)
length_paired [] qs = sym (zero-min (length qs))
length_paired (p ∷ ps) [] = sym (min-zero (suc (length ps)))
length_paired (p ∷ ps) (q ∷ qs) = ap suc (length_paired ps qs) ∙ sym (suc-min-suc (length ps) (length qs))

paired_at : (ps qs : List Page) (i : ℕ) → i < length (paired ps qs) → get_or (paired ps qs) i unreadable ≡ better (get_or ps i unreadable) (get_or qs i unreadable)
paired_at [] qs i h = absurd (not-suc-le-zero h)
paired_at (p ∷ ps) [] i h = absurd (not-suc-le-zero h)
paired_at (p ∷ ps) (q ∷ qs) zero h = refl
paired_at (p ∷ ps) (q ∷ qs) (suc i) h = paired_at ps qs i (le_of_suc-le-suc h)

paired-both : (ps qs : List Page) (i : ℕ) (x y : Page) → paired (set ps i x) (set qs i y) ≡ set (paired ps qs) i (better x y)
paired-both [] qs i x y = refl
paired-both (p ∷ ps) [] zero x y = refl
paired-both (p ∷ ps) [] (suc i) x y = refl
paired-both (p ∷ ps) (q ∷ qs) zero x y = refl
paired-both (p ∷ ps) (q ∷ qs) (suc i) x y = ap {B = List Page} (λ r. better p q ∷ r) (paired-both ps qs i x y)

-- a change of the second page is hidden by an intact first page, and seen otherwise
paired_hidden : (ps qs : List Page) (i : ℕ) (y : Page) → intact (get_or ps i unreadable) ≡ true → paired ps (set qs i y) ≡ paired ps qs
paired_hidden [] qs i y e = refl
paired_hidden (p ∷ ps) [] i y e = refl
paired_hidden (p ∷ ps) (q ∷ qs) zero y e = rw e
paired_hidden (p ∷ ps) (q ∷ qs) (suc i) y e = ap {B = List Page} (λ r. better p q ∷ r) (paired_hidden ps qs i y e)

paired-seen : (ps qs : List Page) (i : ℕ) (y : Page) → intact (get_or ps i unreadable) ≡ false → paired ps (set qs i y) ≡ set (paired ps qs) i y
paired-seen [] qs i y e = refl
paired-seen (p ∷ ps) [] i y e = refl
paired-seen (p ∷ ps) (q ∷ qs) zero y e = rw e
paired-seen (p ∷ ps) (q ∷ qs) (suc i) y e = ap {B = List Page} (λ r. better p q ∷ r) (paired-seen ps qs i y e)

same_twice : (x : Page) (b : Bool) → cond b x x ≡ x
same_twice x true = refl
same_twice x false = refl

abbrev disk_of : List Page → Bool → Disk
disk_of ps x = record { pages = ps; on = x }

abbrev live : List Page → Disk
live ps = disk_of ps true

abbrev dead : List Page → Disk
dead ps = disk_of ps false

-- a write within the row of a device that is on
within : (ps : List Page) (i : ℕ) (bs : List ℕ) (f : Fate) → i < length ps → written f (live ps) i bs ≡ disk_of (set ps i (left_by f (get_or ps i unreadable) (holds bs))) (power_after f)
within ps i bs f h = written-within f (live ps) i bs refl h

module _ (ps qs : List Page) (i : ℕ) (bs : List ℕ) (near : i < length (paired ps qs)) where
  abbrev Reaches : Disk → Type 0
  Reaches e = (f : Fate) × (e ≡ written f (mirrored (live ps) (live qs)) i bs)

  first_near : i < length ps
  first_near = omega (arith, length_paired ps qs)

  second_near : i < length qs
  second_near = omega (arith, length_paired ps qs)

  by : (f : Fate) (rs : List Page) → rs ≡ set (paired ps qs) i (left_by f (get_or (paired ps qs) i unreadable) (holds bs)) → Reaches (disk_of rs (power_after f))
  by f rs is = (f, ap (λ (r : List Page). disk_of r (power_after f)) is ∙ sym (within (paired ps qs) i bs f near))

  kept : (rs : List Page) → rs ≡ paired ps qs → Reaches (dead rs)
  kept rs is = by keeps_old rs (is ∙ sym (set-get_or (paired ps qs) i unreadable))

  -- the second device took bytes, the first did not, and power went
  second-new : (b : Bool) → intact (get_or ps i unreadable) ≡ b → Reaches (dead (paired ps (set qs i (holds bs))))
  second-new true e = kept _ (paired_hidden ps qs i (holds bs) e)
  second-new false e = by leaves_new _ (paired-seen ps qs i (holds bs) e)

  second-torn : (q : Page) (torn : intact q ≡ false) (b : Bool) → intact (get_or ps i unreadable) ≡ b → Reaches (dead (paired ps (set qs i q)))
  second-torn q torn true e = kept _ (paired_hidden ps qs i q e)
  second-torn q torn false e = by (tears q torn) _ (paired-seen ps qs i q e)

  second-cut : (f : Fate) → power_after f ≡ false → Reaches (mirrored (live ps) (disk_of (set qs i (left_by f (get_or qs i unreadable) (holds bs))) (power_after f)))
  second-cut lasts off = absurd (false≢true (sym off))
  second-cut keeps_old off = kept _ (ap (paired ps) (set-get_or qs i unreadable))
  second-cut leaves_new off = second-new (intact (get_or ps i unreadable)) refl
  second-cut (tears q torn) off = second-torn q torn (intact (get_or ps i unreadable)) refl

  both-new : paired (set ps i (holds bs)) (set qs i (holds bs)) ≡ set (paired ps qs) i (holds bs)
  both-new = paired-both ps qs i (holds bs) (holds bs) ∙ ap (set (paired ps qs) i) (same_twice (holds bs) (intact (holds bs)))

  first-after : (f : Fate) → Reaches (mirrored (disk_of (set ps i (left_by f (get_or ps i unreadable) (holds bs))) (power_after f)) (live (set qs i (holds bs))))
  first-after lasts = by lasts _ both-new
  first-after keeps_old = rw (set-get_or ps i unreadable) (second-new (intact (get_or ps i unreadable)) refl)
  first-after leaves_new = by leaves_new _ both-new
  first-after (tears q torn) = by leaves_new _ (paired-both ps qs i q (holds bs) ∙ rw torn)

-- power went in the write to the second device
pub second-failed : (a b b' : Disk) (i : ℕ) (bs : List ℕ) (r : Result Unit PowerOff) → IsErr r → true ≡ (a.on && b.on) → i < length (paired a.pages b.pages) → Wrote b i bs (Err power_off) b' → Wrote (mirrored a b) i bs r (mirrored a b')
second-failed a b b' i bs r failed on near w = rw (only-off r failed) (go a.pages b.pages a.on b.on on near w)
  where
    go : (ps qs : List Page) (x y : Bool) → true ≡ (x && y) → i < length (paired ps qs) → Wrote (disk_of qs y) i bs (Err power_off) b' → Wrote (mirrored (disk_of ps x) (disk_of qs y)) i bs (Err power_off) (mirrored (disk_of ps x) b')
    go ps qs true true e near w =
        let left : b' ≡ disk_of (set qs i (left_by w.fate (get_or qs i unreadable) (holds bs))) (power_after w.fate) = w.leaves ∙ within qs i bs w.fate (second_near ps qs i bs near) in
        let off : power_after w.fate ≡ false = sym (ap (λ (d : Disk). d.on) left) ∙ off_means_off (live qs) b' i bs w in
        let cut = second-cut ps qs i bs near w.fate off in
        record { fate = cut.0; leaves = ap (mirrored (live ps)) left ∙ cut.1; answers = w.answers }
    go ps qs true false e near w = absurd (false≢true (sym e))
    go ps qs false y e near w = absurd (false≢true (sym e))

and-true : (x y : Bool) → y ≡ true → x ≡ (x && y)
and-true true y e = sym e
and-true false y e = refl

-- the second device has the bytes, and the first was written
pub first_wrote : (a b a' b' : Disk) (i : ℕ) (bs : List ℕ) (r : Result Unit PowerOff) → true ≡ (a.on && b.on) → i < length (paired a.pages b.pages) → Wrote b i bs (Ok tt) b' → Wrote a i bs r a' → Wrote (mirrored a b) i bs r (mirrored a' b')
first_wrote a b a' b' i bs r = go a.pages b.pages a.on b.on
  where
    go : (ps qs : List Page) (x y : Bool) → true ≡ (x && y) → i < length (paired ps qs) → Wrote (disk_of qs y) i bs (Ok tt) b' → Wrote (disk_of ps x) i bs r a' → Wrote (mirrored (disk_of ps x) (disk_of qs y)) i bs r (mirrored a' b')
    go ps qs true true e near w v =
        let second : b' ≡ live (set qs i (holds bs)) = finished_unless_off (live qs) b' i bs (Ok tt) w done-not-off ∙ within qs i bs lasts (second_near ps qs i bs near) in
        let first : a' ≡ disk_of (set ps i (left_by v.fate (get_or ps i unreadable) (holds bs))) (power_after v.fate) = v.leaves ∙ within ps i bs v.fate (first_near ps qs i bs near) in
        let after = first-after ps qs i bs near v.fate in
        record {
          fate = after.0;
          leaves = ap (λ (d : Disk). mirrored d b') first ∙ ap (mirrored (disk_of (set ps i (left_by v.fate (get_or ps i unreadable) (holds bs))) (power_after v.fate))) second ∙ after.1;
          answers = v.answers ∙ ap answer (and-true a'.on b'.on (on_unless_off (live qs) b' i bs (Ok tt) w done-not-off));
        }
    go ps qs true false e near w v = absurd (false≢true (sym e))
    go ps qs false y e near w v = absurd (false≢true (sym e))

reached : (a b : Disk) (i : ℕ) → true ≡ (a.on && b.on) → i < length (paired a.pages b.pages) → reaches (mirrored a b) i ≡ true
reached a b i on near = and_from _ _ (sym on) (lt-ltb i (length (paired a.pages b.pages)) near)

-- the order of the two writes
pub order_both : (a b a' b' : Disk) (i : ℕ) (bs : List ℕ) (r : Result Unit PowerOff) → true ≡ (a.on && b.on) → i < length (paired a.pages b.pages) → Wrote b i bs (Ok tt) b' → Wrote a i bs r a' → InOrder a b i bs a' b'
order_both a b a' b' i bs r on near w v =
    let h = reached a b i on near in
    record {
      in_second = w.fate;
      in_first = v.fate;
      second = w.leaves ∙ sym (cond-true _ _ _ h);
      first = v.leaves ∙ sym (cond-true _ _ _ (and_from _ _ h (on_unless_off b b' i bs (Ok tt) w done-not-off)));
    }

shown-better : (b : Bool) (x y : Page) → shown (cond b x y) ≡ cond b (shown x) (shown y)
shown-better true x y = refl
shown-better false x y = refl

better-shown : (x y : Page) → shown (better x y) ≡ cond (gives_sealed (shown x)) (shown x) (shown y)
better-shown (holds bs) y = shown-better (is_sealed bs) (holds bs) y
better-shown unreadable y = refl

-- what the first answers if that is sealed, else what the second answers
read-both : (a b : Disk) (i : ℕ) → true ≡ (a.on && b.on) → i < length (paired a.pages b.pages) → reading (mirrored a b) i ≡ cond (gives_sealed (reading a i)) (reading a i) (reading b i)
read-both a b i = go a.pages b.pages a.on b.on
  where
    go : (ps qs : List Page) (x y : Bool) → true ≡ (x && y) → i < length (paired ps qs) → reading (mirrored (disk_of ps x) (disk_of qs y)) i ≡ cond (gives_sealed (reading (disk_of ps x) i)) (reading (disk_of ps x) i) (reading (disk_of qs y) i)
    go ps qs true true on near = ap shown (paired_at ps qs i near) ∙ better-shown (get_or ps i unreadable) (get_or qs i unreadable)
    go ps qs true false on near = absurd (false≢true (sym on))
    go ps qs false y on near = absurd (false≢true (sym on))

pub read_first : (a b : Disk) (i : ℕ) (r : Result (List ℕ) ReadError) → true ≡ (a.on && b.on) → i < length (paired a.pages b.pages) → r ≡ reading a i → true ≡ gives_sealed r → r ≡ reading (mirrored a b) i
read_first a b i r on near first sealed = first ∙ sym (read-both a b i on near ∙ cond-true _ _ _ (sym (ap gives_sealed first) ∙ sym sealed))

pub read-second : (a b : Disk) (i : ℕ) (r s : Result (List ℕ) ReadError) → true ≡ (a.on && b.on) → i < length (paired a.pages b.pages) → r ≡ reading a i → false ≡ gives_sealed r → s ≡ reading b i → s ≡ reading (mirrored a b) i
read-second a b i r s on near first bad second = second ∙ sym (read-both a b i on near ∙ cond-false _ _ _ (sym (ap gives_sealed first) ∙ sym bad))
