-- What a record that decodes tells: numbers of 32 bits and keys that are not empty, whatever the log holds.
use Rattle.std.proofs.Common.{◌≡◌, ℕ, ◌^◌, ◌<◌, Bool, true, false, cond, not, ◌&&◌, eqb, ltb, leb, List, length, get_or, Some, None, Option, refl, ap, subst, arith}
use Rattle.std.proofs.lemmas.Bool.{and_parts, leb-true, not-true, eqb-false}
use Rattle.field.specs.Fields.{word}
use Rattle.record.specs.Layout.{Raw, FieldsFit, body, encode, parse}
use Rattle.record.specs.Contents.{Content, format, put, remove, foster, adopt, grow, raw_of, content_in, measured, decode_record, decode_at}
use Rattle.record.specs.Laws.{Fits}
use Rattle.record.proofs.Images.{string_fits}
use Rattle.record.proofs.Decodes.{opened, content_fits}
use Rattle.wal.specs.Journal.{Journal, entry_at, Entry, entry, lost}
use Rattle.tree.specs.Log.{Change, Rec}
use Rattle.tree.specs.Log.Change.{Format, Put, Remove, Foster, Adopt, Grow}
use Rattle.tree.proofs.Upd.{none-some}
use Rattle.images.specs.Keys.{Key, Value, key_of, value_of}
use Rattle.images.specs.Records.{linked_as, rec_of, decode_rec, names_well, misfit, or_misfit, chain_rec, entry_rec}
use Rattle.images.proofs.Strings.{opt-parts, key_of_bytes}
use Rattle.images.proofs.Recorded.{at_position}
use Rattle.model.specs.Fetches.{rec_at}
use Rattle.endings.proofs.Sturdy.{Plain}

-- a number that stands in an image has 32 bits
image-fits : (r : Raw) → measured (encode r) ≡ true → FieldsFit (parse (encode r))
unfolding encode body parse word
image-fits r h =
    let s = and_parts (leb (get_or (encode r) 25 0) 16) (leb (get_or (encode r) 42 0) 64) (and_parts (eqb (length (encode r)) 128) (leb (get_or (encode r) 25 0) 16 && leb (get_or (encode r) 42 0) 64) h).1 in
    record {
      position = omega arith;
      page = omega arith;
      previous = omega arith;
      other = omega arith;
      other_previous = omega arith;
      child = omega arith;
      key = omega (arith, string_fits (encode r) 25, leb-true (get_or (encode r) 25 0) 16 s.0);
      value = omega (arith, string_fits (encode r) 42, leb-true (get_or (encode r) 42 0) 64 s.1);
    }

-- a record is the image of what it says
decodes_fit : (b : List ℕ) (n : ℕ) (c : Content) → decode_record b ≡ Some (n, c) → Fits c
decodes_fit b n c e =
    let o = opened (measured b) b (parse b).position n (content_in (parse b)) c e in
    let f = subst (λ (z : List ℕ). measured z ≡ true → FieldsFit (parse z)) o.3 (image-fits (raw_of n c)) in
    content_fits (parse b) c (f o.0) o.2

-- of a change that fits, its key and its numbers
abbrev Kept : Change Key Value → Type 0
Kept Format = Unit {0}
Kept (Put p k v) = 0 < length k.bytes
Kept (Remove p k) = Unit {0}
Kept (Foster p o d) = o < 2 ^ 32
Kept (Adopt p o k c) = c < 2 ^ 32
Kept (Grow o) = o < 2 ^ 32

this : (q r : Rec Key Value) → ◌≡◌ {A = Option (Rec Key Value)} (Some q) (Some r) → Kept q.change → Kept r.change
this q r e h = let z : q ≡ r = cc in subst (λ (x : Rec Key Value). Kept x.change) z h

kept : (c : Content) (r : Rec Key Value) → Fits c → rec_of c ≡ Some r → Kept r.change
unfolding rec_of
kept format r f e = this (linked_as 0 0 Format) r e tt
kept (put p a k v) r f e =
    let x = opt-parts (key_of k) _ r e in
    let y = opt-parts (value_of v) _ r x.2 in
    let i = ap (λ (s : List ℕ). length s) (key_of_bytes k x.0 x.1) in
    this (linked_as a 0 (Put p x.0 y.0)) r y.2 (omega (arith, f.2.0))
kept (remove p a k) r f e = let x = opt-parts (key_of k) _ r e in this (linked_as a 0 (Remove p x.0)) r x.2 tt
kept (foster p a o k) r f e = let x = opt-parts (key_of k) _ r e in this (linked_as a 0 (Foster p o x.0)) r x.2 f.2
kept (adopt p a o b c k) r f e = let x = opt-parts (key_of k) _ r e in this (linked_as a b (Adopt p o x.0 c)) r x.2 f.4
kept (grow a o) r f e = this (linked_as a 0 (Grow o)) r e f.1

decoded_kept : (n : ℕ) (b : List ℕ) (r : Rec Key Value) → decode_rec n b ≡ Some r → Kept r.change
unfolding decode_rec
decoded_kept n b r e =
    let x = opt-parts (decode_at n b) rec_of r e in
    kept x.0 r (decodes_fit b n x.0 (at_position n (decode_record b) x.0 x.1)) x.2

-- a record that names its pages well has no foster child 0
named_plain : (n : ℕ) (c : Change Key Value) (a b : ℕ) → Kept c → names_well n (linked_as a b c) ≡ true → Plain c
unfolding names_well
named_plain n Format a b h t = tt
named_plain n (Put p k v) a b h t = h
named_plain n (Remove p k) a b h t = tt
named_plain n (Foster p o d) a b h t =
    let s = and_parts (not (eqb p o)) (not (eqb o 0)) (and_parts (ltb a n) _ t).1 in
    (eqb-false o 0 (not-true (eqb o 0) s.1), h)
named_plain n (Adopt p o k c) a b h t = h
named_plain n (Grow o) a b h t = h

or-misfit : (n : ℕ) (o : Option (Rec Key Value)) → ((r : Rec Key Value) → o ≡ Some r → Kept r.change) → Plain (or_misfit n o).change
unfolding or_misfit misfit
or-misfit n None h = tt
or-misfit n (Some r) h = go (names_well n r) refl
  where
    go : (t : Bool) → names_well n r ≡ t → Plain (cond t r (misfit n)).change
    go true e = named_plain n r.change r.prev r.prev_other (h r refl) e
    go false e = tt

pub record_plain : (j : Journal) (n : ℕ) (r : Rec Key Value) → rec_at j n ≡ Some r → Plain r.change
unfolding entry_rec chain_rec
record_plain j n r e = go (entry_at j n) e
  where
    go : (i : Entry) → entry_rec n i ≡ Some r → Plain r.change
    go lost e = absurd (none-some r e)
    go (entry b) e =
        let z : or_misfit n (decode_rec n b) ≡ r = cc in
        subst (λ (x : Rec Key Value). Plain x.change) z (or-misfit n (decode_rec n b) (λ s i. decoded_kept n b s i))
