-- Laws of contents: each has one image, and reads back from it.
use Rattle.std.proofs.Common.{◌≡◌, ℕ, ◌+◌, ◌<◌, ◌≤◌, Bool, true, false, cond, eqb, ltb, leb, List, length, get_or, Some, None, Option, sym, refl, ap, ◌∙◌, subst, ap₂, arith, length-append}
use Rattle.std.specs.Str.{bytes_eq}
use Rattle.std.proofs.lemmas.Slice.Eq.{bytes_eq-Decides}
use Rattle.std.proofs.lemmas.Bool.{and_parts, and_from, cond-true, eq-eqb, le-leb, leb-true, lt-ltb, ltb-true}
use Rattle.field.specs.Fields.{word}
use Rattle.seal.specs.Laws.{Bytes}
use Rattle.seal.specs.Crc.{crc}
use Rattle.seal.specs.Seal.{le4}
use Rattle.record.specs.Layout.{Raw, Word, FieldsFit, body, encode, parse}
use Rattle.record.specs.Contents.{Content, format, put, remove, foster, adopt, grow, raw_of, encode_record, keyed_in, content_in, measured, if_image}
use Rattle.record.specs.Laws.{IsKey, Fits, ImageReadsBack, OneImage, DecodedFits, ImageHas128Bytes, ImageIsSealed}
use Rattle.record.proofs.Images.{fields_back, lengths_back, body-length, string_fits}
use Rattle.record.proofs.Parts.{by-fields}
use Rattle.record.proofs.Sealed.{image-passes}

fit : (position : ℕ) (c : Content) → Word position → Fits c → FieldsFit (raw_of position c)
fit position format w f =
    record { position = w; page = omega arith; previous = omega arith; other = omega arith; other_previous = omega arith; child = omega arith; key = omega arith; value = omega arith }
fit position (put page previous key value) w f =
    record { position = w; page = f.0; previous = f.1; other = omega arith; other_previous = omega arith; child = omega arith; key = f.2.1; value = f.3 }
fit position (remove page previous key) w f =
    record { position = w; page = f.0; previous = f.1; other = omega arith; other_previous = omega arith; child = omega arith; key = f.2.1; value = omega arith }
fit position (foster page previous other key) w f =
    record { position = w; page = f.0; previous = f.1; other = f.2; other_previous = omega arith; child = omega arith; key = f.3.1; value = omega arith }
fit position (adopt page previous other other_previous child key) w f =
    record { position = w; page = f.0; previous = f.1; other = f.2; other_previous = f.3; child = f.4; key = f.5.1; value = omega arith }
fit position (grow previous other) w f =
    record { position = w; page = omega arith; previous = f.0; other = f.1; other_previous = omega arith; child = omega arith; key = omega arith; value = omega arith }

lengths : (position : ℕ) (c : Content) → Fits c → (length (raw_of position c).key ≤ 16) × (length (raw_of position c).value ≤ 64)
lengths position c f =
    let held = fit 0 c (omega arith) f in
    let e = by-fields position c in
    (subst (λ (r : Raw). length r.key ≤ 16) e held.key, subst (λ (r : Raw). length r.value ≤ 64) e held.value)

kind_fits : (position : ℕ) (c : Content) → (raw_of position c).kind < 256
kind_fits position format = omega arith
kind_fits position (put page previous key value) = omega arith
kind_fits position (remove page previous key) = omega arith
kind_fits position (foster page previous other key) = omega arith
kind_fits position (adopt page previous other other_previous child key) = omega arith
kind_fits position (grow previous other) = omega arith

keyed : (key : List ℕ) (c : Content) → 1 ≤ length key → cond (ltb 0 (length key)) (Some c) None ≡ Some c
keyed key c h = cond-true (ltb 0 (length key)) (Some c) None (lt-ltb 0 (length key) h)

content_back : (position : ℕ) (c : Content) → Fits c → content_in (raw_of position c) ≡ Some c
content_back position format f = refl
content_back position (put page previous key value) f = keyed key (put page previous key value) f.2.0
content_back position (remove page previous key) f = keyed key (remove page previous key) f.2.0
content_back position (foster page previous other key) f = keyed key (foster page previous other key) f.3.0
content_back position (adopt page previous other other_previous child key) f = keyed key (adopt page previous other other_previous child key) f.5.0
content_back position (grow previous other) f = refl

image-length : (r : Raw) → length r.key ≤ 16 → length r.value ≤ 64 → length (encode r) ≡ 128
unfolding encode
image-length r k v = length-append (body r) (le4 (crc (body r))) ∙ ap (λ (n : ℕ). n + 4) (body-length r k v)

image-measured : (r : Raw) → FieldsFit r → measured (encode r) ≡ true
image-measured r f =
    let l = lengths_back r f in
    and_from _ _ (eq-eqb (length (encode r)) 128 (image-length r f.key f.value))
    (and_from _ _ (le-leb (get_or (encode r) 25 0) 16 l.0) (le-leb (get_or (encode r) 42 0) 64 l.1))

pub image_reads_back : ImageReadsBack
image_reads_back position c w f =
    let r : Raw = raw_of position c in
    let b : List ℕ = encode r in
    let e : parse b ≡ r = fields_back r (fit position c w f) in
    cond-true (measured b) (if_image b (parse b).position (content_in (parse b))) None (image-measured r (fit position c w f))
    ∙ ap₂ (if_image b) (ap (λ (x : Raw). x.position) (e ∙ sym (by-fields position c))) (ap content_in e ∙ content_back position c f)
    ∙ cond-true {A = Option (ℕ × Content)} (bytes_eq b b) (Some (position, c)) None ((bytes_eq-Decides b b).1 refl)

pub image_has_128_bytes : ImageHas128Bytes
image_has_128_bytes position c f = let l = lengths position c f in image-length (raw_of position c) l.0 l.1

pub image_is_sealed : ImageIsSealed
image_is_sealed position c f k v =
    let l = lengths position c f in image-passes (raw_of position c) (kind_fits position c) l.0 l.1 k v

-- what an answer tells of the tests before it
chosen : (s : Bool) (q p : ℕ) (d c : Content) → cond {A = Option (ℕ × Content)} s (Some (q, d)) None ≡ Some (p, c) → (s ≡ true) × (q ≡ p) × (d ≡ c)
chosen true q p d c e =
    let z : ◌≡◌ {A = ℕ × Content} (q, d) (p, c) = cc in
    (refl, ap (λ (x : ℕ × Content). x.0) z, ap (λ (x : ℕ × Content). x.1) z)
chosen false q p d c e = let z : ◌≡◌ {A = ℕ} 0 1 = cc in absurd (omega arith)

pub opened : (t : Bool) (b : List ℕ) (q p : ℕ) (o : Option Content) (c : Content) → cond {A = Option (ℕ × Content)} t (if_image b q o) None ≡ Some (p, c)
    → (t ≡ true) × (q ≡ p) × (o ≡ Some c) × (encode_record p c ≡ b)
opened true b q p (Some d) c e =
    let h = chosen (bytes_eq (encode_record q d) b) q p d c e in (
      refl,
      h.1,
      ap {B = Option Content} (λ (x : Content). Some x) h.2,
      ap₂ encode_record (sym h.1) (sym h.2) ∙ (bytes_eq-Decides (encode_record q d) b).0 h.0,
    )
opened true b q p None c e = let z : ◌≡◌ {A = ℕ} 0 1 = cc in absurd (omega arith)
opened false b q p o c e = let z : ◌≡◌ {A = ℕ} 0 1 = cc in absurd (omega arith)

pub one_image : OneImage
one_image b position c e = (opened (measured b) b (parse b).position position (content_in (parse b)) c e).3

word_fits : (b : List ℕ) (i : ℕ) → Bytes b → Word (word b i)
unfolding word
word_fits b i w = omega (arith, w i, w (i + 1), w (i + 2), w (i + 3))

parsed_fits : (b : List ℕ) → Bytes b → measured b ≡ true → FieldsFit (parse b)
unfolding parse
parsed_fits b w h =
    let t = and_parts (eqb (length b) 128) _ h in
    let s = and_parts (leb (get_or b 25 0) 16) (leb (get_or b 42 0) 64) t.1 in
    record {
      position = word_fits b 0 w;
      page = word_fits b 4 w;
      previous = word_fits b 8 w;
      other = word_fits b 12 w;
      other_previous = word_fits b 16 w;
      child = word_fits b 20 w;
      key = omega (arith, string_fits b 25, leb-true (get_or b 25 0) 16 s.0);
      value = omega (arith, string_fits b 42, leb-true (get_or b 42 0) 64 s.1);
    }

-- a content that was chosen by a test
picked : (t : Bool) (x y : Option Content) (c : Content) → (t ≡ true → x ≡ Some c → Fits c) → (y ≡ Some c → Fits c) → cond t x y ≡ Some c → Fits c
picked true x y c f g e = f refl e
picked false x y c f g e = g e

nothing : (c : Content) → None ≡ Some c → Fits c
nothing c e = let z : ◌≡◌ {A = ℕ} 0 1 = cc in absurd (omega arith)

this : (d c : Content) → Fits d → Some d ≡ Some c → Fits c
this d c f e = let z : d ≡ c = cc in subst Fits z f

keyed-fits : (r : Raw) (c : Content) → FieldsFit r → IsKey r.key → keyed_in r ≡ Some c → Fits c
keyed-fits r c f k =
    picked (eqb r.kind 2) _ _ c (λ _. this (put r.page r.previous r.key r.value) c (f.page, f.previous, k, f.value))
    (picked (eqb r.kind 3) _ _ c (λ _. this (remove r.page r.previous r.key) c (f.page, f.previous, k))
    (picked (eqb r.kind 4) _ _ c (λ _. this (foster r.page r.previous r.other r.key) c (f.page, f.previous, f.other, k))
    (picked (eqb r.kind 5) _ _ c (λ _. this (adopt r.page r.previous r.other r.other_previous r.child r.key) c
    (f.page, f.previous, f.other, f.other_previous, f.child, k))
    (nothing c))))

pub content_fits : (r : Raw) (c : Content) → FieldsFit r → content_in r ≡ Some c → Fits c
content_fits r c f =
    picked (eqb r.kind 1) _ _ c (λ _. this format c tt)
    (picked (eqb r.kind 6) _ _ c (λ _. this (grow r.previous r.other) c (f.previous, f.other))
    (picked (ltb 0 (length r.key)) _ _ c (λ t. keyed-fits r c f (ltb-true 0 (length r.key) t, f.key))
    (nothing c)))

pub decoded_fits : DecodedFits
decoded_fits b position c w e =
    let o = opened (measured b) b (parse b).position position (content_in (parse b)) c e in
    let f = parsed_fits b w o.0 in
    (subst Word o.1 f.position, content_fits (parse b) c f o.2)
