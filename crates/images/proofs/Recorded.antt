-- What is written of a record is read back, under the stamp of its position.
use Rattle.std.proofs.Common.{◌≡◌, ℕ, ◌^◌, ◌<◌, Bool, true, false, cond, eqb, List, ◌++◌, length, drop, Some, None, Option, sym, refl, ap, ◌∙◌, ap₂, arith}
use Rattle.std.proofs.lemmas.List.{take_at}
use Rattle.std.proofs.lemmas.Bool.{eq-eqb, eqb-true}
use Rattle.seal.specs.Crc.{crc}
use Rattle.seal.specs.Seal.{le4, sealed}
use Rattle.record.specs.Layout.{Raw, body, encode}
use Rattle.record.specs.Contents.{Content, format, put, remove, foster, adopt, grow, raw_of, encode_record, decode_record, if_at, decode_at}
use Rattle.record.specs.Laws.{Fits}
use Rattle.record.proofs.Images.{body-length}
use Rattle.record.proofs.Decodes.{image_reads_back, one_image}
use Rattle.wal.specs.Records.{stamped}
use Rattle.tree.specs.Log.{Change, Rec}
use Rattle.tree.specs.Log.Change.{Format, Put, Remove, Foster, Adopt, Grow}
use Rattle.images.specs.Keys.{Key, Value, key_of, value_of}
use Rattle.images.specs.Records.{content_for, encode_rec, linked_as, rec_of, decode_rec}
use Rattle.images.specs.Laws.{Spelt, RecordsReadBack, RecordsKeepTheirStamp, RecordsHaveOneImage}
use Rattle.images.proofs.Strings.{key_length, value_length, opt-some, opt-parts, key_back, value_back, key_of_bytes, value_of_bytes}

fits : (a b : ℕ) (c : Change Key Value) → a < 2 ^ 32 → b < 2 ^ 32 → Spelt c a b → Fits (content_for a b c)
unfolding content_for
fits a b Format ha hb s = tt
fits a b (Put p k v) ha hb s = (s.0, ha, (s.1, key_length k), value_length v)
fits a b (Remove p k) ha hb s = (s.0, ha, (s.1, key_length k))
fits a b (Foster p o k) ha hb s = (s.0, ha, s.1, (s.2, key_length k))
fits a b (Adopt p o k c) ha hb s = (s.0, ha, s.1, hb, s.2, (s.3, key_length k))
fits a b (Grow o) ha hb s = (ha, s.0)

content_back : (a b : ℕ) (c : Change Key Value) → Spelt c a b → rec_of (content_for a b c) ≡ Some (linked_as a b c)
unfolding content_for rec_of
content_back a b Format s = ap₂ {C = Option (Rec Key Value)} (λ (x y : ℕ). Some (linked_as x y Format)) (sym s.0) (sym s.1)
content_back a b (Put p k v) s =
    opt-some _ k _ _ (key_back k s.1) (opt-some _ v _ _ (value_back v) (ap {B = Option (Rec Key Value)} (λ (y : ℕ). Some (linked_as a y (Put p k v))) (sym s.2)))
content_back a b (Remove p k) s =
    opt-some _ k _ _ (key_back k s.1) (ap {B = Option (Rec Key Value)} (λ (y : ℕ). Some (linked_as a y (Remove p k))) (sym s.2))
content_back a b (Foster p o k) s =
    opt-some _ k _ _ (key_back k s.2) (ap {B = Option (Rec Key Value)} (λ (y : ℕ). Some (linked_as a y (Foster p o k))) (sym s.3))
content_back a b (Adopt p o k c) s = opt-some _ k _ _ (key_back k s.3) refl
content_back a b (Grow o) s = ap {B = Option (Rec Key Value)} (λ (y : ℕ). Some (linked_as a y (Grow o))) (sym s.1)

at_own : (n : ℕ) (c : Content) → if_at n (Some (n, c)) ≡ Some c
at_own n c = ap {B = Option Content} (λ (t : Bool). cond t (Some c) None) (eq-eqb n n refl)

pub records_read_back : RecordsReadBack
unfolding decode_rec encode_rec
records_read_back n r h =
    let c : Content = content_for r.prev r.prev_other r.change in
    let f : Fits c = fits r.prev r.prev_other r.change h.prev h.prev_other h.spelt in
    let e : decode_at n (encode_record n c) ≡ Some c = ap (if_at n) (image_reads_back n c h.position f) ∙ at_own n c in
    opt-some _ c _ _ e (content_back r.prev r.prev_other r.change h.spelt)

stamped_again : (n : ℕ) (rest : List ℕ) → length rest ≡ 120 → stamped n (sealed (le4 n ++ rest)) ≡ sealed (le4 n ++ rest)
unfolding stamped
stamped_again n rest e = ap (λ (x : List ℕ). sealed (le4 n ++ x)) (take_at rest (le4 (crc (le4 n ++ rest))) 120 e)

encode-stamped : (r : Raw) → length (body r) ≡ 124 → stamped r.position (encode r) ≡ encode r
unfolding body encode
encode-stamped r e = stamped_again r.position (drop 4 (body r)) (omega arith)

raw-stamped : (n : ℕ) (c : Content) → length (body (raw_of n c)) ≡ 124 → stamped n (encode_record n c) ≡ encode_record n c
raw-stamped n format e = encode-stamped (raw_of n format) e
raw-stamped n (put p a k v) e = encode-stamped (raw_of n (put p a k v)) e
raw-stamped n (remove p a k) e = encode-stamped (raw_of n (remove p a k)) e
raw-stamped n (foster p a o k) e = encode-stamped (raw_of n (foster p a o k)) e
raw-stamped n (adopt p a o b c k) e = encode-stamped (raw_of n (adopt p a o b c k)) e
raw-stamped n (grow a o) e = encode-stamped (raw_of n (grow a o)) e

sized : (n a b : ℕ) (c : Change Key Value) → length (body (raw_of n (content_for a b c))) ≡ 124
unfolding content_for
sized n a b Format = body-length _ (omega arith) (omega arith)
sized n a b (Put p k v) = body-length _ (key_length k) (value_length v)
sized n a b (Remove p k) = body-length _ (key_length k) (omega arith)
sized n a b (Foster p o k) = body-length _ (key_length k) (omega arith)
sized n a b (Adopt p o k c) = body-length _ (key_length k) (omega arith)
sized n a b (Grow o) = body-length _ (omega arith) (omega arith)

pub records_keep_their_stamp : RecordsKeepTheirStamp
unfolding encode_rec
records_keep_their_stamp n r h = raw-stamped n (content_for r.prev r.prev_other r.change) (sized n r.prev r.prev_other r.change)

-- what a content is a record of has that content
said : Rec Key Value → Content
said r = content_for r.prev r.prev_other r.change

just : (q r : Rec Key Value) → ◌≡◌ {A = Option (Rec Key Value)} (Some q) (Some r) → said r ≡ said q
just q r e = let z : q ≡ r = cc in ap said (sym z)

content_of_record : (c : Content) (r : Rec Key Value) → rec_of c ≡ Some r → said r ≡ c
unfolding rec_of content_for said
content_of_record format r e = just (linked_as 0 0 Format) r e
content_of_record (put p a k v) r e =
    let x = opt-parts (key_of k) _ r e in
    let y = opt-parts (value_of v) _ r x.2 in
    just (linked_as a 0 (Put p x.0 y.0)) r y.2 ∙ ap₂ (λ (s t : List ℕ). put p a s t) (key_of_bytes k x.0 x.1) (value_of_bytes v y.0 y.1)
content_of_record (remove p a k) r e =
    let x = opt-parts (key_of k) _ r e in
    just (linked_as a 0 (Remove p x.0)) r x.2 ∙ ap (λ (s : List ℕ). remove p a s) (key_of_bytes k x.0 x.1)
content_of_record (foster p a o k) r e =
    let x = opt-parts (key_of k) _ r e in
    just (linked_as a 0 (Foster p o x.0)) r x.2 ∙ ap (λ (s : List ℕ). foster p a o s) (key_of_bytes k x.0 x.1)
content_of_record (adopt p a o b c k) r e =
    let x = opt-parts (key_of k) _ r e in
    just (linked_as a b (Adopt p o x.0 c)) r x.2 ∙ ap (λ (s : List ℕ). adopt p a o b c s) (key_of_bytes k x.0 x.1)
content_of_record (grow a o) r e = just (linked_as a 0 (Grow o)) r e

pub at_position : (n : ℕ) (o : Option (ℕ × Content)) (c : Content) → if_at n o ≡ Some c → o ≡ Some (n, c)
at_position n None c e = let z : ◌≡◌ {A = ℕ} 0 1 = cc in absurd (omega arith)
at_position n (Some x) c e = go (eqb x.0 n) refl e
  where
    go : (t : Bool) → eqb x.0 n ≡ t → cond t (Some x.1) None ≡ Some c → Some x ≡ Some (n, c)
    go true h g = let z : x.1 ≡ c = cc in ap₂ {C = Option (ℕ × Content)} (λ (m : ℕ) (d : Content). Some (m, d)) (eqb-true x.0 n h) z
    go false h g = let z : ◌≡◌ {A = ℕ} 0 1 = cc in absurd (omega arith)

pub records_have_one_image : RecordsHaveOneImage
unfolding decode_rec encode_rec said
records_have_one_image n b r e =
    let x = opt-parts (decode_at n b) rec_of r e in
    ap (encode_record n) (content_of_record x.0 r x.2) ∙ one_image b n x.0 (at_position n (decode_record b) x.0 x.1)
