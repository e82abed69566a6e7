-- Laws of the layout: an image's length and seal, and its fields read back.
use Rattle.std.proofs.Common.{◌≡◌, ℕ, ◌+◌, ◌-◌, ◌≤◌, List, ◌∷◌, ◌++◌, length, get_or, take, drop, replicate, sym, refl, ap, ◌∙◌, subst, ap₂, append_assoc, arith}
use Rattle.std.proofs.lemmas.List.{drop_at, drop-drop, get_or_at, length-append, length-replicate, length-take, take_at}
use Rattle.field.specs.Fields.{field, field_at, word}
use Rattle.seal.specs.Seal.{le4}
use Rattle.seal.specs.Crc.{crc}
use Rattle.seal.proofs.Seals.{number_back}
use Rattle.record.specs.Layout.{Raw, FieldsFit, body, encode, parse}
use Rattle.record.proofs.Parts.{raw_same}

field-length : (n : ℕ) (s : List ℕ) → length s ≤ n → length (s ++ replicate (n - length s) 0) ≡ n
field-length n s h = simp (length-append, length-replicate) (omega arith)

key_back : (k z x s : List ℕ) → take (length k) (((k ++ z) ++ x) ++ s) ≡ k
key_back k z x s =
    let e : ((k ++ z) ++ x) ++ s ≡ k ++ (z ++ (x ++ s)) = simp append_assoc in
    ap (take (length k)) e ∙ take_at k (z ++ (x ++ s)) (length k) refl

pub string_fits : (b : List ℕ) (i : ℕ) → length (field_at b i) ≤ get_or b i 0
unfolding field_at
string_fits b i = let l = length-take (get_or b i 0) (drop (i + 1) b) in omega arith

-- a field behind n bytes
module _ (p v z o s : List ℕ) (n : ℕ) (e : length p ≡ n) where
  whole : List ℕ
  whole = (p ++ (length v ∷ ((v ++ z) ++ o))) ++ s

  grouped : whole ≡ p ++ (length v ∷ (v ++ (z ++ (o ++ s))))
  unfolding whole
  grouped = simp append_assoc

  length_there : get_or whole n 0 ≡ length v
  length_there = ap (λ (l : List ℕ). get_or l n 0) grouped ∙ get_or_at p (length v) (v ++ (z ++ (o ++ s))) 0 n e

  field_there : field_at whole n ≡ v
  unfolding field_at
  field_there =
      let w : List ℕ = length v ∷ (v ++ (z ++ (o ++ s))) in
      ap₂ take length_there (ap (drop (n + 1)) grouped ∙ sym (drop-drop 1 n (p ++ w)) ∙ ap (drop 1) (drop_at p w n e))
      ∙ take_at v (z ++ (o ++ s)) (length v) refl

pub fields_back : (r : Raw) → FieldsFit r → parse (encode r) ≡ r
unfolding encode body parse word field field_at whole
fields_back r f =
    raw_same (parse (encode r)) r (number_back r.position f.position) (number_back r.page f.page) (number_back r.previous f.previous)
    (number_back r.other f.other) (number_back r.other_previous f.other_previous) (number_back r.child f.child) refl
    (key_back r.key (replicate (16 - length r.key) 0) (field 64 r.value ++ replicate 17 0) (le4 (crc (body r))))
    (field_there (r.key ++ replicate (16 - length r.key) 0) r.value (replicate (64 - length r.value) 0) (replicate 17 0) (le4 (crc (body r))) 16
    (field-length 16 r.key f.key))

-- the length bytes of an image
pub lengths_back : (r : Raw) → FieldsFit r → (get_or (encode r) 25 0 ≤ 16) × (get_or (encode r) 42 0 ≤ 64)
unfolding encode body field whole
lengths_back r f =
    let e : get_or (encode r) 42 0 ≡ length r.value =
    length_there (r.key ++ replicate (16 - length r.key) 0) r.value (replicate (64 - length r.value) 0) (replicate 17 0) (le4 (crc (body r))) 16
    (field-length 16 r.key f.key) in
    (f.key, subst (λ (n : ℕ). n ≤ 64) (sym e) f.value)

pub body-length : (r : Raw) → length r.key ≤ 16 → length r.value ≤ 64 → length (body r) ≡ 124
unfolding body field
body-length r k v =
    let a = field-length 16 r.key k in
    let b = field-length 64 r.value v in
    simp (length-append, length-replicate) (omega arith)
