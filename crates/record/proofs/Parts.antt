-- An image made of its parts, and fields made of theirs.
use Rattle.std.proofs.Common.{◌≡◌, ℕ, ◌+◌, List, [], ◌∷◌, ◌++◌, take, drop, replicate, unwrap_or, sym, refl, ap, ◌∙◌, ap₂, append_assoc, lit≤}
use Rattle.std.proofs.lemmas.List.{drop-drop, drop-take, take-append-drop, take-take}
use Rattle.field.specs.Fields.{field}
use Rattle.seal.specs.Seal.{le4, sealed}
use Rattle.record.specs.Layout.{Raw, body, encode}
use Rattle.record.specs.Changes.{page_in, other_in}
use Rattle.record.specs.Contents.{Content, format, put, remove, foster, adopt, grow, raw, raw_of}

later : (n m : ℕ) (a b : List ℕ) → drop n a ≡ drop n b → drop (n + m) a ≡ drop (n + m) b
later n m a b e = sym (drop-drop m n a) ∙ ap (drop m) e ∙ drop-drop m n b

joined : (a b c d e f : List ℕ) (k : ℕ) (key value z : List ℕ) →
    ((((((((a ++ b) ++ c) ++ d) ++ e) ++ f) ++ (k ∷ [])) ++ key) ++ value) ++ z
    ≡ a ++ (b ++ (c ++ (d ++ (e ++ (f ++ (k ∷ (key ++ (value ++ z))))))))
joined a b c d e f k key value z = simp append_assoc

-- the fields written one after the other into zeros, o1 to o9 the bytes after each
pub whole : (r : Raw) (o1 o2 o3 o4 o5 o6 o7 o8 o9 : List ℕ)
    → take 4 o1 ≡ le4 r.position → take 8 o2 ≡ take 4 o1 ++ le4 r.page → take 12 o3 ≡ take 8 o2 ++ le4 r.previous
    → take 16 o4 ≡ take 12 o3 ++ le4 r.other → take 20 o5 ≡ take 16 o4 ++ le4 r.other_previous → take 24 o6 ≡ take 20 o5 ++ le4 r.child
    → take 25 o7 ≡ take 24 o6 ++ (r.kind ∷ []) → take 42 o8 ≡ take 25 o7 ++ field 16 r.key → take 107 o9 ≡ take 42 o8 ++ field 64 r.value
    → drop 4 o1 ≡ drop 4 (replicate 128 0) → drop 8 o2 ≡ drop 8 o1 → drop 12 o3 ≡ drop 12 o2 → drop 16 o4 ≡ drop 16 o3
    → drop 20 o5 ≡ drop 20 o4 → drop 24 o6 ≡ drop 24 o5 → drop 25 o7 ≡ drop 25 o6 → drop 42 o8 ≡ drop 42 o7 → drop 107 o9 ≡ drop 107 o8
    → sealed (take 124 o9) ≡ encode r
unfolding body encode
whole r o1 o2 o3 o4 o5 o6 o7 o8 o9 w1 w2 w3 w4 w5 w6 w7 w8 w9 r1 r2 r3 r4 r5 r6 r7 r8 r9 =
    let j = joined (le4 r.position) (le4 r.page) (le4 r.previous) (le4 r.other) (le4 r.other_previous) (le4 r.child) r.kind
    (field 16 r.key) (field 64 r.value) (replicate 17 0) in
    let front : take 107 o9 ++ replicate 17 0 ≡ body r = cc in
    let back : drop 107 o9 ≡ replicate 21 0 =
    r9 ∙ later 42 65 o8 o7 r8 ∙ later 25 82 o7 o6 r7 ∙ later 24 83 o6 o5 r6 ∙ later 20 87 o5 o4 r5 ∙ later 16 91 o4 o3 r4
    ∙ later 12 95 o3 o2 r3 ∙ later 8 99 o2 o1 r2 ∙ later 4 103 o1 (replicate 128 0) r1 in
    let split : take 107 (take 124 o9) ++ drop 107 (take 124 o9) ≡ take 124 o9 = take-append-drop 107 (take 124 o9) in
    let low : take 107 (take 124 o9) ≡ take 107 o9 = take-take 107 124 o9 (lit≤ tt) in
    let high : drop 107 (take 124 o9) ≡ replicate 17 0 = drop-take 107 17 o9 ∙ ap (take 17) back in
    ap sealed (sym split ∙ ap₂ (λ (x y : List ℕ). x ++ y) low high ∙ front)

-- the same fields are the same record; `cc` wants a function in place of the record
mk : ℕ → ℕ → ℕ → ℕ → ℕ → ℕ → ℕ → List ℕ → List ℕ → Raw
mk position kind page previous other other_previous child key value = raw position kind page previous other other_previous child key value

pub raw_same : (a b : Raw) → a.position ≡ b.position → a.page ≡ b.page → a.previous ≡ b.previous → a.other ≡ b.other
    → a.other_previous ≡ b.other_previous → a.child ≡ b.child → a.kind ≡ b.kind → a.key ≡ b.key → a.value ≡ b.value → a ≡ b
unfolding mk
raw_same a b e1 e2 e3 e4 e5 e6 e7 e8 e9 =
    let h : mk a.position a.kind a.page a.previous a.other a.other_previous a.child a.key a.value
    ≡ mk b.position b.kind b.page b.previous b.other b.other_previous b.child b.key b.value = cc in h

-- the fields of a content, one by one
pub by-fields : (position : ℕ) (c : Content) → raw position (raw_of 0 c).kind (page_in c).0 (page_in c).1 (unwrap_or (other_in c) (0, 0)).0
    (unwrap_or (other_in c) (0, 0)).1 (raw_of 0 c).child (raw_of 0 c).key (raw_of 0 c).value ≡ raw_of position c
by-fields position format = refl
by-fields position (put page previous key value) = refl
by-fields position (remove page previous key) = refl
by-fields position (foster page previous other key) = refl
by-fields position (adopt page previous other other_previous child key) = refl
by-fields position (grow previous other) = refl
