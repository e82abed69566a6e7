-- A page of bytes that fails none of its checks has an image, and only such a page has one.
use Rattle.std.proofs.Common.{◌≡◌, ℕ, zero, suc, ◌+◌, ◌<◌, ◌≤◌, Bool, true, false, cond, eqb, ltb, leb, List, [], ◌∷◌, length, get_or, take, drop, Some, None, Option, sym, refl, ap, ◌∙◌, arith}
use Rattle.std.proofs.lemmas.Bool.{and_parts, and_from, leb-true, lt-ltb}
use Rattle.seal.specs.Seal.{is_sealed}
use Rattle.field.specs.Fields.{word, half, field_at}
use Rattle.page.specs.Content.{Content}
use Rattle.page.specs.Image.{front, after, entry_of, entries_at, bound_at, foster_of, parse_page}
use Rattle.page.specs.Form.{is_child, is_entry, are_entries, is_foster, is_form, is_laid, is_sound, decode_page}
use Rattle.page.specs.Form.{is_short as is_bound}
use Rattle.order.specs.Lawful.{Says}
use Rattle.device.specs.Disk.{holds, unreadable}
use Rattle.tree.specs.Tree.{Image}
use Rattle.tree.specs.Worlds.{passes}
use Rattle.images.specs.Keys.{Key, Value, is_short, fence_of, key_of, value_of}
use Rattle.images.specs.Images.{bound_in, foster_in, pairs_in, kids_in, entries_in, image_in, stored_as, stored_in, stored_page}
use Rattle.images.specs.Checks.{first_check, APagePassesExactlyIfNoCheckFails}
use Rattle.images.proofs.Strings.{opt-some, fence_back, key_back, value_back}

-- a row of bytes; a record, so that antt reads the list off it
record Bytes (s : List ℕ) : Type 0 where
  below : (i : ℕ) → get_or s i 0 < 256

tail-bytes : (x : ℕ) (s : List ℕ) → Bytes (x ∷ s) → Bytes s
tail-bytes x s h = record { below = λ i. h.below (suc i) }

drop-bytes : (n : ℕ) (s : List ℕ) → Bytes s → Bytes (drop n s)
drop-bytes zero s h = h
drop-bytes (suc n) [] h = h
drop-bytes (suc n) (x ∷ s) h = drop-bytes n s (tail-bytes x s h)

take-bytes : (n : ℕ) (s : List ℕ) → Bytes s → Bytes (take n s)
take-bytes n s h = record { below = go n s h }
  where
    go : (n : ℕ) (s : List ℕ) → Bytes s → (i : ℕ) → get_or (take n s) i 0 < 256
    go zero s h i = omega arith
    go (suc n) [] h i = omega arith
    go (suc n) (x ∷ s) h zero = h.below 0
    go (suc n) (x ∷ s) h (suc i) = go n s (tail-bytes x s h) i

front_bytes : (s : List ℕ) → Bytes s → Bytes (front s)
unfolding front
front_bytes [] h = h
front_bytes (n ∷ s) h = take-bytes n s (tail-bytes n s h)

after-bytes : (s : List ℕ) → Bytes s → Bytes (after s)
unfolding after
after-bytes [] h = h
after-bytes (n ∷ s) h = drop-bytes n s (tail-bytes n s h)

field-bytes : (b : List ℕ) (i : ℕ) → Bytes b → Bytes (field_at b i)
unfolding field_at
field-bytes b i h = take-bytes (get_or b i 0) (drop (i + 1) b) (drop-bytes (i + 1) b h)

short-bytes : (n : ℕ) (s : List ℕ) → Bytes s → length s ≤ n → is_short 256 n s ≡ true
short-bytes n [] h l = refl
short-bytes zero (c ∷ s) h l = absurd (omega arith)
short-bytes (suc n) (c ∷ s) h l = and_from (ltb c 256) (is_short 256 n s) (lt-ltb c 256 (h.below 0)) (short-bytes n s (tail-bytes c s h) (omega arith))

-- Keys and values of the right lengths.

fence_some : (s : List ℕ) → Bytes s → leb (length s) 16 ≡ true → (k : Key) × (fence_of s ≡ Some k)
fence_some s h l =
    let k : Key = record { bytes = s; short = short-bytes 16 s h (leb-true (length s) 16 l) } in
    (k, fence_back k)

key-some : (s : List ℕ) → Bytes s → leb 1 (length s) ≡ true → leb (length s) 16 ≡ true → (k : Key) × (key_of s ≡ Some k)
key-some s h m l =
    let k : Key = record { bytes = s; short = short-bytes 16 s h (leb-true (length s) 16 l) } in
    (k, key_back k (leb-true 1 (length s) m))

value-some : (s : List ℕ) → Bytes s → leb (length s) 64 ≡ true → (v : Value) × (value_of s ≡ Some v)
value-some s h l =
    let v : Value = record { bytes = s; short = short-bytes 64 s h (leb-true (length s) 64 l) } in
    (v, value_back v)

-- The parts of a page.

bound_some : (t : Bool) (s : List ℕ) → Bytes s → is_bound (cond t None (Some s)) ≡ true → (y : Option Key) × (bound_in (cond t None (Some s)) ≡ Some y)
unfolding is_bound bound_in
bound_some true s h e = (None, refl)
bound_some false s h e = let k = fence_some s h e in (Some k.0, opt-some _ k.0 _ _ k.1 refl)

foster-some : (own : ℕ) (s : List ℕ) (child : ℕ) → Bytes s → is_foster own (foster_of s child) ≡ true → (y : Option (Key × ℕ)) × (foster_in (foster_of s child) ≡ Some y)
unfolding is_foster foster_in foster_of
foster-some own s child h = go (eqb child 0)
  where
    go : (t : Bool) → is_foster own (cond t None (Some (record { key = s; child = child }))) ≡ true
        → (y : Option (Key × ℕ)) × (foster_in (cond t None (Some (record { key = s; child = child }))) ≡ Some y)
    go true e = (None, refl)
    go false e =
        let k = fence_some s h (and_parts (leb (length s) 16) (is_child own child) e).0 in
        (Some (k.0, child), opt-some _ k.0 _ _ k.1 refl)

pairs-some : (own n : ℕ) (b : List ℕ) (slot : ℕ) → Bytes b → are_entries own (entries_at n 0 b slot) ≡ true
    → (es : List (Key × Value)) × (pairs_in (entries_at n 0 b slot) ≡ Some es)
unfolding entries_at entry_of are_entries is_entry pairs_in
pairs-some own zero b slot h e = ([], refl)
pairs-some own (suc n) b slot h e =
    let d : List ℕ = drop (half b slot) b in
    let i : Bytes d = drop-bytes (half b slot) b h in
    let one = and_parts (is_entry own (entry_of 0 d)) (are_entries own (entries_at n 0 b (slot + 2))) e in
    let k = and_parts (leb 1 (length (front d))) _ one.0 in
    let l = and_parts (leb (length (front d)) 16) (leb (length (front (after d))) 64) k.1 in
    let key = key-some (front d) (front_bytes d i) k.0 l.0 in
    let value = value-some (front (after d)) (front_bytes (after d) (after-bytes d i)) l.1 in
    let rest = pairs-some own n b (slot + 2) h one.1 in
    ((key.0, value.0) ∷ rest.0, opt-some _ key.0 _ _ key.1 (opt-some _ value.0 _ _ value.1 (opt-some _ rest.0 _ _ rest.1 refl)))

kids-some : (own l n : ℕ) (b : List ℕ) (slot : ℕ) → Bytes b → are_entries own (entries_at n (suc l) b slot) ≡ true
    → (es : List (Key × ℕ)) × (kids_in (entries_at n (suc l) b slot) ≡ Some es)
unfolding entries_at entry_of are_entries is_entry kids_in
kids-some own l zero b slot h e = ([], refl)
kids-some own l (suc n) b slot h e =
    let d : List ℕ = drop (half b slot) b in
    let i : Bytes d = drop-bytes (half b slot) b h in
    let one = and_parts (is_entry own (entry_of (suc l) d)) (are_entries own (entries_at n (suc l) b (slot + 2))) e in
    let k = and_parts (leb (length (front d)) 16) (is_child own (word (after d) 0)) one.0 in
    let key = fence_some (front d) (front_bytes d i) k.0 in
    let rest = kids-some own l n b (slot + 2) h one.1 in
    ((key.0, word (after d) 0) ∷ rest.0, opt-some _ key.0 _ _ key.1 (opt-some _ rest.0 _ _ rest.1 refl))

entries-some : (own l n : ℕ) (b : List ℕ) (slot : ℕ) → Bytes b → are_entries own (entries_at n l b slot) ≡ true
    → (y : List (Key × ℕ) × List (Key × Value)) × (entries_in l (entries_at n l b slot) ≡ Some y)
unfolding entries_in
entries-some own zero n b slot h e = let es = pairs-some own n b slot h e in (([], es.0), opt-some _ es.0 _ _ es.1 refl)
entries-some own (suc l) n b slot h e = let es = kids-some own l n b slot h e in ((es.0, []), opt-some _ es.0 _ _ es.1 refl)

-- what has the form of a page has an image
image-some : (b : List ℕ) → Bytes b → is_form (parse_page b) ≡ true → (x : Image Key Value) × (image_in (parse_page b) ≡ Some x)
unfolding is_form parse_page image_in bound_at
image-some b h e =
    let two = and_parts _ _ e in
    let fences = and_parts (leb (length (field_at b 20)) 16) _ two.0 in
    let more = and_parts (is_bound (bound_at b 37)) (is_foster (word b 0) (foster_of (field_at b 54) (word b 12))) fences.1 in
    let rows = and_parts _ _ (and_parts _ _ two.1).1 in
    let low = fence_some (field_at b 20) (field-bytes b 20 h) fences.0 in
    let high = bound_some (eqb (get_or b 37 0) 255) (field_at b 37) (field-bytes b 37 h) more.0 in
    let foster = foster-some (word b 0) (field_at b 54) (word b 12) (field-bytes b 54 h) more.1 in
    let es = entries-some (word b 0) (get_or b 8 0) (half b 10) b 72 h rows.0 in (
      record { frame = record { level = get_or b 8 0; low = low.0; high = high.0; foster = foster.0; kids = es.0.0 }; pairs = es.0.1 },
      opt-some _ low.0 _ _ low.1 (opt-some _ high.0 _ _ high.1 (opt-some _ foster.0 _ _ foster.1 (opt-some _ es.0 _ _ es.1 refl))),
    )

-- The checks over what they find: the seal, the number, the LSN and the form, and the image.

held_at : Option (Image Key Value) → Bool → Option (Image Key Value)
held_at None t = None
held_at (Some x) t = cond t (Some x) None

passed_by : (s o l f : Bool) → Option (Image Key Value) → Option (Image Key Value)
passed_by s o l f x = cond s (cond o (cond f (held_at x l) None) None) None

failed_by : (s o l f : Bool) → ℕ
failed_by s o l f = cond s (cond o (cond l (cond f 0 5) 4) 3) 2

no_image : {x : Image Key Value} → ◌≡◌ {A = Option (Image Key Value)} None (Some x) → ⊥
no_image e = let z : ◌≡◌ {A = ℕ} 0 1 = cc in omega arith

held-as : (n m : ℕ) (x : Option (Image Key Value)) → passes n (stored_as m x) ≡ held_at x (eqb m n)
unfolding stored_as held_at
held-as n m None = refl
held-as n m (Some x) = refl

passed-as : (n : ℕ) (s o f : Bool) (c : Content)
    → passes n (cond s (cond o (stored_in (cond f (Some c) None)) None) None) ≡ passed_by s o (eqb c.lsn n) f (image_in c)
unfolding stored_in passed_by
passed-as n true true true c = held-as n c.lsn (image_in c)
passed-as n true true false c = refl
passed-as n true false f c = refl
passed-as n false o f c = refl

none_fails : (s o l f : Bool) (y : Option (Image Key Value)) → (f ≡ true → (x : Image Key Value) × (y ≡ Some x)) → failed_by s o l f ≡ 0
    → (x : Image Key Value) × (passed_by s o l f y ≡ Some x)
unfolding failed_by passed_by held_at
none_fails true true true true y h e = let i = h refl in (i.0, ap (λ z. held_at z true) i.1)
none_fails true true true false y h e = absurd (omega arith)
none_fails true true false f y h e = absurd (omega arith)
none_fails true false l f y h e = absurd (omega arith)
none_fails false o l f y h e = absurd (omega arith)

one_passes : (s o l f : Bool) (y : Option (Image Key Value)) (x : Image Key Value) → passed_by s o l f y ≡ Some x → failed_by s o l f ≡ 0
unfolding failed_by passed_by held_at
one_passes true true true true y x e = refl
one_passes true true true false y x e = absurd (no_image e)
one_passes true true false true None x e = absurd (no_image e)
one_passes true true false true (Some z) x e = absurd (no_image e)
one_passes true true false false y x e = absurd (no_image e)
one_passes true false l f y x e = absurd (no_image e)
one_passes false o l f y x e = absurd (no_image e)

stored_passes : (says : Says) (p n : ℕ) (b : List ℕ)
    → passes n (stored_page says p (holds b)) ≡ passed_by (is_sealed b) (eqb (word b 0) p) (eqb (word b 4) n) (is_sound says b) (image_in (parse_page b))
unfolding stored_page decode_page parse_page
stored_passes says p n b = passed-as n (is_sealed b) (eqb (word b 0) p) (is_sound says b) (parse_page b)

pub a_page_passes_exactly_if_no_check_fails : APagePassesExactlyIfNoCheckFails
unfolding first_check failed_by stored_page is_sound is_laid
a_page_passes_exactly_if_no_check_fails says p n unreadable h = ((λ e. absurd (omega arith)), (λ x e. absurd (no_image e)))
a_page_passes_exactly_if_no_check_fails says p n (holds b) h =
    let image : is_sound says b ≡ true → (x : Image Key Value) × (image_in (parse_page b) ≡ Some x) =
    λ e. image-some b (record { below = h }) (and_parts _ _ (and_parts _ _ e).0).0 in
    let as' = stored_passes says p n b in (
      (λ e. let i = none_fails (is_sealed b) (eqb (word b 0) p) (eqb (word b 4) n) (is_sound says b) (image_in (parse_page b)) image e in (i.0, as' ∙ i.1)),
      (λ x e. one_passes (is_sealed b) (eqb (word b 0) p) (eqb (word b 4) n) (is_sound says b) (image_in (parse_page b)) x (sym as' ∙ e)),
    )
