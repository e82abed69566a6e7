-- A shaped image's page is sealed. The level may be more than a byte, but no more than the register of the CRC.
use Rattle.std.proofs.Common.{◌≡◌, ℕ, zero, suc, ◌+◌, ◌-◌, ◌/◌, ◌%◌, ◌^◌, ◌<◌, ◌≤◌, true, ltb, List, [], ◌∷◌, ◌++◌, length, take, drop, replicate, Some, None, Option, sym, refl, ap, ◌∙◌, arith}
use lib.Bits.{bit_xor, xor_lt}
use Rattle.std.proofs.lemmas.List.{length-append, take_at, drop_at}
use Rattle.std.proofs.lemmas.Bool.{and_parts, and_from, ltb-true, le-leb, eq-eqb}
use Rattle.ranks.specs.Lists.{All}
use Rattle.seal.specs.Crc.{steps, byte_step, run, crc}
use Rattle.seal.specs.Seal.{le4, number4, sealed, seal_of, body_of, is_sealed}
use Rattle.seal.proofs.Seals.{steps-lt, number_back}
use Rattle.field.specs.Fields.{le2, prefixed, field}
use Rattle.page.specs.Content.{foster_key, foster_child}
use Rattle.page.specs.Image.{entry_bytes, slots, heap, bound_field, header, page_body, encode_page}
use Rattle.tree.specs.Tree.{Image}
use Rattle.images.specs.Keys.{Key, Value, is_short}
use Rattle.images.specs.Images.{bound_of, foster_of, leaves, branches, entries_of, content_of, encode_image}
use Rattle.images.proofs.Strings.{key_length, value_length}

-- numbers of 32 bits; a record, so that antt reads the list off it
record Words (xs : List ℕ) : Type 0 where
  all : All (λ (x : ℕ). x < 2 ^ 32) xs

none : Words []
none = record { all = tt }

one : (x : ℕ) {xs : List ℕ} → x < 2 ^ 32 → Words xs → Words (x ∷ xs)
one x h w = record { all = (h, w.all) }

both : {xs ys : List ℕ} → Words xs → Words ys → Words (xs ++ ys)
both {xs} {ys} w v = record { all = go xs w.all }
  where
    go : (zs : List ℕ) → All (λ (x : ℕ). x < 2 ^ 32) zs → All (λ (x : ℕ). x < 2 ^ 32) (zs ++ ys)
    go [] h = v.all
    go (z ∷ zs) h = (h.0, go zs h.1)

zeros : (n : ℕ) → Words (replicate n 0)
zeros zero = none
zeros (suc n) = one 0 (omega arith) (zeros n)

number : (n : ℕ) → Words (le4 n)
number n =
    one (n % 256) (omega arith) (one (n / 256 % 256) (omega arith) (one (n / 65536 % 256) (omega arith) (one (n / 16777216 % 256) (omega arith) none)))

half : (n : ℕ) → Words (le2 n)
unfolding le2
half n = one (n % 256) (omega arith) (one (n / 256 % 256) (omega arith) none)

short_words : (n : ℕ) (s : List ℕ) → is_short 256 n s ≡ true → Words s
short_words n [] h = none
short_words zero (c ∷ s) h = let z : ◌≡◌ {A = ℕ} 0 1 = cc in absurd (omega arith)
short_words (suc n) (c ∷ s) h =
    let t = and_parts (ltb c 256) (is_short 256 n s) h in
    let b = ltb-true c 256 t.0 in
    one c (omega arith) (short_words n s t.1)

key_words : (k : Key) → Words k.bytes
key_words k = short_words 16 k.bytes k.short

field_words : (s : List ℕ) → length s ≤ 16 → Words s → Words (field 16 s)
unfolding field
field_words s h w = one (length s) (omega arith) (both w (zeros (16 - length s)))

prefixed_words : (s : List ℕ) → length s ≤ 64 → Words s → Words (prefixed s)
unfolding prefixed
prefixed_words s h w = one (length s) (omega arith) w

bound_words : (h : Option Key) → Words (bound_field (bound_of h))
unfolding bound_field
bound_words None = one 255 (omega arith) (zeros 16)
bound_words (Some k) = field_words k.bytes (key_length k) (key_words k)

foster_words : (f : Option (Key × ℕ)) → Words (field 16 (foster_key (foster_of f)))
unfolding foster_key
foster_words None = field_words [] (omega arith) none
foster_words (Some f) = field_words f.0.bytes (key_length f.0) (key_words f.0)

slots_words : (at : List ℕ) → Words (slots at)
unfolding slots
slots_words [] = none
slots_words (a ∷ at) = both (half a) (slots_words at)

leaves_words : (es : List (Key × Value)) (behind : List ℕ) → Words behind → Words (heap (leaves es) behind)
unfolding heap leaves entry_bytes
leaves_words [] behind w = w
leaves_words (e ∷ es) behind w =
    let k = key_length e.0 in
    leaves_words es _
    (both (both (prefixed_words e.0.bytes (omega arith) (key_words e.0))
    (prefixed_words e.1.bytes (value_length e.1) (short_words 64 e.1.bytes e.1.short))) w)

branches_words : (es : List (Key × ℕ)) (behind : List ℕ) → Words behind → Words (heap (branches es) behind)
unfolding heap branches entry_bytes
branches_words [] behind w = w
branches_words (e ∷ es) behind w =
    let k = key_length e.0 in
    branches_words es _ (both (both (prefixed_words e.0.bytes (omega arith) (key_words e.0)) (number e.1)) w)

entries_words : (l : ℕ) (x : Image Key Value) → Words (heap (entries_of l x) [])
entries_words zero x = leaves_words x.pairs [] none
entries_words (suc l) x = branches_words x.frame.kids [] none

header_words : (p n start : ℕ) (x : Image Key Value) → x.frame.level < 2 ^ 32 → Words (header (content_of p n x) start)
unfolding header content_of
header_words p n start x h =
    both (number p) (both (number n) (one x.frame.level h (one 0 (omega arith) (both (half (length (entries_of x.frame.level x)))
    (both (number (foster_child (foster_of x.frame.foster))) (both (half start) (one 0 (omega arith) (one 0 (omega arith)
    (both (field_words x.frame.low.bytes (key_length x.frame.low) (key_words x.frame.low)) (both (bound_words x.frame.high)
    (both (foster_words x.frame.foster) (one 0 (omega arith) none))))))))))))

body_words : (p n : ℕ) (x : Image Key Value) → x.frame.level < 2 ^ 32 → Words (page_body (content_of p n x))
unfolding page_body content_of
body_words p n x h =
    both (header_words p n _ x h) (both (slots_words _) (both (zeros _) (entries_words x.frame.level x)))

run-lt : (c : ℕ) (xs : List ℕ) → c < 2 ^ 32 → All (λ (x : ℕ). x < 2 ^ 32) xs → run c xs < 2 ^ 32
unfolding run byte_step
run-lt c [] h w = h
run-lt c (x ∷ xs) h w = run-lt (steps 8 (bit_xor c x)) xs (steps-lt 8 (bit_xor c x) (xor_lt 32 c x h w.0)) w.1

crc-lt : (xs : List ℕ) → Words xs → crc xs < 2 ^ 32
crc-lt xs w = xor_lt 32 (run 0xFFFFFFFF xs) 0xFFFFFFFF (run-lt 0xFFFFFFFF xs (omega arith) w.all) (omega arith)

seal-passes : (body : List ℕ) → crc body < 2 ^ 32 → is_sealed (sealed body) ≡ true
seal-passes body h =
    let block : List ℕ = sealed body in
    let size : length block ≡ length body + 4 = length-append body (le4 (crc body)) in
    let cut : length block - 4 ≡ length body = omega arith in
    let front : body_of block ≡ body = ap (λ (k : ℕ). take k block) cut ∙ take_at body (le4 (crc body)) (length body) refl in
    let back : seal_of block ≡ le4 (crc body) = ap (λ (k : ℕ). drop k block) cut ∙ drop_at body (le4 (crc body)) (length body) refl in
    and_from _ _ (le-leb 4 (length block) (omega arith))
    (eq-eqb (number4 (seal_of block)) (crc (body_of block)) (ap number4 back ∙ number_back (crc body) h ∙ sym (ap crc front)))

pub page-sealed : (p n : ℕ) (x : Image Key Value) → x.frame.level < 2 ^ 32 → is_sealed (encode_image p n x) ≡ true
unfolding encode_image encode_page
page-sealed p n x h = seal-passes (page_body (content_of p n x)) (crc-lt (page_body (content_of p n x)) (body_words p n x h))
