-- The seal of an image passes, since its body is of bytes.
use Rattle.std.proofs.Common.{◌≡◌, ℕ, zero, suc, ◌-◌, ◌/◌, ◌%◌, ◌<◌, ◌≤◌, true, List, [], ◌∷◌, ◌++◌, length, replicate, mod-lt, arith, pow_pos}
use Rattle.field.specs.Fields.{field}
use Rattle.seal.specs.Laws.{Bytes}
use Rattle.seal.specs.Seal.{le4, is_sealed}
use Rattle.seal.proofs.Seals.{sealed_passes}
use Rattle.record.specs.Layout.{Raw, body, encode}

-- a record, so that antt reads the list off it
record InBytes (xs : List ℕ) : Type 0 where
  at : Bytes xs

none : InBytes []
none = record { at = λ i. omega arith }

one : (x : ℕ) {xs : List ℕ} → x < 256 → InBytes xs → InBytes (x ∷ xs)
one x {xs} h w = record { at = place }
  where
    place : Bytes (x ∷ xs)
    place zero = h
    place (suc i) = w.at i

append-bytes : (xs ys : List ℕ) → Bytes xs → Bytes ys → Bytes (xs ++ ys)
append-bytes [] ys w v i = v i
append-bytes (x ∷ xs) ys w v zero = w 0
append-bytes (x ∷ xs) ys w v (suc i) = append-bytes xs ys (λ j. w (suc j)) v i

both : {xs ys : List ℕ} → InBytes xs → InBytes ys → InBytes (xs ++ ys)
both {xs} {ys} w v = record { at = append-bytes xs ys w.at v.at }

zeros : (n : ℕ) → InBytes (replicate n 0)
zeros zero = none
zeros (suc n) = one 0 (omega arith) (zeros n)

number : (n : ℕ) → InBytes (le4 n)
number n =
    one (n % 256) (mod-lt n (pow_pos 8)) (one (n / 256 % 256) (mod-lt (n / 256) (pow_pos 8))
    (one (n / 65536 % 256) (mod-lt (n / 65536) (pow_pos 8)) (one (n / 16777216 % 256) (mod-lt (n / 16777216) (pow_pos 8)) none)))

string : (n : ℕ) (s : List ℕ) → length s < 256 → Bytes s → InBytes (field n s)
unfolding field
string n s h w = one (length s) h (both {xs = s} (record { at = w }) (zeros (n - length s)))

pub image-passes : (r : Raw) → r.kind < 256 → length r.key ≤ 16 → length r.value ≤ 64 → Bytes r.key → Bytes r.value
    → is_sealed (encode r) ≡ true
unfolding body encode
image-passes r h k v kb vb =
    let w : InBytes (body r) =
    both (number r.position) (both (number r.page) (both (number r.previous) (both (number r.other) (both (number r.other_previous)
    (both (number r.child) (one r.kind h (both (string 16 r.key (omega arith) kb) (both (string 64 r.value (omega arith) vb) (zeros 17))))))))) in
    sealed_passes (body r) w.at
