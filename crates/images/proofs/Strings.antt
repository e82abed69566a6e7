-- Keys and values are read back from their own bytes, and only from those.
use Rattle.std.proofs.Common.{◌≡◌, ℕ, zero, suc, ◌<◌, ◌≤◌, Bool, true, false, ltb, List, [], ◌∷◌, length, Some, None, Option, sym, refl, ap, ◌∙◌, subst, arith}
use mathlib.Core.Bool.{Bool-set}
use mathlib.Core.HLevel.{is_prop→PathP}
use Rattle.std.proofs.lemmas.Bool.{and_parts}
use Rattle.images.specs.Keys.{Key, Value, is_short, opt, fence_if, fence_of, key_of, value_if, value_of}

pub same_key : (j k : Key) → j.bytes ≡ k.bytes → j ≡ k
same_key j k e = λ i. record {
  bytes = e i;
  short = is_prop→PathP (λ m. is_short 256 16 (e m) ≡ true) (λ m. Bool-set (is_short 256 16 (e m)) true) j.short k.short i;
}

same-value : (j k : Value) → j.bytes ≡ k.bytes → j ≡ k
same-value j k e = λ i. record {
  bytes = e i;
  short = is_prop→PathP (λ m. is_short 256 64 (e m) ≡ true) (λ m. Bool-set (is_short 256 64 (e m)) true) j.short k.short i;
}

short-length : (b n : ℕ) (s : List ℕ) → is_short b n s ≡ true → length s ≤ n
short-length b n [] h = omega arith
short-length b zero (c ∷ s) h = let z : ◌≡◌ {A = ℕ} 0 1 = cc in absurd (omega arith)
short-length b (suc n) (c ∷ s) h = let t = short-length b n s (and_parts (ltb c b) (is_short b n s) h).1 in omega arith

pub key_length : (k : Key) → length k.bytes ≤ 16
key_length k = short-length 256 16 k.bytes k.short

pub value_length : (v : Value) → length v.bytes ≤ 64
value_length v = short-length 256 64 v.bytes v.short

pub opt-some : {A B : Type 0} (o : Option A) (a : A) (f : A → Option B) (r : Option B) → o ≡ Some a → f a ≡ r → opt o f ≡ r
opt-some o a f r e g = ap (λ y. opt y f) e ∙ g

pub opt-parts : {A B : Type 0} (o : Option A) (f : A → Option B) (b : B) → opt o f ≡ Some b → (a : A) × (o ≡ Some a) × (f a ≡ Some b)
opt-parts None f b e = let z : ◌≡◌ {A = ℕ} 0 1 = cc in absurd (omega arith)
opt-parts (Some a) f b e = (a, refl, e)

pub fence_back : (k : Key) → fence_of k.bytes ≡ Some k
unfolding fence_of fence_if
fence_back k = go (is_short 256 16 k.bytes) refl k.short
  where
    go : (t : Bool) (e : is_short 256 16 k.bytes ≡ t) → t ≡ true → fence_if k.bytes t e ≡ Some k
    go true e h = ap {B = Option Key} (λ (j : Key). Some j) (same_key (record { bytes = k.bytes; short = e }) k refl)
    go false e h = let z : ◌≡◌ {A = ℕ} 0 1 = cc in absurd (omega arith)

pub value_back : (v : Value) → value_of v.bytes ≡ Some v
unfolding value_of value_if
value_back v = go (is_short 256 64 v.bytes) refl v.short
  where
    go : (t : Bool) (e : is_short 256 64 v.bytes ≡ t) → t ≡ true → value_if v.bytes t e ≡ Some v
    go true e h = ap {B = Option Value} (λ (j : Value). Some j) (same-value (record { bytes = v.bytes; short = e }) v refl)
    go false e h = let z : ◌≡◌ {A = ℕ} 0 1 = cc in absurd (omega arith)

pub key_back : (k : Key) → 0 < length k.bytes → key_of k.bytes ≡ Some k
unfolding key_of
key_back k h = go k.bytes refl
  where
    go : (s : List ℕ) → k.bytes ≡ s → key_of s ≡ Some k
    go [] e = let z : length k.bytes ≡ 0 = ap (λ (s : List ℕ). length s) e in absurd (omega arith)
    go (c ∷ s) e = subst (λ (s : List ℕ). fence_of s ≡ Some k) e (fence_back k)

pub fence_bytes : (s : List ℕ) (k : Key) → fence_of s ≡ Some k → k.bytes ≡ s
unfolding fence_of fence_if
fence_bytes s k = go (is_short 256 16 s) refl
  where
    go : (t : Bool) (e : is_short 256 16 s ≡ t) → fence_if s t e ≡ Some k → k.bytes ≡ s
    go true e h = let z : record { bytes = s; short = e } ≡ k = cc in ap (λ (j : Key). j.bytes) (sym z)
    go false e h = let z : ◌≡◌ {A = ℕ} 0 1 = cc in absurd (omega arith)

pub key_of_bytes : (s : List ℕ) (k : Key) → key_of s ≡ Some k → k.bytes ≡ s
unfolding key_of
key_of_bytes [] k h = let z : ◌≡◌ {A = ℕ} 0 1 = cc in absurd (omega arith)
key_of_bytes (c ∷ s) k h = fence_bytes (c ∷ s) k h

pub value_of_bytes : (s : List ℕ) (v : Value) → value_of s ≡ Some v → v.bytes ≡ s
unfolding value_of value_if
value_of_bytes s v = go (is_short 256 64 s) refl
  where
    go : (t : Bool) (e : is_short 256 64 s ≡ t) → value_if s t e ≡ Some v → v.bytes ≡ s
    go true e h = let z : record { bytes = s; short = e } ≡ v = cc in ap (λ (j : Value). j.bytes) (sym z)
    go false e h = let z : ◌≡◌ {A = ℕ} 0 1 = cc in absurd (omega arith)
