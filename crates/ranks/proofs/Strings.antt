-- Every key, in one list. Assumes nothing.
use Rattle.std.proofs.Common.{◌≡◌, ℕ, zero, suc, ◌<◌, ◌≤◌, true, ltb, List, [], ◌∷◌, ◌++◌, map, length, sym, refl, ap, subst, inl, inr, arith}
use Rattle.std.proofs.lemmas.Bool.{cases_eq, lt-ltb, and_parts, ltb-true}
use Rattle.ranks.specs.Ranks.{is_short}
use Rattle.ranks.proofs.Tally.{In, All}

in_left : {A : Type 0} (x : A) (xs ys : List A) → In x xs → In x (xs ++ ys)
in_left x [] ys h = absurd h
in_left x (y ∷ xs) ys (inl e) = inl e
in_left x (y ∷ xs) ys (inr h) = inr (in_left x xs ys h)

in_right : {A : Type 0} (x : A) (xs ys : List A) → In x ys → In x (xs ++ ys)
in_right x [] ys h = h
in_right x (y ∷ xs) ys h = inr (in_right x xs ys h)

in_map : {A B : Type 0} (f : A → B) (x : A) (xs : List A) → In x xs → In (f x) (map f xs)
in_map f x [] h = absurd h
in_map f x (y ∷ xs) (inl e) = inl (ap f e)
in_map f x (y ∷ xs) (inr h) = inr (in_map f x xs h)

all_append : {A : Type 0} (P : A → Type 0) (xs ys : List A) → All P xs → All P ys → All P (xs ++ ys)
all_append P [] ys h k = k
all_append P (x ∷ xs) ys h k = (h.0, all_append P xs ys h.1 k)

all_map : {A B : Type 0} (f : A → B) (P : A → Type 0) (Q : B → Type 0) → ((x : A) → P x → Q (f x)) → (xs : List A) → All P xs → All Q (map f xs)
all_map f P Q g [] h = tt
all_map f P Q g (x ∷ xs) h = (g x h.0, all_map f P Q g xs h.1)

-- each string with each number below b put before it
extend : ℕ → List (List ℕ) → List (List ℕ)
extend zero ss = []
extend (suc b) ss = map (λ s. b ∷ s) ss ++ extend b ss

strings : ℕ → ℕ → List (List ℕ)
strings b zero = [] ∷ []
strings b (suc n) = [] ∷ extend b (strings b n)

in-extend : (b c : ℕ) (s : List ℕ) (ss : List (List ℕ)) → c < b → In s ss → In (c ∷ s) (extend b ss)
unfolding extend
in-extend zero c s ss h i = absurd (omega arith)
in-extend (suc b) c s ss h i = elim (cases_eq c b) [
  | inl e ↦ in_left (c ∷ s) (map (λ t. b ∷ t) ss) (extend b ss) (subst (λ d. In (d ∷ s) (map (λ t. b ∷ t) ss)) (sym e) (in_map (λ t. b ∷ t) s ss i))
  | inr e ↦ in_right (c ∷ s) (map (λ t. b ∷ t) ss) (extend b ss) (in-extend b c s ss (omega arith) i)
]

in-strings : (b n : ℕ) (s : List ℕ) → is_short b n s ≡ true → In s (strings b n)
unfolding strings
in-strings b zero [] h = inl refl
in-strings b zero (c ∷ s) h = let z : ◌≡◌ {A = ℕ} 0 1 = cc in absurd (omega arith)
in-strings b (suc n) [] h = inl refl
in-strings b (suc n) (c ∷ s) h =
    let g = and_parts (ltb c b) (is_short b n s) h in
    inr (in-extend b c s (strings b n) (ltb-true c b g.0) (in-strings b n s g.1))

short-extend : (b d n : ℕ) (ss : List (List ℕ)) → d ≤ b → All (λ s. is_short b n s ≡ true) ss → All (λ s. is_short b (suc n) s ≡ true) (extend d ss)
unfolding extend
short-extend b zero n ss l h = tt
short-extend b (suc d) n ss l h =
    all_append (λ s. is_short b (suc n) s ≡ true) (map (λ s. d ∷ s) ss) (extend d ss)
    (all_map (λ s. d ∷ s) (λ s. is_short b n s ≡ true) (λ s. is_short b (suc n) s ≡ true) (λ s g. let t = lt-ltb d b (omega arith) in cc) ss h)
    (short-extend b d n ss (omega arith) h)

short-strings : (b n : ℕ) → All (λ s. is_short b n s ≡ true) (strings b n)
unfolding strings
short-strings b zero = (refl, tt)
short-strings b (suc n) = (refl, short-extend b b n (strings b n) (omega arith) (short-strings b n))

short-length : (b n : ℕ) (s : List ℕ) → is_short b n s ≡ true → length s ≤ n
short-length b n [] h = omega arith
short-length b zero (c ∷ s) h = let z : ◌≡◌ {A = ℕ} 0 1 = cc in absurd (omega arith)
short-length b (suc n) (c ∷ s) h = let more = short-length b n s (and_parts (ltb c b) (is_short b n s) h).1 in omega arith

pub all-keys : List (List ℕ)
all-keys = strings 256 16

pub in_all : (s : List ℕ) → is_short 256 16 s ≡ true → In s all-keys
unfolding all-keys
in_all = in-strings 256 16

pub all_short : All (λ s. is_short 256 16 s ≡ true) all-keys
unfolding all-keys
all_short = short-strings 256 16

pub key_length : (s : List ℕ) → is_short 256 16 s ≡ true → length s ≤ 16
key_length = short-length 256 16
