-- The laws of the two orders. Assumes nothing.
use Rattle.std.specs.Prelude.{◌≡◌, ℕ, List, [], ◌∷◌, ◌≢◌, refl}
use Rattle.std.specs.declared.cmp.Ordering.TheVariants.{Less, Equal, Greater}
use Rattle.std.proofs.Common.{arith}
use Rattle.std.proofs.lemmas.Bool.Decides.{nat_tests}
use Rattle.order.specs.Orders.{by_byte, by_length}
use Rattle.order.specs.Lawful.{Lawful}

byte_same : (a b : List ℕ) → by_byte a b ≡ Equal → a ≡ b
byte_same [] [] h = refl
byte_same [] (y ∷ ys) h = cc
byte_same (x ∷ xs) [] h = cc
byte_same (x ∷ xs) (y ∷ ys) h = let more : by_byte xs ys ≡ Equal → xs ≡ ys = byte_same xs ys in grind (arith, nat_tests)

byte_itself : (a : List ℕ) → by_byte a a ≡ Equal
byte_itself [] = refl
byte_itself (x ∷ xs) = let more = byte_itself xs in grind (arith, nat_tests)

byte_turned : (a b : List ℕ) → (by_byte a b ≡ Less → by_byte b a ≡ Greater) × (by_byte b a ≡ Greater → by_byte a b ≡ Less)
byte_turned [] [] = (λ h. cc, λ h. cc)
byte_turned [] (y ∷ ys) = (λ h. refl, λ h. refl)
byte_turned (x ∷ xs) [] = (λ h. cc, λ h. cc)
byte_turned (x ∷ xs) (y ∷ ys) =
    let more = byte_turned xs ys in
    let there : by_byte xs ys ≡ Less → by_byte ys xs ≡ Greater = more.0 in
    let back : by_byte ys xs ≡ Greater → by_byte xs ys ≡ Less = more.1 in
    (λ h. grind (arith, nat_tests), λ h. grind (arith, nat_tests))

byte_chain : (a b d : List ℕ) → by_byte a b ≡ Less → by_byte b d ≡ Less → by_byte a d ≡ Less
byte_chain [] [] d h k = k
byte_chain [] (y ∷ ys) [] h k = cc
byte_chain [] (y ∷ ys) (z ∷ zs) h k = refl
byte_chain (x ∷ xs) [] d h k = cc
byte_chain (x ∷ xs) (y ∷ ys) [] h k = k
byte_chain (x ∷ xs) (y ∷ ys) (z ∷ zs) h k =
    let more : by_byte xs ys ≡ Less → by_byte ys zs ≡ Less → by_byte xs zs ≡ Less = byte_chain xs ys zs in grind (arith, nat_tests)

byte_least : (a : List ℕ) → by_byte a [] ≢ Less
byte_least [] h = let z : ◌≡◌ {A = ℕ} 0 1 = cc in omega arith
byte_least (x ∷ xs) h = let z : ◌≡◌ {A = ℕ} 0 1 = cc in omega arith

pub byte_lawful : Lawful by_byte
byte_lawful = record {
  same = λ a b _ _. byte_same a b;
  itself = λ a _. byte_itself a;
  turned = λ a b _ _. byte_turned a b;
  chain = λ a b d _ _ _. byte_chain a b d;
  least = λ a _. byte_least a;
}

length-same : (a b : List ℕ) → by_length a b ≡ Equal → a ≡ b
length-same a b h = let more : by_byte a b ≡ Equal → a ≡ b = byte_same a b in grind (arith, nat_tests)

length-itself : (a : List ℕ) → by_length a a ≡ Equal
length-itself a = let more = byte_itself a in grind (arith, nat_tests)

length-turned : (a b : List ℕ) → (by_length a b ≡ Less → by_length b a ≡ Greater) × (by_length b a ≡ Greater → by_length a b ≡ Less)
length-turned a b =
    let there : by_byte a b ≡ Less → by_byte b a ≡ Greater = (byte_turned a b).0 in
    let back : by_byte b a ≡ Greater → by_byte a b ≡ Less = (byte_turned a b).1 in
    (λ h. grind (arith, nat_tests), λ h. grind (arith, nat_tests))

length-chain : (a b d : List ℕ) → by_length a b ≡ Less → by_length b d ≡ Less → by_length a d ≡ Less
length-chain a b d h k = let more : by_byte a b ≡ Less → by_byte b d ≡ Less → by_byte a d ≡ Less = byte_chain a b d in grind (arith, nat_tests)

length-least : (a : List ℕ) → by_length a [] ≢ Less
length-least [] h = let z : ◌≡◌ {A = ℕ} 0 1 = cc in omega arith
length-least (x ∷ xs) h = let z : ◌≡◌ {A = ℕ} 0 1 = grind (arith, nat_tests) in omega arith

pub length_lawful : Lawful by_length
length_lawful = record {
  same = λ a b _ _. length-same a b;
  itself = λ a _. length-itself a;
  turned = λ a b _ _. length-turned a b;
  chain = λ a b d _ _ _. length-chain a b d;
  least = λ a _. length-least a;
}
