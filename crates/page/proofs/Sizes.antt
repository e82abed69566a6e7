-- The tests of one entry, from its length bytes.
use Rattle.std.proofs.Common.{◌≡◌, ℕ, zero, suc, ◌+◌, ◌-◌, ◌<◌, ◌≤◌, min, Bool, true, false, cond, not, ◌&&◌, eqb, leb, List, ◌∷◌, length, get_or, take, drop, Ordering, Less, Equal, Greater, sym, refl, ap, ◌∙◌, ap₂, inl, inr, arith}
use Rattle.std.proofs.lemmas.List.{drop_more, drop-drop, length-append, length-take, length-take-le, length-drop}
use Rattle.std.proofs.lemmas.Bool.{and_parts, and_left, eqb-true, eq-eqb, ne_eqb, cases_eq}
use Rattle.field.specs.Fields.{word, field_at, prefixed}
use Rattle.seal.specs.Seal.{le4}
use Rattle.page.specs.Content.{Entry, entry_key}
use Rattle.page.specs.Content.Entry.{leaf, branch}
use Rattle.page.specs.Image.{entry_bytes, entry_of, front, after}
use Rattle.page.specs.Form.{is_child, is_entry, is_first}
use Rattle.page.specs.Walk.{ends_at, is_next}
use Rattle.page.proofs.Standing.{word-drop}

and_assoc : (x y z : Bool) → ((x && y) && z) ≡ (x && (y && z))
and_assoc true y z = refl
and_assoc false y z = refl

leaf-size : (k v : List ℕ) → length (entry_bytes (leaf k v)) ≡ 2 + length k + length v
unfolding entry_bytes prefixed
leaf-size k v = let a = length-append k (length v ∷ v) in omega arith

branch-size : (k : List ℕ) (c : ℕ) → length (entry_bytes (branch k c)) ≡ 5 + length k
unfolding entry_bytes prefixed
branch-size k c = let a = length-append k (le4 c) in omega arith

-- two bytes at least, beside the key
size-more : (level : ℕ) (d : List ℕ) → 2 + length (front d) ≤ length (entry_bytes (entry_of level d))
unfolding entry_of
size-more zero d = let s = leaf-size (front d) (front (after d)) in omega arith
size-more (suc l) d = let s = branch-size (front d) (word (after d) 0) in omega arith

level-suc : (P : ℕ → Type 0) → ((l : ℕ) → P (suc l)) → (level : ℕ) → (level ≡ 0 → ⊥) → P level
level-suc P f zero n = absurd (n refl)
level-suc P f (suc l) n = f l

and_four : (a b c d : Bool) → (((a && b) && c) && d) ≡ (a && (b && (c && d)))
and_four true b c d = and_assoc b c d
and_four false b c d = refl

-- the tests of a leaf's entry, over numbers
tests : ℕ → ℕ → ℕ → ℕ → Bool
tests end z k v = eqb z end && (leb 1 k && (leb k 16 && leb v 64))

unfold_tests : (end z k v : ℕ) → (eqb z end && (leb 1 k && (leb k 16 && leb v 64))) ≡ tests end z k v
unfolding tests
unfold_tests end z k v = refl

tests_no : (end z k v : ℕ) → (z ≡ end → ⊥) → tests end z k v ≡ false
unfolding tests
tests_no end z k v q = and_left _ _ (ne_eqb z end q)

leaf-tests : (own at end : ℕ) (k v : List ℕ) → tests end (at + length (entry_bytes (leaf k v))) (length k) (length v)
    ≡ (eqb (at + length (entry_bytes (leaf k v))) end && is_entry own (leaf k v))
unfolding tests is_entry
leaf-tests own at end k v = refl

module _ (b : List ℕ) (len : length b ≡ 512) (own at end n : ℕ) (within : end ≤ 508) where
  pub fits-short : (level : ℕ) → end < at + 2 → false ≡ ends_at b own level at end
  unfolding ends_at
  fits-short level h =
      let s = size-more level (drop at b) in
      sym (and_left _ _ (ne_eqb (at + length (entry_bytes (entry_of level (drop at b)))) end (λ e. omega arith)))

  module _ (n-is : n ≡ get_or b at 0) (starts : at + 2 ≤ end) where
    open_at : drop at b ≡ n ∷ drop (at + 1) b
    open_at = drop_more b at 0 (omega arith) ∙ ap (λ (x : ℕ). x ∷ drop (at + 1) b) (sym n-is)

    pub front_at : front (drop at b) ≡ take n (drop (at + 1) b)
    unfolding front
    front_at = ap front open_at

    after-at : after (drop at b) ≡ drop (at + 1 + n) b
    unfolding after
    after-at = ap after open_at ∙ drop-drop n (at + 1) b

    front_length : length (front (drop at b)) ≡ min n (511 - at)
    front_length =
        let l : length (drop (at + 1) b) ≡ 511 - at = length-drop (at + 1) b ∙ omega arith in
        ap length front_at ∙ length-take n (drop (at + 1) b) ∙ ap (min n) l

    pub fits-long : (level : ℕ) → end ≤ at + 1 + n → false ≡ ends_at b own level at end
    unfolding ends_at
    fits-long level h =
        let s = size-more level (drop at b) in
        let f = front_length in
        sym (and_left _ _ (ne_eqb (at + length (entry_bytes (entry_of level (drop at b)))) end (λ e. omega arith)))

    module _ (inside : at + 1 + n < end) where
      pub key-length : length (take n (drop (at + 1) b)) ≡ n
      key-length = let l = length-drop (at + 1) b in length-take-le n (drop (at + 1) b) (omega arith)

      leaf-at : (m : ℕ) → m ≡ get_or b (at + 1 + n) 0 → entry_of 0 (drop at b) ≡ leaf (take n (drop (at + 1) b)) (take m (drop (at + 1 + n + 1) b))
      unfolding entry_of front
      leaf-at m e =
          let s : drop (at + 1 + n) b ≡ m ∷ drop (at + 1 + n + 1) b = drop_more b (at + 1 + n) 0 (omega arith) ∙ ap (λ (x : ℕ). x ∷ drop (at + 1 + n + 1) b) (sym e) in
          ap₂ leaf front_at (ap front (after-at ∙ s))

      pub fits-leaf : (m : ℕ) → m ≡ get_or b (at + 1 + n) 0
          → ((((eqb (at + 1 + n + 1 + m) end && leb 1 n) && leb n 16) && leb m 64)) ≡ ends_at b own 0 at end
      unfolding ends_at is_entry
      fits-leaf m e =
          let k : List ℕ = take n (drop (at + 1) b) in
          let v : List ℕ = take m (drop (at + 1 + n + 1) b) in
          let s = leaf-size k v in
          let lk = key-length in
          let lv : length v ≡ min m (511 - (at + 1 + n)) = length-take m (drop (at + 1 + n + 1) b) ∙ ap (min m) (length-drop (at + 1 + n + 1) b ∙ omega arith) in
          let y : ℕ = at + 1 + n + 1 + m in
          let z : ℕ = at + length (entry_bytes (leaf k v)) in
          let same : tests end y n m ≡ tests end z (length k) (length v) =
          elim (cases_eq y end) [
            | inl q ↦ let a : y ≡ z = omega arith in let d : m ≡ length v = omega arith in cc
            | inr q ↦ tests_no end y n m q ∙ sym (tests_no end z (length k) (length v) (λ w. q (omega arith)))
          ] in
          and_four (eqb y end) (leb 1 n) (leb n 16) (leb m 64) ∙ unfold_tests end y n m ∙ same ∙ leaf-tests own at end k v
          ∙ ap (λ (x : Entry). eqb (at + length (entry_bytes x)) end && is_entry own x) (sym (leaf-at m e))

      pub fits-branch : (l : ℕ)
          → (eqb (at + 1 + n + 4) end && ((leb n 16 && not (eqb (word b (at + 1 + n)) 0)) && not (eqb (word b (at + 1 + n)) own))) ≡ ends_at b own (suc l) at end
      unfolding ends_at is_entry is_child entry_of
      fits-branch l =
          let k : List ℕ = take n (drop (at + 1) b) in
          let c : ℕ = word b (at + 1 + n) in
          let s = branch-size k c in
          let lk = key-length in
          let z : at + 1 + n + 4 ≡ at + length (entry_bytes (branch k c)) = omega arith in
          let e : entry_of (suc l) (drop at b) ≡ branch k c = ap₂ branch front_at (ap (λ (d : List ℕ). word d 0) after-at ∙ word-drop b (at + 1 + n)) in
          let P : Entry → Bool = λ x. eqb (at + length (entry_bytes x)) end && is_entry own x in
          let t : P (branch k c) ≡ P (entry_of (suc l) (drop at b)) = ap P (sym e) in
          ap₂ {C = Bool} (λ (x y : ℕ). eqb x end && ((leb y 16 && not (eqb c 0)) && not (eqb c own))) z (sym lk)
          ∙ ap (λ (x : Bool). eqb (at + length (entry_bytes (branch k c))) end && x) (and_assoc (leb (length k) 16) (not (eqb c 0)) (not (eqb c own)))
          ∙ t

      tested : (l : ℕ) (t : Bool) → eqb (at + 1 + n + 4) end ≡ t
          → (t && ((leb n 16 && not (eqb (word b (at + 1 + n)) 0)) && not (eqb (word b (at + 1 + n)) own))) ≡ ends_at b own (suc l) at end
      tested l t e = ap (λ (x : Bool). x && ((leb n 16 && not (eqb (word b (at + 1 + n)) 0)) && not (eqb (word b (at + 1 + n)) own))) (sym e) ∙ fits-branch l

      pub fits-child : (level : ℕ) → (level ≡ 0 → ⊥) → at + 1 + n + 4 ≡ end → (c : ℕ) → c ≡ word b (at + 1 + n)
          → ((leb n 16 && not (eqb c 0)) && not (eqb c own)) ≡ ends_at b own level at end
      fits-child level h e c w =
          ap (λ (x : ℕ). (leb n 16 && not (eqb x 0)) && not (eqb x own)) w
          ∙ level-suc (λ (l : ℕ). ((leb n 16 && not (eqb (word b (at + 1 + n)) 0)) && not (eqb (word b (at + 1 + n)) own)) ≡ ends_at b own l at end)
          (λ l. tested l true (eq-eqb (at + 1 + n + 4) end e)) level h

      pub fits-apart : (level : ℕ) → (level ≡ 0 → ⊥) → (at + 1 + n + 4 ≡ end → ⊥) → false ≡ ends_at b own level at end
      fits-apart level h e =
          level-suc (λ (l : ℕ). false ≡ ends_at b own l at end) (λ l. tested l false (ne_eqb (at + 1 + n + 4) end e)) level h

key-front : (level : ℕ) (d : List ℕ) → entry_key (entry_of level d) ≡ front d
unfolding entry_key entry_of
key-front zero d = refl
key-front (suc l) d = refl

-- the key of an entry that passed, as a part of the bytes
pub key_of : (b : List ℕ) → length b ≡ 512 → (own level at end : ℕ) → end ≤ 508 → (r : Bool) → r ≡ ends_at b own level at end → r ≡ true
    → (at + 2 + get_or b at 0 ≤ end) × (field_at b at ≡ entry_key (entry_of level (drop at b)))
unfolding ends_at field_at
key_of b len own level at end within r r-is true-is =
    let p = and_parts (eqb (at + length (entry_bytes (entry_of level (drop at b)))) end) (is_entry own (entry_of level (drop at b))) (sym r-is ∙ true-is) in
    let e = eqb-true (at + length (entry_bytes (entry_of level (drop at b)))) end p.0 in
    let s = size-more level (drop at b) in
    let starts : at + 2 ≤ end = omega arith in
    let f = front_length b len own at end (get_or b at 0) within refl starts in
    (omega arith, sym (front_at b len own at end (get_or b at 0) within refl starts) ∙ sym (key-front level (drop at b)))

-- how a key stands to the one before it
meets : Bool → ℕ → Ordering → Bool
meets first level Less = cond first (eqb level 0) true
meets first level Equal = first
meets first level Greater = false

meets-is : (first : Bool) (level : ℕ) (o : Ordering) → meets first level o ≡ is_next first level o
unfolding meets is_next is_first
meets-is true zero Less = refl
meets-is true zero Equal = refl
meets-is true zero Greater = refl
meets-is true (suc l) Less = ne_eqb (suc l) 0 (λ q. omega arith)
meets-is true (suc l) Equal = refl
meets-is true (suc l) Greater = refl
meets-is false level Less = refl
meets-is false level Equal = refl
meets-is false level Greater = refl

module _ (first : Bool) (level : ℕ) (o : Ordering) where
  pub meets-next : Less ≡ o → first ≡ false → not first ≡ is_next first level o
  unfolding meets
  meets-next e f = ap not f ∙ ap (λ (x : Bool). cond x (eqb level 0) true) (sym f) ∙ ap (meets first level) e ∙ meets-is first level o

  pub meets-first : Less ≡ o → first ≡ true → eqb level 0 ≡ is_next first level o
  unfolding meets
  meets-first e f = ap (λ (x : Bool). cond x (eqb level 0) true) (sym f) ∙ ap (meets first level) e ∙ meets-is first level o

  pub meets-equal : Equal ≡ o → first ≡ is_next first level o
  unfolding meets
  meets-equal e = ap (meets first level) e ∙ meets-is first level o

  pub meets-above : Greater ≡ o → false ≡ is_next first level o
  unfolding meets
  meets-above e = ap (meets first level) e ∙ meets-is first level o
