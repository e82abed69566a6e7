-- What a header that passed tells the code that reads on.
use Rattle.std.proofs.Common.{◌≡◌, ℕ, ◌+◌, ◌-◌, ◌*◌, ◌<◌, ◌≤◌, Bool, true, false, cond, not, ◌&&◌, eqb, leb, List, length, get_or, take, drop, Some, None, sym, refl, ap, ◌∙◌, ap₂, arith}
use Rattle.std.specs.Ordering.{is_lt}
use Rattle.std.proofs.lemmas.Bool.{and_parts, eq-eqb, ne_eqb, le-leb, lt-leb, leb-true}
use Rattle.field.specs.Fields.{half, word, field_at, are_zeros, is_field}
use Rattle.order.specs.Fences.{Bound, is_below}
use Rattle.order.specs.Lawful.{Says}
use Rattle.page.specs.Content.{upper, upper_of}
use Rattle.page.specs.Image.{bound_at, parse_page}
use Rattle.page.specs.Form.{is_between, are_fences}
use Rattle.page.specs.Walk.{is_bound_field, are_fillers, are_fields, is_foster_at, has_room, is_header}
use Rattle.page.proofs.Standing.{field-short, bound-short}
use Rattle.page.proofs.Parsed.{foster-none, foster-some}

pub record Head (b : List ℕ) : Type 0 where
  pub low : get_or b 20 0 ≤ 16
  pub high : (get_or b 37 0 ≡ 255 → ⊥) → get_or b 37 0 ≤ 16
  pub fkey : get_or b 54 0 ≤ 16
  pub above : 72 + 2 * half b 10 ≤ half b 16
  pub below : half b 16 ≤ 508

pub head : (b : List ℕ) → length b ≡ 512 → is_header b ≡ true → Head b
unfolding is_header are_fields has_room
head b len e =
    let h = and_parts (are_fillers b) _ e in
    let i = and_parts (are_fields b) (is_foster_at b && has_room b) h.1 in
    let o = and_parts (is_foster_at b) (has_room b) i.1 in
    let f1 = and_parts (is_field 16 (take 17 (drop 20 b))) _ i.0 in
    let f2 = and_parts (is_bound_field (take 17 (drop 37 b))) (is_field 16 (take 17 (drop 54 b))) f1.1 in
    let r = and_parts (leb (72 + 2 * half b 10) (half b 16) && leb (half b 16) 508) _ o.1 in
    let r1 = and_parts (leb (72 + 2 * half b 10) (half b 16)) (leb (half b 16) 508) r.0 in
    record {
      low = (field-short b 20 (omega arith) f1.0).0;
      high = bound-short b 37 (omega arith) f2.0;
      fkey = (field-short b 54 (omega arith) f2.1).0;
      above = leb-true (72 + 2 * half b 10) (half b 16) r1.0;
      below = leb-true (half b 16) 508 r1.1;
    }

-- fields of bounds
pub bound-none : (b : List ℕ) (i : ℕ) → get_or b i 0 ≡ 255 → None ≡ bound_at b i
unfolding bound_at
bound-none b i e = sym (ap {B = Bound} (λ (t : Bool). cond t None (Some (field_at b i))) (eq-eqb (get_or b i 0) 255 e))

pub bound_some : (b : List ℕ) (i : ℕ) → (get_or b i 0 ≡ 255 → ⊥) → Some (field_at b i) ≡ bound_at b i
unfolding bound_at
bound_some b i n = sym (ap {B = Bound} (λ (t : Bool). cond t None (Some (field_at b i))) (ne_eqb (get_or b i 0) 255 n))

module _ (b : List ℕ) (c : ℕ) (c-is : c ≡ word b 12) where
  pub upper-high : c ≡ 0 → (parse_page b).high ≡ upper (parse_page b)
  unfolding upper upper_of parse_page
  upper-high z = sym (ap (upper_of (bound_at b 37)) (foster-none (field_at b 54) (word b 12) (sym c-is ∙ z)))

  pub upper-foster : (c ≡ 0 → ⊥) → Some (field_at b 54) ≡ upper (parse_page b)
  unfolding upper upper_of parse_page
  upper-foster n = sym (ap (upper_of (bound_at b 37)) (foster-some (field_at b 54) (word b 12) (λ q. n (c-is ∙ q))))

  -- the foster child
  pub foster-zero : c ≡ 0 → eqb (get_or b 54 0) 0 ≡ is_foster_at b
  unfolding is_foster_at
  foster-zero z = sym (ap (λ (t : Bool). cond t (eqb (get_or b 54 0) 0) (not (eqb (word b 12) (word b 0)))) (eq-eqb (word b 12) 0 (sym c-is ∙ z)))

  pub foster-other : (c ≡ 0 → ⊥) → (o : ℕ) → o ≡ word b 0 → not (eqb c o) ≡ is_foster_at b
  unfolding is_foster_at
  foster-other n o o_is =
      ap₂ {C = Bool} (λ (x y : ℕ). not (eqb x y)) c-is o_is
      ∙ sym (ap (λ (t : Bool). cond t (eqb (get_or b 54 0) 0) (not (eqb (word b 12) (word b 0)))) (ne_eqb (word b 12) 0 (λ q. n (c-is ∙ q))))

-- bounds as fields
pub bound-zeros : (f : List ℕ) → get_or f 0 0 ≡ 255 → are_zeros (drop 1 f) ≡ is_bound_field f
unfolding is_bound_field
bound-zeros f e = sym (ap (λ (t : Bool). cond t (are_zeros (drop 1 f)) (is_field 16 f)) (eq-eqb (get_or f 0 0) 255 e))

pub bound-key : (f : List ℕ) → (get_or f 0 0 ≡ 255 → ⊥) → is_field 16 f ≡ is_bound_field f
unfolding is_bound_field
bound-key f n = sym (ap (λ (t : Bool). cond t (are_zeros (drop 1 f)) (is_field 16 f)) (ne_eqb (get_or f 0 0) 255 n))

-- room
module _ (b : List ℕ) (n s : ℕ) (n-is : n ≡ half b 10) (s-is : s ≡ half b 16) where
  room : Bool → Bool → Bool
  room x y = (x && y) && (cond (eqb n 0) (eqb (get_or b 8 0) 0) true && are_zeros (take (s - (72 + 2 * n)) (drop (72 + 2 * n) b)))

  room-is : room (leb (72 + 2 * n) s) (leb s 508) ≡ has_room b
  unfolding room has_room
  room-is =
      ap₂ {C = Bool} (λ (i j : ℕ). (leb (72 + 2 * i) j && leb j 508) && (cond (eqb i 0) (eqb (get_or b 8 0) 0) true && are_zeros (take (j - (72 + 2 * i)) (drop (72 + 2 * i) b)))) n-is s-is

  pub room-few : s < 72 + 2 * n → false ≡ has_room b
  unfolding room
  room-few h = ap (λ (x : Bool). room x (leb s 508)) (sym (lt-leb (72 + 2 * n) s h)) ∙ room-is

  pub room_past : 72 + 2 * n ≤ s → 508 < s → false ≡ has_room b
  unfolding room
  room_past g h = ap₂ {C = Bool} room (sym (le-leb (72 + 2 * n) s g)) (sym (lt-leb s 508 h)) ∙ room-is

  not-both : (x y : Bool) → not (x && not y) ≡ cond x y true
  not-both true true = refl
  not-both true false = refl
  not-both false y = refl

  pub room_good : 72 + 2 * n ≤ s → s ≤ 508
      → (not (eqb n 0 && not (eqb (get_or b 8 0) 0)) && are_zeros (take (s - (72 + 2 * n)) (drop (72 + 2 * n) b))) ≡ has_room b
  unfolding room
  room_good g h =
      ap (λ (x : Bool). x && are_zeros (take (s - (72 + 2 * n)) (drop (72 + 2 * n) b))) (not-both (eqb n 0) (eqb (get_or b 8 0) 0))
      ∙ ap₂ {C = Bool} room (sym (le-leb (72 + 2 * n) s g)) (sym (le-leb s 508 h)) ∙ room-is

-- fences
module _ (says : Says) (b : List ℕ) where
  module _ (r : Bool) (r-is : r ≡ is_below says (parse_page b).low (parse_page b).high) where
    pub fences_crossed : r ≡ false → false ≡ are_fences says (parse_page b)
    unfolding are_fences
    fences_crossed f = ap (λ (t : Bool). t && is_between says (parse_page b).low (parse_page b).high (parse_page b).foster) (sym f ∙ r-is)

    module _ (t : r ≡ true) (c : ℕ) (c-is : c ≡ word b 12) where
      between : is_between says (parse_page b).low (parse_page b).high (parse_page b).foster ≡ are_fences says (parse_page b)
      unfolding are_fences
      between = ap (λ (x : Bool). x && is_between says (parse_page b).low (parse_page b).high (parse_page b).foster) (sym t ∙ r-is)

      pub fences-alone : c ≡ 0 → true ≡ are_fences says (parse_page b)
      unfolding is_between parse_page
      fences-alone z = ap (is_between says (parse_page b).low (parse_page b).high) (sym (foster-none (field_at b 54) (word b 12) (sym c-is ∙ z))) ∙ between

      pub fences-foster : (c ≡ 0 → ⊥)
          → (is_lt (says (parse_page b).low (field_at b 54)) && is_below says (field_at b 54) (parse_page b).high) ≡ are_fences says (parse_page b)
      unfolding is_between parse_page
      fences-foster n = ap (is_between says (parse_page b).low (parse_page b).high) (sym (foster-some (field_at b 54) (word b 12) (λ q. n (c-is ∙ q)))) ∙ between
