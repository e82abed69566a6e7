-- The image of a page passes the tests of its header and its seal.
use Rattle.std.proofs.Common.{◌≡◌, ℕ, suc, ◌+◌, ◌-◌, ◌*◌, Bool, true, cond, not, eqb, List, [], ◌∷◌, ◌++◌, length, get_or, take, drop, Option, sym, refl, ap, ◌∙◌, subst, ap₂, inl, inr, append_assoc, add-zero, arith}
use Rattle.std.proofs.lemmas.List.{take_at, drop_at, drop-drop, drop_more, get_or-drop, length-replicate}
use Rattle.std.proofs.lemmas.Bool.{and_from, eq-eqb, ne_eqb, le-leb, cases_eq}
use Rattle.field.specs.Fields.{le2, half, word, field, field_at, are_zeros, is_field}
use Rattle.seal.specs.Crc.{crc}
use Rattle.seal.specs.Laws.{Bytes}
use Rattle.seal.specs.Seal.{le4, is_sealed}
use Rattle.seal.proofs.Seals.{sealed_passes}
use Rattle.page.specs.Content.{Content, Entry, Foster, foster_key}
use Rattle.page.specs.Image.{bound_field, header, page_body, encode_page, slots, heap, parse_page}
use Rattle.page.specs.Form.{are_enough, is_laid}
use Rattle.page.specs.Walk.{is_bound_field, are_fillers, are_fields, is_foster_at, has_room, is_header}
use Rattle.page.proofs.Standing.{half-le2, bytes-front, zeros_of, field-length, bound-length, field-passes, bound-passes}
use Rattle.page.proofs.Entries.{sizes, start_is, slots_length}
use Rattle.page.proofs.Pages.{Fit, from20, rest, at, start, gap, seal, slots-in}
use Rattle.page.proofs.Parsed.{entries-count, foster-apart, foster-none, image-is, form-is, fit_is}

pub enough-is : (level : ℕ) (es : List Entry) → cond (eqb (length es) 0) (eqb level 0) true ≡ are_enough level es
unfolding are_enough
enough-is level [] = refl
enough-is level (e ∷ es) = ap (λ (t : Bool). cond t (eqb level 0) true) (ne_eqb (suc (length es)) 0 (λ q. omega arith))

-- what stands first where a list stands
first_of : (b : List ℕ) (i : ℕ) (r : List ℕ) → drop i b ≡ r → get_or b i 0 ≡ get_or r 0 0
first_of b i r e = ap (λ (j : ℕ). get_or b j 0) (sym (add-zero i)) ∙ sym (get_or-drop i b 0 0) ∙ ap (λ (d : List ℕ). get_or d 0 0) e

field-first : (k r : List ℕ) → get_or (field 16 k ++ r) 0 0 ≡ length k
unfolding field
field-first k r = refl

module _ (b : List ℕ) (bs : Bytes b) (len : length b ≡ 512) (laid : is_laid b ≡ true) where
  p : Content
  p = parse_page b

  image : encode_page p ≡ b
  unfolding p
  image = image-is b bs laid

  fit : Fit p
  unfolding p
  fit = fit_is b bs laid

  from20-in : drop 20 b ≡ field 16 p.low ++ (bound_field p.high ++ (field 16 (foster_key p.foster) ++ (0 ∷ (rest p ++ seal p))))
  unfolding encode_page page_body header le2 from20 rest gap start at seal
  from20-in =
      let e : from20 p (rest p) (seal p) ≡ field 16 p.low ++ (bound_field p.high ++ (field 16 (foster_key p.foster) ++ (0 ∷ (rest p ++ seal p)))) = simp append_assoc in
      ap (drop 20) (sym image) ∙ e

  from37_in : drop 37 b ≡ bound_field p.high ++ (field 16 (foster_key p.foster) ++ (0 ∷ (rest p ++ seal p)))
  from37_in = sym (drop-drop 17 20 b) ∙ ap (drop 17) from20-in ∙ drop_at (field 16 p.low) _ 17 (field-length p.low fit.low)

  from54_in : drop 54 b ≡ field 16 (foster_key p.foster) ++ (0 ∷ (rest p ++ seal p))
  from54_in = sym (drop-drop 17 37 b) ∙ ap (drop 17) from37_in ∙ drop_at (bound_field p.high) _ 17 (bound-length p.high fit.high)

  from71_in : drop 71 b ≡ 0 ∷ (rest p ++ seal p)
  from71_in = sym (drop-drop 17 54 b) ∙ ap (drop 17) from54_in ∙ drop_at (field 16 (foster_key p.foster)) _ 17 (field-length (foster_key p.foster) fit.fkey)

  fillers_back : are_fillers b ≡ true
  unfolding are_fillers encode_page page_body header le2
  fillers_back =
      let a : get_or b 9 0 ≡ 0 = ap (λ (l : List ℕ). get_or l 9 0) (sym image) in
      let c : get_or b 18 0 ≡ 0 = ap (λ (l : List ℕ). get_or l 18 0) (sym image) in
      let d : get_or b 19 0 ≡ 0 = ap (λ (l : List ℕ). get_or l 19 0) (sym image) in
      let g : get_or b 71 0 ≡ 0 = sym (ap (λ (l : List ℕ). get_or l 0 0) (drop_more b 71 0 (omega arith))) ∙ ap (λ (l : List ℕ). get_or l 0 0) from71_in in
      and_from _ _ (eq-eqb (get_or b 9 0) 0 a) (and_from _ _ (eq-eqb (get_or b 18 0) 0 c) (and_from _ _ (eq-eqb (get_or b 19 0) 0 d) (eq-eqb (get_or b 71 0) 0 g)))

  fields_back : are_fields b ≡ true
  unfolding are_fields
  fields_back =
      and_from _ _ (ap (λ (l : List ℕ). is_field 16 (take 17 l)) from20-in ∙ ap (is_field 16) (take_at (field 16 p.low) _ 17 (field-length p.low fit.low)) ∙ field-passes p.low fit.low)
      (and_from _ _ (ap (λ (l : List ℕ). is_bound_field (take 17 l)) from37_in ∙ ap is_bound_field (take_at (bound_field p.high) _ 17 (bound-length p.high fit.high)) ∙ bound-passes p.high fit.high)
      (ap (λ (l : List ℕ). is_field 16 (take 17 l)) from54_in ∙ ap (is_field 16) (take_at (field 16 (foster_key p.foster)) _ 17 (field-length (foster_key p.foster) fit.fkey)) ∙ field-passes (foster_key p.foster) fit.fkey))

  foster_back : is_foster_at b ≡ true
  unfolding is_foster_at p parse_page foster_key
  foster_back = elim (cases_eq (word b 12) 0) [
    | inl e ↦
        let first : get_or b 54 0 ≡ length (foster_key p.foster) = first_of b 54 _ from54_in ∙ field-first (foster_key p.foster) _ in
        let none : length (foster_key p.foster) ≡ 0 = ap (λ (f : Option Foster). length (foster_key f)) (foster-none (field_at b 54) (word b 12) e) in
        ap (λ (x : Bool). cond x (eqb (get_or b 54 0) 0) (not (eqb (word b 12) (word b 0)))) (eq-eqb (word b 12) 0 e) ∙ eq-eqb (get_or b 54 0) 0 (first ∙ none)
    | inr n ↦
        ap (λ (x : Bool). cond x (eqb (get_or b 54 0) 0) (not (eqb (word b 12) (word b 0)))) (ne_eqb (word b 12) 0 n)
        ∙ foster-apart (word b 0) (field_at b 54) (word b 12) n (form-is b bs laid).foster
  ]

  start-sum : start p + length (heap p.entries []) ≡ 508
  unfolding start at
  start-sum = let a = sizes p.entries in let r = fit.room in start_is p.entries 508 (omega arith)

  start_back : half b 16 ≡ start p
  unfolding half encode_page page_body header le2 start at
  start_back = let a = start-sum in ap (λ (l : List ℕ). half l 16) (sym image) ∙ half-le2 (start p) (omega arith)

  count_back : half b 10 ≡ length p.entries
  unfolding p
  count_back = sym (entries-count b)

  blank_back : take (half b 16 - (72 + 2 * half b 10)) (drop (72 + 2 * half b 10) b) ≡ gap p
  unfolding gap at
  blank_back =
      let m : ℕ = length p.entries in
      let d : drop (72 + 2 * m) b ≡ (gap p ++ heap p.entries []) ++ seal p =
      sym (drop-drop (2 * m) 72 b) ∙ ap (λ (l : List ℕ). drop (2 * m) (drop 72 l)) (sym image) ∙ ap (drop (2 * m)) (slots-in p fit)
      ∙ drop_at (slots (at p)) ((gap p ++ heap p.entries []) ++ seal p) (2 * m) (slots_length p.entries 508) in
      let l : length (gap p) ≡ start p - (72 + 2 * m) = length-replicate {A = ℕ} (start p - (72 + 2 * m)) 0 in
      ap₂ {C = List ℕ} (λ (i j : ℕ). take (i - (72 + 2 * j)) (drop (72 + 2 * j) b)) start_back count_back
      ∙ ap (take (start p - (72 + 2 * m))) (d ∙ append_assoc (gap p) (heap p.entries []) (seal p))
      ∙ take_at (gap p) (heap p.entries [] ++ seal p) (start p - (72 + 2 * m)) l

  room_back : has_room b ≡ true
  unfolding has_room gap p parse_page
  room_back =
      let a = sizes p.entries in
      let r = fit.room in
      let s = start-sum in
      let c = count_back in
      let d = start_back in
      let k = enough-is p.level p.entries ∙ (form-is b bs laid).enough in
      and_from _ _ (and_from _ _ (le-leb (72 + 2 * half b 10) (half b 16) (omega arith)) (le-leb (half b 16) 508 (omega arith)))
      (and_from _ _ (ap (λ (i : ℕ). cond (eqb i 0) (eqb (get_or b 8 0) 0) true) count_back ∙ k)
      (ap are_zeros blank_back ∙ zeros_of (start p - (72 + 2 * length p.entries))))

  pub seal-passes : is_sealed b ≡ true
  unfolding encode_page
  seal-passes =
      let x : List ℕ = page_body p in
      ap (λ (y : List ℕ). is_sealed y) (sym image) ∙ sealed_passes x (bytes-front x (le4 (crc x)) (subst Bytes (sym image) bs))

  pub header-passes : is_header b ≡ true
  unfolding is_header
  header-passes = and_from _ _ fillers_back (and_from _ _ fields_back (and_from _ _ foster_back room_back))

  pub start-at : half b 16 ≡ start (parse_page b)
  unfolding p
  start-at = start_back
