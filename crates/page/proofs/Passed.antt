-- Bytes that pass the way through them are a page.
use Rattle.std.proofs.Common.{◌≡◌, ℕ, ◌+◌, ◌-◌, ◌*◌, ◌<◌, ◌≤◌, Bool, true, cond, not, ◌&&◌, eqb, leb, List, [], ◌∷◌, ◌++◌, length, get_or, take, drop, replicate, Option, sym, refl, ap, ◌∙◌, ap₂, append_assoc, arith}
use Rattle.std.proofs.lemmas.Slice.Eq.{bytes_eq-Decides}
use Rattle.std.proofs.lemmas.List.{take_at, drop-drop, drop_more, length-append, length-take-le, length-drop, take-append-drop}
use Rattle.std.proofs.lemmas.Bool.{and_parts, and_from, eqb-true, eq-eqb, leb-true, le-leb}
use Rattle.field.specs.Fields.{le2, half, word, field, field_at, are_zeros, is_field}
use Rattle.order.specs.Fences.{Bound}
use Rattle.order.specs.Lawful.{Says}
use Rattle.seal.specs.Laws.{Bytes}
use Rattle.seal.specs.Seal.{le4, sealed, body_of, is_sealed}
use Rattle.seal.proofs.Seals.{passing_is_sealed}
use Rattle.page.specs.Content.{Content, Entry, Foster, foster_key, foster_child, upper, costs}
use Rattle.page.specs.Image.{bound_field, bound_at, foster_of, header, page_body, encode_page, places, slots, heap, last_or, parse_page}
use Rattle.page.specs.Form.{are_fences, are_keys, is_form, is_ordered, is_laid, is_sound}
use Rattle.page.specs.Walk.{is_bound_field, are_fillers, are_fields, is_foster_at, has_room, is_header, is_next, walks, walks_all, passes}
use Rattle.page.proofs.Standing.{short-is, word_in, half_in, zeros_are, field_in, field-short, bound-in}
use Rattle.page.proofs.Entries.{heap-below, sizes}
use Rattle.page.proofs.Parsed.{entries-count, foster-child, foster-key, foster_good}
use Rattle.page.proofs.Walked.{runs, Went, went}
use Rattle.page.proofs.Laid.{enough-is}

pub keys-run : (says : Says) (level : ℕ) (bound : Bound) (low : List ℕ) (es : List Entry) → runs says level bound true low es ≡ are_keys says level bound low es
unfolding runs are_keys is_next
keys-run says level bound low [] = refl
keys-run says level bound low (e ∷ es) = refl

-- the header in its parts
assembled : (b a0 a4 a10 a12 a16 lo hi fk r4 r8 r9 r10 r12 r16 r18 r19 r20 r37 r54 r71 r72 : List ℕ) (l : ℕ)
    → b ≡ a0 ++ r4 → r4 ≡ a4 ++ r8 → r8 ≡ l ∷ r9 → r9 ≡ 0 ∷ r10 → r10 ≡ a10 ++ r12 → r12 ≡ a12 ++ r16 → r16 ≡ a16 ++ r18 → r18 ≡ 0 ∷ r19 → r19 ≡ 0 ∷ r20
    → r20 ≡ lo ++ r37 → r37 ≡ hi ++ r54 → r54 ≡ fk ++ r71 → r71 ≡ 0 ∷ r72
    → b ≡ (a0 ++ (a4 ++ (l ∷ 0 ∷ (a10 ++ (a12 ++ (a16 ++ (0 ∷ 0 ∷ (lo ++ (hi ++ (fk ++ (0 ∷ []))))))))))) ++ r72
assembled b a0 a4 a10 a12 a16 lo hi fk r4 r8 r9 r10 r12 r16 r18 r19 r20 r37 r54 r71 r72 l e0 e1 e2 e3 e4 e5 e6 e7 e8 e9 e10 e11 e12 =
    let w : b ≡ a0 ++ (a4 ++ (l ∷ 0 ∷ (a10 ++ (a12 ++ (a16 ++ (0 ∷ 0 ∷ (lo ++ (hi ++ (fk ++ (0 ∷ r72)))))))))) = cc in
    let v : (a0 ++ (a4 ++ (l ∷ 0 ∷ (a10 ++ (a12 ++ (a16 ++ (0 ∷ 0 ∷ (lo ++ (hi ++ (fk ++ (0 ∷ []))))))))))) ++ r72
    ≡ a0 ++ (a4 ++ (l ∷ 0 ∷ (a10 ++ (a12 ++ (a16 ++ (0 ∷ 0 ∷ (lo ++ (hi ++ (fk ++ (0 ∷ r72)))))))))) = simp append_assoc in
    w ∙ sym v

regrouped : (b h s g k z r1 r2 r3 : List ℕ) → b ≡ h ++ r1 → r1 ≡ s ++ r2 → r2 ≡ g ++ r3 → r3 ≡ k ++ z → b ≡ (h ++ (s ++ (g ++ k))) ++ z
regrouped b h s g k z r1 r2 r3 e0 e1 e2 e3 =
    let w : b ≡ h ++ (s ++ (g ++ (k ++ z))) = cc in
    let v : (h ++ (s ++ (g ++ k))) ++ z ≡ h ++ (s ++ (g ++ (k ++ z))) = simp append_assoc in
    w ∙ sym v

gap-in : (b : List ℕ) (from to : ℕ) → from ≤ to → to ≤ length b → are_zeros (take (to - from) (drop from b)) ≡ true
    → drop from b ≡ replicate (to - from) 0 ++ drop to b
gap-in b from to h l z =
    let d = length-drop from b in
    let size : length (take (to - from) (drop from b)) ≡ to - from = length-take-le (to - from) (drop from b) (omega arith) in
    let sum : from + (to - from) ≡ to = omega arith in
    let zeros : take (to - from) (drop from b) ≡ replicate (to - from) 0 =
    zeros_are (take (to - from) (drop from b)) z ∙ ap (λ (i : ℕ). replicate i 0) size in
    let behind : drop (to - from) (drop from b) ≡ drop to b = drop-drop (to - from) from b ∙ ap (λ (i : ℕ). drop i b) sum in
    sym (take-append-drop (to - from) (drop from b)) ∙ cc

module _ (says : Says) (b : List ℕ) (bs : Bytes b) (len : length b ≡ 512) where
  p : Content
  p = parse_page b

  n : ℕ
  n = half b 10

  st : ℕ
  st = half b 16

  one_there : (i j : ℕ) → j ≡ i + 1 → i < length b → eqb (get_or b i 0) 0 ≡ true → drop i b ≡ 0 ∷ drop j b
  one_there i j e h z = drop_more b i 0 h ∙ ap₂ {C = List ℕ} (λ (x k : ℕ). x ∷ drop k b) (eqb-true (get_or b i 0) 0 z) (sym e)

  -- without foster child its key is empty
  no_key : is_foster_at b ≡ true → word b 12 ≡ 0 → field_at b 54 ≡ []
  unfolding is_foster_at field_at
  no_key o z =
      let t = ap (λ (x : Bool). cond x (eqb (get_or b 54 0) 0) (not (eqb (word b 12) (word b 0)))) (sym (eq-eqb (word b 12) 0 z)) ∙ o in
      ap (λ (i : ℕ). take i (drop 55 b)) (eqb-true (get_or b 54 0) 0 t)

  header-in : are_fillers b ≡ true → are_fields b ≡ true → is_foster_at b ≡ true → b ≡ header p st ++ drop 72 b
  unfolding are_fillers are_fields header p st parse_page
  header-in m f o =
      let m1 = and_parts (eqb (get_or b 9 0) 0) _ m in
      let m2 = and_parts (eqb (get_or b 18 0) 0) _ m1.1 in
      let m3 = and_parts (eqb (get_or b 19 0) 0) (eqb (get_or b 71 0) 0) m2.1 in
      let f1 = and_parts (is_field 16 (take 17 (drop 20 b))) _ f in
      let f2 = and_parts (is_bound_field (take 17 (drop 37 b))) (is_field 16 (take 17 (drop 54 b))) f1.1 in
      let c : half b 10 ≡ length (parse_page b).entries = sym (entries-count b) in
      let foster : Option Foster = foster_of (field_at b 54) (word b 12) in
      let child : word b 12 ≡ foster_child foster = sym (foster-child (field_at b 54) (word b 12)) in
      let key : field_at b 54 ≡ foster_key foster = sym (foster-key (field_at b 54) (word b 12) (no_key o)) in
      assembled b (le4 (word b 0)) (le4 (word b 4)) (le2 (length (parse_page b).entries)) (le4 (foster_child foster)) (le2 (half b 16)) (field 16 (field_at b 20)) (bound_field (bound_at b 37)) (field 16 (foster_key foster))
      (drop 4 b) (drop 8 b) (drop 9 b) (drop 10 b) (drop 12 b) (drop 16 b) (drop 18 b) (drop 19 b) (drop 20 b) (drop 37 b) (drop 54 b) (drop 71 b) (drop 72 b) (get_or b 8 0)
      (word_in b 0 bs (omega arith)) (word_in b 4 bs (omega arith)) (drop_more b 8 0 (omega arith)) (one_there 9 10 refl (omega arith) m1.0)
      (half_in b 10 bs (omega arith) ∙ ap (λ (i : ℕ). le2 i ++ drop 12 b) c) (word_in b 12 bs (omega arith) ∙ ap (λ (i : ℕ). le4 i ++ drop 16 b) child) (half_in b 16 bs (omega arith)) (one_there 18 19 refl (omega arith) m2.0) (one_there 19 20 refl (omega arith) m3.0)
      (field_in b 20 (omega arith) f1.0) (bound-in b 37 (omega arith) f2.0).0 (field_in b 54 (omega arith) f2.1 ∙ ap (λ (k : List ℕ). field 16 k ++ drop 71 b) key) (one_there 71 72 refl (omega arith) m3.1)

  record Facts : Type 0 where
    fillers : are_fillers b ≡ true
    fields : are_fields b ≡ true
    foster : is_foster_at b ≡ true
    above : leb (72 + 2 * n) st ≡ true
    below : leb st 508 ≡ true
    some : cond (eqb n 0) (eqb (get_or b 8 0) 0) true ≡ true
    blank : are_zeros (take (st - (72 + 2 * n)) (drop (72 + 2 * n) b)) ≡ true
    fences : are_fences says p ≡ true
    going : walks says b (word b 0) (get_or b 8 0) (upper p) n true 72 508 (field_at b 20) ≡ true
    sealing : is_sealed b ≡ true

  facts : passes says b ≡ true → Facts
  unfolding passes is_header has_room walks_all p n st
  facts e =
      let a = and_parts (is_header b) _ e in
      let h = and_parts (are_fillers b) _ a.0 in
      let i = and_parts (are_fields b) _ h.1 in
      let o = and_parts (is_foster_at b) (has_room b) i.1 in
      let r = and_parts (leb (72 + 2 * half b 10) (half b 16) && leb (half b 16) 508) _ o.1 in
      let r1 = and_parts (leb (72 + 2 * half b 10) (half b 16)) (leb (half b 16) 508) r.0 in
      let r2 = and_parts (cond (eqb (half b 10) 0) (eqb (get_or b 8 0) 0) true) _ r.1 in
      let f = and_parts (are_fences says (parse_page b)) _ a.1 in
      let g = and_parts (walks_all says b) (is_sealed b) f.1 in
      record { fillers = h.0; fields = i.0; foster = o.0; above = r1.0; below = r1.1; some = r2.0; blank = r2.1; fences = f.0; going = g.0; sealing = g.1 }

  module _ (f : Facts) where
    walked : Went says b (word b 0) (get_or b 8 0) (upper p) n true 72 508 (field_at b 20)
    walked =
        let a = leb-true (72 + 2 * n) st f.above in
        let c = leb-true st 508 f.below in
        went says b bs len (word b 0) (get_or b 8 0) (upper p) n true 72 508 (field_at b 20) (omega arith) (omega arith) f.going

    es : List Entry
    es = p.entries

    heap-in : drop st b ≡ heap es [] ++ drop 508 b
    unfolding es p st n parse_page
    heap-in = sym walked.heaped ∙ heap-below (parse_page b).entries (drop 508 b)

    body-in : b ≡ page_body p ++ drop 508 b
    unfolding page_body es p st n parse_page
    body-in =
        let c = entries-count b in
        let s : last_or 508 (places 508 (parse_page b).entries) ≡ half b 16 = walked.begins in
        let g = gap-in b (72 + 2 * half b 10) (half b 16) (leb-true (72 + 2 * n) st f.above) (let c = leb-true st 508 f.below in omega arith) f.blank in
        regrouped b (header p (last_or 508 (places 508 (parse_page b).entries))) (slots (places 508 (parse_page b).entries))
        (replicate (last_or 508 (places 508 (parse_page b).entries) - (72 + 2 * length (parse_page b).entries)) 0) (heap (parse_page b).entries []) (drop 508 b)
        (drop 72 b) (drop (72 + 2 * half b 10) b) (drop (half b 16) b)
        (header-in f.fillers f.fields f.foster ∙ ap (λ (i : ℕ). header p i ++ drop 72 b) (sym s))
        walked.slotted
        (g ∙ ap₂ {C = List ℕ} (λ (i j : ℕ). replicate (i - (72 + 2 * j)) 0 ++ drop (half b 16) b) (sym s) (sym c))
        heap-in

    image-in : encode_page p ≡ b
    unfolding encode_page
    image-in =
        let x : List ℕ = page_body p in
        let l = ap length body-in in
        let m = length-append x (drop 508 b) in
        let d = length-drop 508 b in
        let lx : length x ≡ 508 = omega arith in
        let cut : length b - 4 ≡ 508 = omega arith in
        let t : body_of b ≡ x = ap (λ (i : ℕ). take i b) cut ∙ ap (take 508) body-in ∙ take_at x (drop 508 b) 508 lx in
        ap (λ (y : List ℕ). sealed y) (sym t) ∙ passing_is_sealed b bs f.sealing

    form_in : is_form p ≡ true
    unfolding is_form are_fields is_foster_at es p st n parse_page
    form_in =
        let f1 = and_parts (is_field 16 (take 17 (drop 20 b))) _ f.fields in
        let f2 = and_parts (is_bound_field (take 17 (drop 37 b))) (is_field 16 (take 17 (drop 54 b))) f1.1 in
        let a = leb-true (72 + 2 * n) st f.above in
        let c = leb-true st 508 f.below in
        let hl = ap length heap-in in
        let hm = length-append (heap (parse_page b).entries []) (drop 508 b) in
        let hd = length-drop 508 b in
        let he = length-drop st b in
        let co = sizes (parse_page b).entries in
        let ct = entries-count b in
        let room : costs (parse_page b).entries ≤ 436 = omega arith in
        let short = (field-short b 54 (omega arith) f2.1).1 in
        and_from _ _
        (and_from _ _ (le-leb (length (field_at b 20)) 16 (field-short b 20 (omega arith) f1.0).1)
        (and_from _ _ (short-is (bound_at b 37) (bound-in b 37 (omega arith) f2.0).1) (foster_good (field_at b 54) (word b 12) (word b 0) (eqb (get_or b 54 0) 0) short f.foster)))
        (and_from _ _ (sym (enough-is (get_or b 8 0) (parse_page b).entries) ∙ ap (λ (i : ℕ). cond (eqb i 0) (eqb (get_or b 8 0) 0) true) ct ∙ f.some)
        (and_from _ _ walked.forms (le-leb (costs (parse_page b).entries) 436 room)))

    order_in : is_ordered says p ≡ true
    unfolding is_ordered es p st n parse_page
    order_in = and_from _ _ f.fences (sym (keys-run says (get_or b 8 0) (upper p) (field_at b 20) (parse_page b).entries) ∙ walked.runs)

  pub passed-sound : passes says b ≡ true → is_sound says b ≡ true
  unfolding is_sound is_laid p
  passed-sound e =
      let f = facts e in
      and_from _ _ (and_from _ _ (form_in f) ((bytes_eq-Decides (encode_page (parse_page b)) b).1 (image-in f))) (order_in f)
