-- The way through the bytes decides exactly whether they are a page.
use Rattle.std.proofs.Common.{◌≡◌, ℕ, true, List, [], ◌++◌, length, get_or, drop, sym, ap, ◌∙◌, arith}
use Rattle.std.proofs.lemmas.Bool.{and_parts, and_from}
use Rattle.field.specs.Fields.{word, field_at}
use Rattle.field.proofs.Fielded.{both-same}
use Rattle.order.specs.Lawful.{Says}
use Rattle.seal.specs.Laws.{Bytes}
use Rattle.page.specs.Content.{Content, upper}
use Rattle.page.specs.Image.{heap, parse_page}
use Rattle.page.specs.Form.{are_fences, are_keys, is_ordered, is_laid, is_sound}
use Rattle.page.specs.Walk.{walks, walks_all, passes}
use Rattle.page.specs.Laws.{WalkIsExact}
use Rattle.page.proofs.Pages.{at, start, gap, seal, before, before-length, by-heap, slots-in}
use Rattle.page.proofs.Parsed.{entries-count, sound-parts, image-is, form-is, fit_is}
use Rattle.page.proofs.Walked.{runs, goes}
use Rattle.page.proofs.Laid.{header-passes, seal-passes, start-at}
use Rattle.page.proofs.Passed.{keys-run, passed-sound}

module _ (says : Says) (b : List ℕ) (bs : Bytes b) (len : length b ≡ 512) (laid : is_laid b ≡ true) (ordered : is_ordered says (parse_page b) ≡ true) where
  p : Content
  p = parse_page b

  order_parts : (are_fences says p ≡ true) × (runs says p.level (upper p) true p.low p.entries ≡ true)
  unfolding is_ordered p
  order_parts =
      let o = and_parts (are_fences says p) (are_keys says p.level (upper p) p.low p.entries) ordered in
      (o.0, keys-run says p.level (upper p) p.low p.entries ∙ o.1)

  go_back : walks_all says b ≡ true
  unfolding walks_all at start p parse_page
  go_back =
      let image = image-is b bs laid in
      let fit = fit_is b bs laid in
      let g = goes says b bs len (word b 0) (get_or b 8 0) (upper p) p.entries true (before p fit) (seal p) ((gap p ++ heap p.entries []) ++ seal p) 72 508 (field_at b 20)
      fit.kinded (ap (drop 72) (sym image) ∙ slots-in p fit) (sym image ∙ by-heap p fit) (before-length p fit) (omega arith) (sym (start-at b bs len laid)) (form-is b bs laid).entries order_parts.1 in
      ap (λ (i : ℕ). walks says b (word b 0) (get_or b 8 0) (upper p) i true 72 508 (field_at b 20)) (sym (entries-count b)) ∙ g

sound-check : (says : Says) (b : List ℕ) → Bytes b → length b ≡ 512 → is_sound says b ≡ true → passes says b ≡ true
unfolding passes p
sound-check says b bs len e =
    let s = sound-parts says b e in
    let l = s.0 in
    let o = s.1 in
    and_from _ _ (header-passes b bs len l) (and_from _ _ (order_parts says b bs len l o).0 (and_from _ _ (go_back says b bs len l o) (seal-passes b bs len l)))

pub exact : WalkIsExact
exact says b bs len = both-same (passes says b) (is_sound says b) (passed-sound says b bs len) (sound-check says b bs len)
