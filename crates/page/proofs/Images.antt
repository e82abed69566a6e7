-- A content is decoded from its image, and has no other.
use Rattle.std.proofs.Common.{◌≡◌, ℕ, Bool, true, false, cond, List, Some, None, Option, sym, refl, ap, ◌∙◌, arith}
use Rattle.std.specs.Str.{bytes_eq}
use Rattle.std.proofs.lemmas.Slice.Eq.{bytes_eq-Decides}
use Rattle.std.proofs.lemmas.Bool.{and_parts, and_from}
use Rattle.page.specs.Content.{Content}
use Rattle.page.specs.Image.{parse_page, encode_page}
use Rattle.page.specs.Form.{is_form, is_ordered, is_laid, is_sound, decode_page}
use Rattle.page.specs.Laws.{ImageGivesContent, DecodedIsImage, ImageHas512Bytes}
use Rattle.page.proofs.Pages.{fit, parse-encode, image-length}

pub image-size : ImageHas512Bytes
image-size p f l = image-length p (fit p f l)

pub image-gives : ImageGivesContent
unfolding decode_page is_sound is_laid
image-gives says p f l o =
    let e = parse-encode p (fit p f l) in
    let b : List ℕ = encode_page p in
    let s : is_sound says b ≡ true =
    and_from _ _ (and_from _ _ (ap is_form e ∙ l) ((bytes_eq-Decides (encode_page (parse_page b)) b).1 (ap encode_page e))) (ap (is_ordered says) e ∙ o) in
    ap {B = Option Content} (λ (t : Bool). cond t (Some (parse_page b)) None) s ∙ ap {B = Option Content} (λ (y : Content). Some y) e

opened : (t : Bool) (p r : Content) → cond t (Some p) None ≡ Some r → (t ≡ true) × (p ≡ r)
opened true p r e = (refl, cc)
opened false p r e = let z : ◌≡◌ {A = ℕ} 0 1 = cc in absurd (omega arith)

pub decoded_is : DecodedIsImage
unfolding decode_page is_sound is_laid
decoded_is says b r e =
    let o = opened (is_sound says b) (parse_page b) r e in
    let s = and_parts (is_laid b) (is_ordered says (parse_page b)) o.0 in
    let l = and_parts (is_form (parse_page b)) (bytes_eq (encode_page (parse_page b)) b) s.0 in
    record {
      image = ap encode_page (sym o.1) ∙ (bytes_eq-Decides (encode_page (parse_page b)) b).0 l.1;
      form = ap is_form (sym o.1) ∙ l.0;
      ordered = ap (is_ordered says) (sym o.1) ∙ s.1;
    }
