-- What is written of a page is read back, and nothing that is torn.
use Rattle.std.proofs.Common.{◌≡◌, ℕ, ◌^◌, ◌<◌, Bool, cond, eqb, List, Some, None, Option, refl, ap, ◌∙◌}
use Rattle.std.proofs.lemmas.Bool.{cond-true, eq-eqb}
use Rattle.seal.specs.Seal.{is_sealed}
use Rattle.seal.proofs.Seals.{number_back}
use Rattle.field.specs.Fields.{word}
use Rattle.page.specs.Content.{Content}
use Rattle.page.specs.Image.{encode_page, page_body, header}
use Rattle.page.specs.Form.{decode_page}
use Rattle.page.proofs.Images.{image-gives}
use Rattle.device.specs.Disk.{holds, unreadable}
use Rattle.tree.specs.Worlds.{Stored}
use Rattle.images.specs.Keys.{Key, Value}
use Rattle.images.specs.Images.{content_of, encode_image, stored_as, stored_in, stored_page}
use Rattle.images.specs.Laws.{PagesReadBack, TornPagesFail}
use Rattle.images.proofs.Formed.{has-form, has-fields, image_back}
use Rattle.images.proofs.Ordered.{has_order}
use Rattle.images.proofs.Sealed.{page-sealed}

own-number : (c : Content) → c.number < 2 ^ 32 → word (encode_page c) 0 ≡ c.number
unfolding encode_page page_body header word
own-number c h = number_back c.number h

pub pages_read_back : PagesReadBack
unfolding stored_page encode_image stored_in stored_as content_of
pages_read_back says r p n x hp hn h =
    let c : Content = content_of p n x in
    let b : List ℕ = encode_page c in
    let form : decode_page says b ≡ Some c =
    image-gives says c (has-fields r.rank r.top p x h n hp hn) (has-form r.rank r.top p x h n) (has_order says r p x h n) in
    cond-true (is_sealed b) _ _ (page-sealed p n x h.level)
    ∙ cond-true (eqb (word b 0) p) _ _ (eq-eqb (word b 0) p (own-number c hp))
    ∙ ap stored_in form
    ∙ ap (stored_as n) (image_back r.rank r.top p x h n)

pub torn_pages_fail : TornPagesFail
unfolding stored_page
torn_pages_fail says p unreadable e = refl
torn_pages_fail says p (holds b) e =
    ap {B = Option (Stored Key Value)} (λ (t : Bool). cond t (cond (eqb (word b 0) p) (stored_in (decode_page says b)) None) None) e
