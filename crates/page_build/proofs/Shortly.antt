-- The fences and the foster key of a page are short.
use Rattle.std.proofs.Common.{◌≡◌, ℕ, ◌≤◌, true, leb, List, length, Some, None, Option, subst, arith}
use Rattle.std.proofs.lemmas.Bool.{and_parts, leb-true}
use Rattle.order.specs.Fences.{Bound}
use Rattle.page.specs.Content.{Foster, foster_key}
use Rattle.page.specs.Form.{is_laid, is_short, is_foster}
use Rattle.page.specs.Image.{parse_page}
use Rattle.page.proofs.Pages.{formed}
use Rattle.page.proofs.Parsed.{form_of}

pub short-key : (b : Bound) (key : List ℕ) → is_short b ≡ true → b ≡ Some key → length key ≤ 16
unfolding is_short
short-key b key h e = leb-true (length key) 16 (subst (λ (x : Bound). is_short x ≡ true) e h)

foster-short : (own : ℕ) (f : Option Foster) → is_foster own f ≡ true → length (foster_key f) ≤ 16
unfolding is_foster foster_key
foster-short own None h = omega arith
foster-short own (Some f) h = leb-true (length f.key) 16 (and_parts (leb (length f.key) 16) _ h).0

module _ (b : List ℕ) (laid : is_laid b ≡ true) where
  pub short-low : length (parse_page b).low ≤ 16
  short-low = leb-true (length (parse_page b).low) 16 (formed (parse_page b) (form_of b laid)).low

  pub short-high : is_short (parse_page b).high ≡ true
  short-high = (formed (parse_page b) (form_of b laid)).high

  pub short-foster : length (foster_key (parse_page b).foster) ≤ 16
  short-foster = foster-short (parse_page b).number (parse_page b).foster (formed (parse_page b) (form_of b laid)).foster
