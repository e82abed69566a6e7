-- What reading bytes as a page answers.
use Rattle.std.specs.Prelude.{◌≡◌, ℕ, List, Some, None, Option}
use Rattle.page.specs.Content.{Content}
use Rattle.page.specs.Image.{parse_page}
use Rattle.page_view.specs.declared.owned.Page.{Page}

abbrev pub content_of : Option Page → Option Content
content_of None = None
content_of (Some p) = Some (parse_page p.image)

abbrev pub ImageKept : Option Page → List ℕ → Type 0
ImageKept None image = Unit {0}
ImageKept (Some p) image = p.image ≡ image
