-- The image of a page with other entries, if they fit.
use Rattle.std.proofs.Common.{◌≡◌, ℕ, List, refl}
use Rattle.page.specs.Content.{Entry, Content}
use Rattle.page_edit.specs.Edits.{with_entries, fitting_image, image_if}
use Rattle.edits.specs.Suits.{have_room}

pub fitting : (n : ℕ) (es : List Entry) (p : Content) → fitting_image (with_entries n es p) ≡ image_if (have_room es) (with_entries n es p)
unfolding with_entries
fitting n es p = refl
