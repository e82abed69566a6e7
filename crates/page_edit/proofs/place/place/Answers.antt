use Rattle.std.proofs.Common.{cond, leb, List, [], ◌∷◌, Some, None, sym, ap, ◌∙◌}
use Rattle.page.specs.Content.{Entry, Content, costs}
use Rattle.page.specs.Image.{encode_page, parse_page}
use Rattle.page_build.specs.Entered.{entry_in}
use Rattle.page_build.specs.Spliced.{spliced}
use Rattle.page_edit.specs.Edits.{fitting_image, with_entries}
use Rattle.page_edit.proofs.Keeping.{headed}
use Rattle.page_edit.proofs.place.place.Goals as goal

pub returns : goal.returns
unfolding with_entries
returns g c =
    let p : Content = parse_page c.args.page.view.image.now in
    let e : Entry = entry_in c.args.fresh.now in
    let es : List Entry = spliced p.entries c.room_for-keep.result.0 (e ∷ []) c.room_for-keep.result.1 in
    let parts = c.room_for-keep.ensures e c.requires in
    c.fitted.ensures
    ∙ ap (λ (q : Content). cond (leb (costs es) 436) (Some (encode_page q)) None) (headed c.of-h.result c.args.lsn p es c.of-h.ensures)
    ∙ ap (λ (x : List Entry). fitting_image (with_entries c.args.lsn x p)) (sym parts)
