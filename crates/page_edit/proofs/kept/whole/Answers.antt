use Rattle.std.proofs.Common.{List, ap, ◌∙◌}
use Rattle.page.specs.Content.{Entry}
use Rattle.page.specs.Image.{encode_page, parse_page}
use Rattle.page_build.specs.Told.{content_of}
use Rattle.page_edit.proofs.Keeping.{all-kept}
use Rattle.page_edit.proofs.kept.whole.Goals as goal

pub returns : goal.returns
returns c =
    c.kept.ensures
    ∙ ap (λ (es : List Entry). encode_page (content_of c.args.h.now es)) (all-kept (parse_page c.args.page.image.now).entries c.count-n.result)
