use Rattle.std.proofs.Common.{ap, ◌∙◌}
use Rattle.page.specs.Image.{encode_page, parse_page}
use Rattle.page_edit.proofs.Keeping.{headed_adoption}
use Rattle.page_edit.proofs.kept.after_adoption.Goals as goal

pub returns : goal.returns
returns c =
    c.whole.ensures
    ∙ ap encode_page (headed_adoption c.of-h.result c.args.lsn (parse_page c.args.page.image.now) c.args.key.now c.of-h.ensures)
