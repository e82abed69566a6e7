use Rattle.std.proofs.Common.{ap, ◌∙◌}
use Rattle.page.specs.Image.{encode_page, parse_page}
use Rattle.page_edit.proofs.Keeping.{headed-child}
use Rattle.page_edit.proofs.kept.grown_child.Goals as goal

pub returns : goal.returns
returns c =
    c.whole.ensures
    ∙ ap encode_page (headed-child c.of-h.result c.args.lsn c.args.other (parse_page c.args.page.image.now) c.of-h.ensures)
