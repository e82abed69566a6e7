use Rattle.std.proofs.Common.{arith}
use Rattle.page.specs.Image.{parse_page}
use Rattle.page_edit.proofs.Keeping.{costs-kept, room}
use Rattle.page_edit.proofs.kept.kept.Goals as goal

pub build-requires : goal.build-requires
build-requires c =
    let k = costs-kept (parse_page c.args.page.image.now).entries c.args.keep c.args.resume c.requires in
    let r = room c.args.page.image.now c.args.page.laid in
    omega arith
