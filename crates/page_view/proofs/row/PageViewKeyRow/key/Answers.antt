use Rattle.std.proofs.Common.{ap, ◌∙◌, arith}
use Rattle.page.specs.Content.{entry_key}
use Rattle.page.specs.Image.{parse_page}
use Rattle.page.proofs.Rises.{keys-count, key-at}
use Rattle.page_view.proofs.row.PageViewKeyRow.key.Goals as goal

pub entry-requires : goal.entry-requires
entry-requires c = let n = keys-count (parse_page c.args.self.now.image.now) in omega (arith, c.requires)

pub returns : goal.returns
returns c = c.key.ensures ∙ ap entry_key c.entry.ensures.entry ∙ key-at (parse_page c.args.self.now.image.now) c.args.i
