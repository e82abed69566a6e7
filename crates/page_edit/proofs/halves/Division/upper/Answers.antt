use Rattle.std.proofs.Common.{[], ap, ◌∙◌}
use Rattle.page.specs.Content.{entry_at, entry_key}
use Rattle.page.specs.Image.{encode_page, parse_page}
use Rattle.page_build.specs.Spliced.{spliced}
use Rattle.page_edit.proofs.Keeping.{keys_ascend}
use Rattle.page_edit.proofs.Dividing.{upper_is, headed-upper}
use Rattle.page_edit.proofs.halves.Division.upper.Goals as goal

pub returns : goal.returns
unfolding entry_at
returns g c =
    let b = c.args.self.now.page.view.image.now in
    let p = parse_page b in
    let rising = keys_ascend g.met.O.KeyOrder.lawful.chain b c.args.self.now.page.view.laid c.args.self.now.page.ordered in
    let l = upper_is g.met.O.KeyOrder.lawful.itself p.entries rising c.args.self.now.slot c.args.self.now.within in
    c.kept.ensures
    ∙ ap encode_page (headed-upper g.O.KeyOrder.says c.of-h.result c.args.self.now.lsn c.args.self.now.other p c.key-h.result
    (entry_key (entry_at p c.args.self.now.slot)) (spliced p.entries 0 [] c.args.self.now.slot) c.of-h.ensures c.key-h.ensures l)
