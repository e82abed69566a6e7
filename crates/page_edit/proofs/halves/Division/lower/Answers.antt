use Rattle.std.proofs.Common.{◌≤◌, [], length, ap, ◌∙◌, arith}
use Rattle.page.specs.Content.{entry_at, entry_key}
use Rattle.page.specs.Image.{encode_page, parse_page}
use Rattle.page_build.specs.Spliced.{spliced}
use Rattle.page_edit.proofs.Keeping.{keys_ascend}
use Rattle.page_edit.proofs.Dividing.{lower-is, headed-lower}
use Rattle.page_edit.proofs.halves.Division.lower.Goals as goal

pub returns : goal.returns
unfolding entry_at
returns g c =
    let b = c.args.self.now.page.view.image.now in
    let p = parse_page b in
    let rising = keys_ascend g.met.O.KeyOrder.lawful.chain b c.args.self.now.page.view.laid c.args.self.now.page.ordered in
    let n : length p.entries ≤ c.count.result = omega (arith, c.count.ensures.value) in
    let l = lower-is g.met.O.KeyOrder.lawful.itself p.entries rising c.args.self.now.slot c.args.self.now.within c.count.result n in
    c.kept.ensures
    ∙ ap encode_page (headed-lower g.O.KeyOrder.says c.of-h.result c.args.self.now.lsn c.args.self.now.other p c.key.result
    (entry_key (entry_at p c.args.self.now.slot)) (spliced p.entries c.args.self.now.slot [] c.count.result) c.of-h.ensures c.key.ensures l)
