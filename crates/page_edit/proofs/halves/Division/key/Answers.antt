use Rattle.std.proofs.Common.{ℕ, ◌≤◌, List, length, sym, ap, ◌∙◌, subst, arith}
use Rattle.page.specs.Content.{entry_at, entry_key}
use Rattle.page.specs.Image.{parse_page}
use Rattle.page_edit.proofs.Keeping.{keys_ascend}
use Rattle.page_edit.proofs.Dividing.{slot-short}
use Rattle.page_edit.proofs.halves.Division.key.Goals as goal

pub new-requires : goal.new-requires
unfolding entry_at
new-requires g c =
    let b = c.args.self.now.page.view.image.now in
    let h = subst (λ (k : List ℕ). length k ≤ 16) (sym (c.key.ensures ∙ ap entry_key c.entry.ensures.entry))
    (slot-short g.met.O.KeyOrder.lawful.itself (parse_page b).entries (keys_ascend g.met.O.KeyOrder.lawful.chain b c.args.self.now.page.view.laid c.args.self.now.page.ordered) c.args.self.now.slot c.args.self.now.within) in
    (omega arith, omega (arith, h))
