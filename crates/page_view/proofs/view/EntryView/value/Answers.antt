use Rattle.std.proofs.Common.{ℕ, get_or, ap, ◌∙◌, arith}
use Rattle.field.specs.Fields.{field_at}
use Rattle.page_view.proofs.Stands.{value-is, value_room}
use Rattle.page_view.proofs.view.EntryView.value.Goals as goal

pub field_at-requires : goal.field_at-requires
field_at-requires c =
    let b = c.args.self.now.page.image.now in
    let r = value_room b c.args.self.now.page.bytes c.args.self.now.page.laid c.args.self.now.slot c.args.self.now.within c.requires in
    let e = ap (λ (j : ℕ). get_or b j 0) c.behind_key.ensures in
    omega (arith, c.behind_key.ensures)

pub returns : goal.returns
returns c =
    c.field_at.ensures ∙ ap (field_at c.args.self.now.page.image.now) c.behind_key.ensures
    ∙ value-is c.args.self.now.page.image.now c.args.self.now.page.bytes c.args.self.now.page.laid c.args.self.now.slot c.args.self.now.within c.requires
