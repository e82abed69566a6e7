use Rattle.std.proofs.Common.{ℕ, get_or, ap, ◌∙◌, arith}
use Rattle.field.specs.Fields.{field_at}
use Rattle.page_view.proofs.Stands.{key-is, key-room}
use Rattle.page_view.proofs.view.EntryView.key.Goals as goal

pub field_at-requires : goal.field_at-requires
field_at-requires c =
    let b = c.args.self.now.page.image.now in
    let r = key-room b c.args.self.now.page.bytes c.args.self.now.page.laid c.args.self.now.slot c.args.self.now.within in
    let e = ap (λ (j : ℕ). get_or b j 0) c.place_of.ensures in
    omega (arith, c.place_of.ensures)

pub returns : goal.returns
returns c =
    c.field_at.ensures ∙ ap (field_at c.args.self.now.page.image.now) c.place_of.ensures
    ∙ key-is c.args.self.now.page.image.now c.args.self.now.page.bytes c.args.self.now.page.laid c.args.self.now.slot c.args.self.now.within
