use Rattle.std.proofs.Common.{ap, ◌∙◌, arith}
use Rattle.field.specs.Fields.{word}
use Rattle.page_view.proofs.Stands.{child_there}
use Rattle.page_view.proofs.view.EntryView.child.Goals as goal

pub word_at-requires : goal.word_at-requires
word_at-requires c =
    let r = (child_there c.args.self.now.page.image.now c.args.self.now.page.bytes c.args.self.now.page.laid c.args.self.now.slot c.args.self.now.within c.requires).0 in
    omega (arith, c.behind_key.ensures)

pub returns : goal.returns
returns c =
    c.word_at.ensures ∙ ap (word c.args.self.now.page.image.now) c.behind_key.ensures
    ∙ (child_there c.args.self.now.page.image.now c.args.self.now.page.bytes c.args.self.now.page.laid c.args.self.now.slot c.args.self.now.within c.requires).1
