use Rattle.std.proofs.Common.{rules}
use Rattle.page_view.specs.Places.{place_of}
use Rattle.page_view.proofs.Stands.{few}
use Rattle.page_view.proofs.view.EntryView.place_of.Goals as goal

pub overflow_mul-self : goal.overflow_mul-self
overflow_mul-self c = let h = few c.args.self.now.page.image.now c.args.self.now.page.bytes c.args.self.now.page.laid c.args.self.now.slot c.args.self.now.within in search rules

pub overflow_add-self : goal.overflow_add-self
overflow_add-self c = let h = few c.args.self.now.page.image.now c.args.self.now.page.bytes c.args.self.now.page.laid c.args.self.now.slot c.args.self.now.within in search rules

pub half_at-requires : goal.half_at-requires
half_at-requires c = let h = few c.args.self.now.page.image.now c.args.self.now.page.bytes c.args.self.now.page.laid c.args.self.now.slot c.args.self.now.within in search rules

pub returns : goal.returns
unfolding place_of
returns c = c.half_at.ensures.value
