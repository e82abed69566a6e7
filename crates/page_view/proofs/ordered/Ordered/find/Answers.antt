use Rattle.page.specs.Image.{parse_page}
use Rattle.page.proofs.Parsed.{form_of}
use Rattle.page.proofs.Rises.{ascending}
use Rattle.page_view.proofs.ordered.Ordered.find.Goals as goal

pub find-requires : goal.find-requires
find-requires g c = record {
  ascending = ascending g.met.O.KeyOrder.lawful.chain (parse_page c.args.self.now.view.image.now) (form_of c.args.self.now.view.image.now c.args.self.now.view.laid) c.args.self.now.ordered;
  short = c.requires.short;
}
