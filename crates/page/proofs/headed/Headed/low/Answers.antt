use Rattle.std.proofs.Common.{arith}
use Rattle.page.specs.Image.{parse_page}
use Rattle.page.proofs.Heads.{head}
use Rattle.page.proofs.headed.Headed.low.Goals as goal

pub field_at-requires : goal.field_at-requires
field_at-requires c = let h = head c.args.self.now.image.now c.args.self.now.size c.args.self.now.passed in omega (arith, h.low, c.args.self.now.size)

pub returns : goal.returns
unfolding parse_page
returns c = c.field_at.ensures
