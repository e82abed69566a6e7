use Rattle.page.proofs.Laid.{header-passes}
use Rattle.page_view.proofs.view.PageView.headed.Goals as goal

pub of-requires : goal.of-requires
of-requires c = let v = c.args.self.now in header-passes v.image.now v.bytes v.size v.laid
