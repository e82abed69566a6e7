use Rattle.page.proofs.Exact.{exact}
use Rattle.page.proofs.facts.one_way_through_the_bytes_decides.Goals as goal

pub returns : goal.returns
returns c = exact
