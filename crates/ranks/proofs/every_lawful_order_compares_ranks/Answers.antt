use Rattle.ranks.proofs.Ranked.{ranks}
use Rattle.ranks.proofs.every_lawful_order_compares_ranks.Goals as goal

pub returns : goal.returns
returns c = ranks
