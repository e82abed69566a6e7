use Rattle.images.proofs.Orders.{orders_rank_keys}
use Rattle.images.proofs.orders_rank_keys.Goals as goal

pub returns : goal.returns
returns c = orders_rank_keys
