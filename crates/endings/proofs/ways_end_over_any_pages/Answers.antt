use Rattle.endings.proofs.Ended.{ways_end_over_any_pages}
use Rattle.endings.proofs.ways_end_over_any_pages.Goals as goal

pub returns : goal.returns
returns c = ways_end_over_any_pages
