use Rattle.tree.proofs.Short.{way-short}
use Rattle.tree.proofs.ways_short.Goals as goal

pub returns : goal.returns
returns c = λ rank top least ranked fetch born formed k n h. way-short rank top least ranked fetch born formed k n h
