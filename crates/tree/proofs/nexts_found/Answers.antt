use Rattle.tree.proofs.Next.{next-found}
use Rattle.tree.proofs.nexts_found.Goals as goal

pub returns : goal.returns
returns c = λ rank top least ranked s sound k. next-found rank top least ranked s sound k
