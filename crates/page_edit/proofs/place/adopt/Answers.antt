use Rattle.std.proofs.Common.{ap}
use Rattle.page.specs.Content.{entry_key}
use Rattle.page_edit.proofs.place.adopt.Goals as goal

pub place-requires : goal.place-requires
unfolding entry_key
place-requires g c = ap entry_key c.of_branch.ensures
