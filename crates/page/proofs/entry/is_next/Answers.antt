use Rattle.page.proofs.Sizes.{meets-next, meets-first, meets-equal, meets-above}
use Rattle.page.proofs.entry.is_next.Goals as goal

pub returns-then-not-first : goal.returns-then-not-first
returns-then-not-first g c = meets-next c.args.first c.args.level _ c.in-Less.ensures c.if-not-first.true

pub returns-else-not-first : goal.returns-else-not-first
returns-else-not-first g c = meets-first c.args.first c.args.level _ c.in-Less.ensures c.if-not-first.false

pub returns-in-Equal : goal.returns-in-Equal
returns-in-Equal g c = meets-equal c.args.first c.args.level _ c.in-Equal.ensures

pub returns-in-Greater : goal.returns-in-Greater
returns-in-Greater g c = meets-above c.args.first c.args.level _ c.in-Greater.ensures
