use Rattle.page.proofs.Heads.{foster-zero, foster-other}
use Rattle.page.proofs.header.is_foster.Goals as goal

pub returns-then-child-eq0 : goal.returns-then-child-eq0
returns-then-child-eq0 c = foster-zero c.args.b.now c.word_at-child.result c.word_at-child.ensures c.if-child-eq0.true

pub returns-else-child-eq0 : goal.returns-else-child-eq0
returns-else-child-eq0 c =
    foster-other c.args.b.now c.word_at-child.result c.word_at-child.ensures c.if-child-eq0.false c.word_at.result c.word_at.ensures
