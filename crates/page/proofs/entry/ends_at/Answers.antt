use Rattle.std.proofs.Common.{ℕ, sym, ap, ◌∙◌, arith}
use Rattle.page.specs.Walk.{ends_at}
use Rattle.page.proofs.Sizes.{fits-short, fits-long, fits-leaf, fits-child, fits-apart}
use Rattle.page.proofs.entry.ends_at.Goals as goal

pub returns-then-at-end : goal.returns-then-at-end
returns-then-at-end c = fits-short c.args.b.now c.requires.size c.args.own c.args.at c.args.end 0 c.requires.within c.args.level (omega arith)

pub returns-then-second-end : goal.returns-then-second-end
returns-then-second-end c =
    fits-long c.args.b.now c.requires.size c.args.own c.args.at c.args.end c.from-n.result c.requires.within c.from-n.ensures (omega arith) c.args.level (omega arith)

pub returns-then-level-eq0 : goal.returns-then-level-eq0
returns-then-level-eq0 c =
    fits-leaf c.args.b.now c.requires.size c.args.own c.args.at c.args.end c.from-n.result c.requires.within c.from-n.ensures (omega arith) (omega arith)
    c.from-m.result c.from-m.ensures
    ∙ ap (λ (l : ℕ). ends_at c.args.b.now c.args.own l c.args.at c.args.end) (sym c.if-level-eq0.true)

pub returns-then-second-end-2 : goal.returns-then-second-end-2
returns-then-second-end-2 c =
    fits-child c.args.b.now c.requires.size c.args.own c.args.at c.args.end c.from-n.result c.requires.within c.from-n.ensures (omega arith) (omega arith)
    c.args.level c.if-level-eq0.false c.if-second-end-2.true c.word_at-child.result c.word_at-child.ensures

pub returns-else-second-end-2 : goal.returns-else-second-end-2
returns-else-second-end-2 c =
    fits-apart c.args.b.now c.requires.size c.args.own c.args.at c.args.end c.from-n.result c.requires.within c.from-n.ensures (omega arith) (omega arith)
    c.args.level c.if-level-eq0.false c.if-second-end-2.false
