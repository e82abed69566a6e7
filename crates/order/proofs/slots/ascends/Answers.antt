use Rattle.std.proofs.Common.{ℕ, List, length, refl, rules, arith}
use borrow.Author.Tests.{tests}
use Rattle.std.proofs.lemmas.Iterator.{cases_from_all, YieldsList-from_range}
use Rattle.order.specs.Slots.{Follows}
use Rattle.order.proofs.Steps.{told_of_all}
use Rattle.order.proofs.slots.ascends.Goals as goal

pub returns : goal.returns
returns g c =
    let keys : List (List ℕ) = g.R.KeyRow.keys c.args.row.now in
    told_of_all g.met.O.KeyOrder.lawful.chain keys (length keys) c.all.result
    (cases_from_all _ _ _ (Follows g.O.KeyOrder.says keys) (λ i. Follows g.O.KeyOrder.says keys i → ⊥) c.all.ensures.ran
    (YieldsList-from_range 0 c.count.result (length keys) refl (omega arith)) (λ x q k. search (rules, tests)) (λ x q k. search (rules, tests)))
