use Rattle.std.proofs.Common.{◌≡◌, ℕ, List, length, ap, ◌∙◌, arith}
use Rattle.page.specs.Content.{Entry, costs}
use Rattle.page.specs.Image.{parse_page}
use Rattle.page_view.specs.declared.entries.Entries.{Entries}
use Rattle.page_view.specs.Entries.{entries_left}
use Rattle.page_view.specs.Lent.{entry_lent}
use Rattle.page_edit.specs.Edits.{first_half, halfway}
use Rattle.page_edit.proofs.Dividing.{half_found, half_further, half_none, costs_turn}
use Rattle.page_edit.proofs.Keeping.{room}
use Rattle.page_edit.proofs.halves.divider.Goals as goal

pub loop-entry-init : goal.loop-entry-init
unfolding first_half
loop-entry-init c =
    let es : List Entry = (parse_page c.args.page.image.now).entries in
    let it = c.into_iter-entry-iterator.ensures.into_iter_gives in
    let left : entries_left c.into_iter-entry-iterator.result ≡ es = ap entries_left it ∙ c.entries-entry-items.ensures.all in
    let first : c.into_iter-entry-iterator.result.next ≡ 0 = ap (λ (s : Entries). s.next) it ∙ c.entries-entry-items.ensures.first in
    let half = ap (halfway c.cost-total.result 0) left ∙ ap (λ (n : ℕ). halfway n 0 es) c.cost-total.ensures in
    let spent = ap costs left in
    let many = ap length left in
    (omega arith, omega arith, ap (λ (s : Entries). s.page) it ∙ c.entries-entry-items.ensures.page, omega arith)

pub overflow_add-spent : goal.overflow_add-spent
overflow_add-spent c =
    let m = costs_turn (entry_lent c.in-Some.entry) (entries_left c.next.new.self) (entries_left c.loop-entry.entry-iterator) c.cost-spent.result c.in-Some.ensures.steps.0 c.cost-spent.ensures in
    let i = c.loop-entry.invariant.0 in
    let r = room c.args.page.image.now c.args.page.laid in
    omega arith

pub overflow_mul-spent : goal.overflow_mul-spent
overflow_mul-spent c =
    let m = costs_turn (entry_lent c.in-Some.entry) (entries_left c.next.new.self) (entries_left c.loop-entry.entry-iterator) c.cost-spent.result c.in-Some.ensures.steps.0 c.cost-spent.ensures in
    let i = c.loop-entry.invariant.0 in
    let r = room c.args.page.image.now c.args.page.laid in
    omega arith

pub returns-then-total-spent : goal.returns-then-total-spent
returns-then-total-spent c =
    let f = half_found (entry_lent c.in-Some.entry) (entries_left c.next.new.self) (entries_left c.loop-entry.entry-iterator) c.cost-total.result c.loop-entry.spent c.cost-spent.result
    c.in-Some.ensures.steps.0 c.cost-spent.ensures c.if-total-spent.true in
    let i = c.loop-entry.invariant.1 in
    omega (arith, c.slot.ensures.value, c.in-Some.ensures.steps.2)

pub loop-entry-preserved : goal.loop-entry-preserved
loop-entry-preserved c =
    let m = costs_turn (entry_lent c.in-Some.entry) (entries_left c.next.new.self) (entries_left c.loop-entry.entry-iterator) c.cost-spent.result c.in-Some.ensures.steps.0 c.cost-spent.ensures in
    let f = half_further (entry_lent c.in-Some.entry) (entries_left c.next.new.self) (entries_left c.loop-entry.entry-iterator) c.cost-total.result c.loop-entry.spent c.cost-spent.result
    c.in-Some.ensures.steps.0 c.cost-spent.ensures c.if-total-spent.false in
    let i = c.loop-entry.invariant.0 in
    let j = c.loop-entry.invariant.1 in
    let n = c.in-Some.ensures.steps.4 in
    (omega arith, omega arith, c.in-Some.ensures.steps.3 ∙ c.loop-entry.invariant.2, let l = ap length c.in-Some.ensures.steps.0 in let k = c.loop-entry.invariant.3 in omega arith)

pub returns : goal.returns
returns c =
    let none = c.in-None.ensures.steps in
    let h = half_none (entries_left c.loop-entry.entry-iterator) c.cost-total.result c.loop-entry.spent none in
    let l = ap length none in
    let j = c.loop-entry.invariant.1 in
    let k = c.loop-entry.invariant.3 in
    omega (arith, c.count.ensures.value)
