use Rattle.std.proofs.Common.{◌≡◌, ℕ, ◌+◌, List, ◌++◌, length, take, drop, subst, arith, rules}
use Rattle.page.specs.Content.{Entry}
use Rattle.page_build.proofs.Built.{built}
use Rattle.page_build.proofs.Filling.{few}
use Rattle.page_build.proofs.image.build.Goals as goal

pub overflow_cast-count : goal.overflow_cast-count
overflow_cast-count g c =
    let w = few (g.R.EntryRow.entries c.args.row.now) c.requires in
    omega (arith, w.0, c.count.ensures)

pub overflow_cast-start : goal.overflow_cast-start
overflow_cast-start g c =
    let w = few (g.R.EntryRow.entries c.args.row.now) c.requires in
    omega (arith, w.1, c.fill-start.ensures.start)

pub returns : goal.returns
returns g c =
    let es : List Entry = g.R.EntryRow.entries c.args.row.now in
    let size : length c.head-top.result ≡ 72 = search rules in
    let after = c.fill-start.ensures.after in
    built c.args.h.now es c.count.result c.fill-start.result c.head-top.result c.put.new.out c.seal_array.new.block size c.requires
    c.count.ensures c.fill-start.ensures.start c.head-top.ensures
    (subst (λ (x : List ℕ). take (0 + length c.head-top.result) c.put.new.out ≡ take 0 x ++ c.head-top.result) after c.put.ensures.written)
    (subst (λ (x : List ℕ). drop (0 + length c.head-top.result) c.put.new.out ≡ drop (0 + length c.head-top.result) x) after c.put.ensures.rest)
    c.seal_array.ensures
