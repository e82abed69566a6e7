use Rattle.std.proofs.Common.{◌≡◌, ◌-◌, ◌<◌, get_or, arith}
use Rattle.field.specs.Fields.{field}
use Rattle.field.proofs.Fielded.{filled-sized, filled-length, filled_back, filled_padded}
use Rattle.field.proofs.held.Text.new.Goals as goal

pub invariant_of-result : goal.invariant_of-result
invariant_of-result g c =
    let e : c.put.new.out ≡ field (g.row.SIZE - 1) c.args.s.now =
    filled-sized g.row.SIZE c.args.s.now c.put.new.out (omega arith) c.put.ensures.written c.put.ensures.rest in
    let l = filled-length (g.row.SIZE - 1) c.args.s.now c.put.new.out e in
    let fits : get_or c.put.new.out 0 0 < g.row.SIZE = omega (arith, l) in
    record { fits = fits; padded = filled_padded (g.row.SIZE - 1) c.args.s.now c.put.new.out e }

pub returns : goal.returns
returns g c =
    filled_back (g.row.SIZE - 1) c.args.s.now c.put.new.out
    (filled-sized g.row.SIZE c.args.s.now c.put.new.out (omega arith) c.put.ensures.written c.put.ensures.rest)
