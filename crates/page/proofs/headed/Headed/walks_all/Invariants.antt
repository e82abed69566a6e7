use Rattle.std.proofs.Common.{◌≡◌, ◌+◌, ◌-◌, ◌*◌, ◌≤◌, eqb, get_or}
use Rattle.field.specs.Fields.{half}
use Rattle.page.specs.Content.{upper}
use Rattle.page.specs.Image.{parse_page}
use Rattle.page.specs.Walk.{walks, walks_all}
use Rattle.page.proofs.headed.Headed.walks_all.Given as goal

abbrev pub invariant-loop-i : goal.invariant-loop-i
invariant-loop-i g l =
    (l.end ≤ 508)
    × (walks g.O.KeyOrder.says l.b l.own (get_or l.b 8 0) (upper (parse_page l.b)) (half l.b 10 - l.i) (eqb l.i 0) (72 + 2 * l.i) l.end l.previous
    ≡ walks_all g.O.KeyOrder.says l.b)
