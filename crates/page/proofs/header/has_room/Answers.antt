use Rattle.std.proofs.Common.{Bool, not, ◌&&◌, eqb, get_or, ap, ◌∙◌, arith}
use Rattle.page.proofs.Heads.{room-few, room_past, room_good}
use Rattle.page.proofs.header.has_room.Goals as goal

pub returns-then-slots_end-start : goal.returns-then-slots_end-start
returns-then-slots_end-start c =
    room-few c.args.b.now c.half_at-count.result c.half_at-start.result c.half_at-count.ensures.value c.half_at-start.ensures.value (omega arith)

pub returns-then-start-gt-HEAP_END : goal.returns-then-start-gt-HEAP_END
returns-then-start-gt-HEAP_END c =
    room_past c.args.b.now c.half_at-count.result c.half_at-start.result c.half_at-count.ensures.value c.half_at-start.ensures.value (omega arith) (omega arith)

pub returns : goal.returns
returns c =
    ap (λ (x : Bool). not (eqb c.half_at-count.result 0 && not (eqb (get_or c.args.b.now 8 0) 0)) && x) c.are_zeros.ensures
    ∙ room_good c.args.b.now c.half_at-count.result c.half_at-start.result c.half_at-count.ensures.value c.half_at-start.ensures.value (omega arith) (omega arith)
