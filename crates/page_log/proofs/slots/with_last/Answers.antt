use Rattle.std.proofs.Common.{◌≡◌, arith}
use Rattle.page_log.specs.Pages.{page_slots, with_last}
use Rattle.page_log.proofs.Pages.{last-told, last_past}
use Rattle.page_log.proofs.slots.with_last.Goals as goal
use Rattle.page_log.proofs.slots.with_last.Goals.{else-used-room-via-then-used-room+else-eq, else-used-room-via-else-used-room}

pub returns-then-eq-clause-value : goal.returns-then-eq-clause-value
returns-then-eq-clause-value g c =
    let d = g.D.PageDevice.disk c.args.device.now in
    last-told _ d c.args.used c.args.last.now _ c.requires (omega (arith, c.count.ensures, c.room.ensures)) (rw c.record_at.ensures.value at c.if-eq.ensures)

pub returns-clause-value : goal.returns-clause-value
returns-clause-value g c =
    let d = g.D.PageDevice.disk c.args.device.now in
    let stays : c.args.used ≡ with_last (page_slots d) c.args.used c.args.last.now =
    elim c.else-used-room.branch [
      | else-used-room-via-then-used-room+else-eq w ↦ last-told _ d c.args.used c.args.last.now _ c.requires (omega (arith, c.count.ensures, c.room.ensures, w.if-used-room.true)) (rw w.record_at.ensures.value at w.if-eq.ensures)
      | else-used-room-via-else-used-room w ↦ last_past d c.args.used c.args.last.now (omega (arith, c.count.ensures, c.room.ensures, w.if-used-room.false))
    ] in
    stays
