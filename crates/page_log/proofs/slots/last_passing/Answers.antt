use Rattle.std.proofs.Common.{is_ok, refl, ap, ◌∙◌, arith}
use Rattle.std.proofs.lemmas.List.{get_or_past}
use Rattle.device.specs.Disk.{Disk}
use Rattle.wal.specs.Journal.{lost}
use Rattle.wal.proofs.Rows.{beyond-down, last-at}
use Rattle.page_log.specs.Pages.{looked, page_slots}
use Rattle.page_log.proofs.Pages.{length-pages, look_fails, look_finds}
use Rattle.page_log.proofs.slots.last_passing.Goals as goal

pub loop-position-init : goal.loop-position-init
loop-position-init g c =
    let d = g.D.PageDevice.disk c.args.device.now in
    record { same = refl; beyond = λ i h. get_or_past (page_slots d) i lost (omega (arith, length-pages d, c.count.ensures, c.room-position.ensures)) }

pub loop-position-preserved : goal.loop-position-preserved
loop-position-preserved g c =
    let d = g.D.PageDevice.disk c.args.device.now in
    let n = c.loop-position.position in
    let looks = c.if-is_ok.ensures.value ∙ ap is_ok (c.record_at.ensures.value ∙ ap (λ (e : Disk). looked e n) c.loop-position.invariant.same) in
    let gone = look_fails d n c.requires (omega arith) (omega (arith, c.count.ensures, c.room-position.ensures)) looks in
    record { same = c.record_at.ensures.same ∙ c.loop-position.invariant.same; beyond = beyond-down (page_slots d) n (omega arith) gone c.loop-position.invariant.beyond }

pub returns-then-is_ok : goal.returns-then-is_ok
returns-then-is_ok g c =
    let d = g.D.PageDevice.disk c.args.device.now in
    let n = c.loop-position.position in
    let looks = c.if-is_ok.ensures.value ∙ ap is_ok (c.record_at.ensures.value ∙ ap (λ (e : Disk). looked e n) c.loop-position.invariant.same) in
    record {
      value = last-at (page_slots d) n (look_finds d n c.requires (omega arith) (omega (arith, c.count.ensures, c.room-position.ensures)) looks) c.loop-position.invariant.beyond;
      same = c.record_at.ensures.same ∙ c.loop-position.invariant.same;
    }
