use Rattle.std.proofs.Common.{◌≡◌, [], ◌∷◌, length, ap, ◌∙◌, rules}
use Rattle.field.specs.Fields.{le2, field}
use Rattle.field.specs.Held.{key_of}
use Rattle.page.specs.Content.{foster_child, foster_key}
use Rattle.page.specs.Image.{bound_field}
use Rattle.page_build.specs.Told.{head_of, bound_of, foster_of}
use Rattle.seal.specs.Seal.{le4}
use Rattle.page_build.proofs.Headed.{put-at, eleven}
use Rattle.page_build.proofs.head.head.Goals as goal

pub returns : goal.returns
unfolding head_of le2
returns c =
    let h = c.args.h.now in
    let child : c.to_le_bytes-4.result ≡ le4 (foster_child (foster_of h.foster)) = c.to_le_bytes-4.ensures ∙ ap le4 c.foster_child.ensures in
    let low : length c.padded.result.now ≡ 17 = search rules in
    let high : length c.bound_field.result.now ≡ 17 = search rules in
    let key : length c.foster_field.result.now ≡ 17 = search rules in
    let size : length c.put-11.new.out ≡ 72 = search rules in
    eleven (le4 h.number) (le4 h.lsn) (h.level ∷ 0 ∷ []) (le2 c.args.count) (le4 (foster_child (foster_of h.foster))) (le2 c.args.start)
    (0 ∷ 0 ∷ []) (field 16 (key_of h.low)) (bound_field (bound_of h.high)) (field 16 (foster_key (foster_of h.foster))) (0 ∷ [])
    c.put.new.out c.put-2.new.out c.put-3.new.out c.put-4.new.out c.put-5.new.out c.put-6.new.out
    c.put-7.new.out c.put-8.new.out c.put-9.new.out c.put-10.new.out c.put-11.new.out
    (put-at 0 4 [] c.put.new.out c.to_le_bytes.result _ c.to_le_bytes.ensures (ap length c.to_le_bytes.ensures) c.put.ensures.written)
    (put-at 4 4 c.put.new.out c.put-2.new.out c.to_le_bytes-2.result _ c.to_le_bytes-2.ensures (ap length c.to_le_bytes-2.ensures) c.put-2.ensures.written)
    c.put-3.ensures.written
    (put-at 10 2 c.put-3.new.out c.put-4.new.out c.to_le_bytes-3.result _ c.to_le_bytes-3.ensures (ap length c.to_le_bytes-3.ensures) c.put-4.ensures.written)
    (put-at 12 4 c.put-4.new.out c.put-5.new.out c.to_le_bytes-4.result _ child (ap length child) c.put-5.ensures.written)
    (put-at 16 2 c.put-5.new.out c.put-6.new.out c.to_le_bytes-5.result _ c.to_le_bytes-5.ensures (ap length c.to_le_bytes-5.ensures) c.put-6.ensures.written)
    c.put-7.ensures.written
    (put-at 20 17 c.put-7.new.out c.put-8.new.out c.padded.result.now _ c.padded.ensures low c.put-8.ensures.written)
    (put-at 37 17 c.put-8.new.out c.put-9.new.out c.bound_field.result.now _ c.bound_field.ensures high c.put-9.ensures.written)
    (put-at 54 17 c.put-9.new.out c.put-10.new.out c.foster_field.result.now _ c.foster_field.ensures key c.put-10.ensures.written)
    c.put-11.ensures.written
    size
