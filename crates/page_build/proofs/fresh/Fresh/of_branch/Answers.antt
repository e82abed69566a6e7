use Rattle.std.proofs.Common.{◌+◌, ◌^◌, ◌<◌, true, length, ap, arith}
use Rattle.field.specs.Held.{key_of}
use Rattle.page.specs.Content.Entry.{branch}
use Rattle.page_build.proofs.Entering.{field-short, fresh-is, fresh-whole, branch-bytes}
use Rattle.page_build.proofs.fresh.Fresh.of_branch.Goals as goal

pub joined-bytes-requires : goal.joined-bytes-requires
joined-bytes-requires c =
    let k = field-short 16 c.args.key.now.image (omega (arith, c.args.key.now.fits)) in
    let a = ap length c.prefixed-first.ensures in
    let b = ap length c.to_le_bytes-second.ensures in
    omega arith

pub invariant_of-result : goal.invariant_of-result
invariant_of-result c =
    let k = field-short 16 c.args.key.now.image (omega (arith, c.args.key.now.fits)) in
    let a = ap length c.prefixed-first.ensures in
    let h : c.args.child < 2 ^ 32 = omega arith in
    let w = branch-bytes (key_of c.args.key.now) c.args.child c.prefixed-first.result.now c.to_le_bytes-second.result
    c.joined-bytes.result c.prefixed-first.ensures c.to_le_bytes-second.ensures c.joined-bytes.ensures in
    record {
      fits = omega arith;
      whole = fresh-whole true (branch (key_of c.args.key.now) c.args.child) (length c.prefixed-first.result.now + 4) c.joined-bytes.result h w;
    }

pub returns : goal.returns
returns c =
    let h : c.args.child < 2 ^ 32 = omega arith in
    let w = branch-bytes (key_of c.args.key.now) c.args.child c.prefixed-first.result.now c.to_le_bytes-second.result
    c.joined-bytes.result c.prefixed-first.ensures c.to_le_bytes-second.ensures c.joined-bytes.ensures in
    fresh-is true (branch (key_of c.args.key.now) c.args.child) (length c.prefixed-first.result.now + 4) c.joined-bytes.result h w
