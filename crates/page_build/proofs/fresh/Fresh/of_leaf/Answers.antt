use Rattle.std.proofs.Common.{◌+◌, false, length, ap, arith}
use Rattle.field.specs.Held.{key_of, value_of}
use Rattle.page.specs.Content.Entry.{leaf}
use Rattle.page_build.proofs.Entering.{field-short, fresh-is, fresh-whole, leaf-bytes}
use Rattle.page_build.proofs.fresh.Fresh.of_leaf.Goals as goal

pub joined-bytes-requires : goal.joined-bytes-requires
joined-bytes-requires c =
    let k = field-short 16 c.args.key.now.image (omega (arith, c.args.key.now.fits)) in
    let v = field-short 64 c.args.value.now.image (omega (arith, c.args.value.now.fits)) in
    let a = ap length c.prefixed-first.ensures in
    let b = ap length c.prefixed-second.ensures in
    omega arith

pub invariant_of-result : goal.invariant_of-result
invariant_of-result c =
    let k = field-short 16 c.args.key.now.image (omega (arith, c.args.key.now.fits)) in
    let v = field-short 64 c.args.value.now.image (omega (arith, c.args.value.now.fits)) in
    let a = ap length c.prefixed-first.ensures in
    let b = ap length c.prefixed-second.ensures in
    let w = leaf-bytes (key_of c.args.key.now) (value_of c.args.value.now) c.prefixed-first.result.now c.prefixed-second.result.now
    c.joined-bytes.result c.prefixed-first.ensures c.prefixed-second.ensures c.joined-bytes.ensures in
    record {
      fits = omega arith;
      whole = fresh-whole false (leaf (key_of c.args.key.now) (value_of c.args.value.now))
          (length c.prefixed-first.result.now + length c.prefixed-second.result.now) c.joined-bytes.result tt w;
    }

pub returns : goal.returns
returns c =
    let w = leaf-bytes (key_of c.args.key.now) (value_of c.args.value.now) c.prefixed-first.result.now c.prefixed-second.result.now
    c.joined-bytes.result c.prefixed-first.ensures c.prefixed-second.ensures c.joined-bytes.ensures in
    fresh-is false (leaf (key_of c.args.key.now) (value_of c.args.value.now))
    (length c.prefixed-first.result.now + length c.prefixed-second.result.now) c.joined-bytes.result tt w
