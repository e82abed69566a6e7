use Rattle.std.proofs.Common.{◌<◌, arith}
use Rattle.seal.proofs.Steps.{by_byte}
use Rattle.seal.proofs.checksum.step.Goals as goal

pub returns : goal.returns
returns c =
    let h : c.args.b < 256 = omega arith in
    let e = by_byte c.args.c c.args.b h in
    cc
