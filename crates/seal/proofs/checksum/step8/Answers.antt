use lib.Bits.{bit_xor, xor_comm}
use Rattle.seal.proofs.Steps.{by_word}
use Rattle.seal.proofs.Runs.{eight_of}
use Rattle.seal.proofs.checksum.step8.Goals as goal

pub returns : goal.returns
returns c =
    let e = eight_of c.args.c c.args.b.now c.told-b c.fits-b in
    let second = by_word 0 c.from_le_bytes.result in
    let first = by_word 32 (bit_xor c.args.c c.from_le_bytes-2.result) in
    let turned = xor_comm c.carry-high.result c.carry.result in
    cc
