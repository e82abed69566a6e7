use Rattle.std.proofs.Common.{◌≡◌, ℕ, length, arith}
use lib.Bits.{bit_xor}
use Rattle.seal.proofs.Steps.{by_word}
use Rattle.seal.proofs.Runs.{run-parts, joined}
use Rattle.seal.proofs.checksum.chunk.Goals as goal

pub returns : goal.returns
returns c =
    let s = c.split_at.ensures in
    let t = c.split_at-2.ensures in
    let r = c.streams-c.ensures in
    let one : ℕ = c.streams-c.result.0 in
    let two : ℕ = bit_xor c.carry.result c.streams-c.result.1 in
    let second : length c.split_at-2.result.0.now ≡ 168 = omega arith in
    let third : length c.split_at-2.result.1.now ≡ 168 = omega (arith, c.told-bytes) in
    let w = by_word 1312 one in
    let v = by_word 1312 two in
    let j = joined one c.split_at-2.result.0.now second in
    let k = joined two c.split_at-2.result.1.now third in
    let p = run-parts c.args.from 168 c.args.bytes.now in
    let q = run-parts one 168 c.split_at.result.1.now in
    cc
