use Rattle.std.proofs.Common.{◌≡◌, ◌∙◌, ap, ℕ, arith, rules}
use Rattle.std.specs.List.{fold}
use Rattle.std.specs.Simd.{first_chunks}
use Rattle.std.proofs.lemmas.Iterator.{YieldsList-from_slice, YieldsList-from_zip}
use Rattle.std.proofs.lemmas.Iterator.Consumers.{fold_from_yields_List}
use Rattle.seal.specs.Crc.{run}
use Rattle.seal.proofs.Runs.{run_whole, run_three, step_three}
use Rattle.seal.proofs.checksum.streams.Goals as goal

pub returns : goal.returns
returns c =
    let x = c.as_chunks.result.0.now in
    let y = c.as_chunks-2.result.0.now in
    let z = c.as_chunks-3.result.0.now in
    let told = fold_from_yields_List _ step_three (c.args.from, 0, 0) c.fold.result c.fold.ensures.ran
    (YieldsList-from_zip (YieldsList-from_zip (YieldsList-from_slice x cc) (YieldsList-from_slice y cc)) (YieldsList-from_slice z cc))
    (λ a x b q k. search rules) in
    let all = told ∙ run_three c.args.from 0 0 x y z (omega arith) (omega arith) in
    let p = run_whole 8 21 c.args.from c.args.first.now c.requires.first in
    let q = run_whole 8 21 0 c.args.second.now c.requires.second in
    let s = run_whole 8 21 0 c.args.third.now c.requires.third in
    let front : x ≡ first_chunks 8 21 c.args.first.now = c.as_chunks.ensures.front ∙ ap (λ (n : ℕ). first_chunks 8 n c.args.first.now) {y = 21} (omega arith) in
    let middle : y ≡ first_chunks 8 21 c.args.second.now = c.as_chunks-2.ensures.front ∙ ap (λ (n : ℕ). first_chunks 8 n c.args.second.now) {y = 21} (omega arith) in
    let back : z ≡ first_chunks 8 21 c.args.third.now = c.as_chunks-3.ensures.front ∙ ap (λ (n : ℕ). first_chunks 8 n c.args.third.now) {y = 21} (omega arith) in
    record {
      first = ap (λ (r : ℕ × ℕ × ℕ). r.0) all ∙ ap (fold run c.args.from) front ∙ p;
      second = ap (λ (r : ℕ × ℕ × ℕ). r.1) all ∙ ap (fold run 0) middle ∙ q;
      third = ap (λ (r : ℕ × ℕ × ℕ). r.2) all ∙ ap (fold run 0) back ∙ s;
    }
