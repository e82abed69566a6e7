use Rattle.std.proofs.Common.{◌/◌, length, rules}
use Rattle.std.proofs.lemmas.Iterator.{YieldsList-from_slice}
use Rattle.std.proofs.lemmas.Iterator.Consumers.{fold_from_yields_List}
use Rattle.seal.specs.Crc.{run}
use Rattle.seal.proofs.Runs.{run_chunks}
use Rattle.seal.proofs.checksum.stream.Goals as goal

pub returns : goal.returns
returns c =
    let whole = fold_from_yields_List _ run c.args.from c.fold.result c.fold.ensures.ran (YieldsList-from_slice c.as_chunks.result.0.now cc) (λ a x b q k. search rules) in
    let all = run_chunks 8 (length c.args.bytes.now / 8) c.args.from c.args.bytes.now in
    cc
