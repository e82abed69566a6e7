use Rattle.std.proofs.Common.{◌∙◌, rules}
use Rattle.std.proofs.lemmas.Iterator.{YieldsList-from_slice}
use Rattle.std.proofs.lemmas.Iterator.Consumers.{fold_from_yields_List}
use Rattle.seal.specs.Crc.{byte_step}
use Rattle.seal.proofs.Runs.{run_fold}
use Rattle.seal.proofs.checksum.tail.Goals as goal

pub returns : goal.returns
returns c =
    fold_from_yields_List _ byte_step c.args.from c.fold.result c.fold.ensures.ran (YieldsList-from_slice c.args.bytes.now cc) (λ a x b q k. search rules)
    ∙ run_fold c.args.from c.args.bytes.now
