use Rattle.seal.specs.Crc.{bit_step, steps}
use Rattle.seal.proofs.Spread.{rule, spread, table, tables}
use Rattle.seal.proofs.tables.entry.Goals as goal

-- here the checker computes the tables by their rule, and finds those of the code
pub returns : goal.returns
unfolding tables table spread steps bit_step
returns c = rule c.args.table c.args.byte c.requires.table c.requires.byte
