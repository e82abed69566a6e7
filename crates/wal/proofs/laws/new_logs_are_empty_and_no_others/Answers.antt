use Rattle.wal.proofs.Rows as rows
use Rattle.wal.proofs.laws.new_logs_are_empty_and_no_others.Goals as goal

pub returns-clause-new_is_empty : goal.returns-clause-new_is_empty
returns-clause-new_is_empty c = rows.new_is_empty
