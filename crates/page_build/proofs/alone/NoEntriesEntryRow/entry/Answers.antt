use Rattle.std.proofs.Common.{refl}
use Rattle.field.specs.Fields.{prefixed}
use Rattle.page.specs.Image.{entry_bytes}
use Rattle.page_build.proofs.alone.NoEntriesEntryRow.entry.Goals as goal

pub returns : goal.returns
unfolding entry_bytes prefixed
returns c = refl
