use Rattle.std.proofs.Common.{◌∙◌}
use Rattle.page_log.proofs.Pages.{page-is}
use Rattle.page_log.proofs.slots.page_of.Goals as goal

pub returns : goal.returns
returns c = c.seal_array.ensures ∙ page-is _ c.args.record.now c.told-record c.put.ensures.written c.put.ensures.rest
