use Rattle.images.proofs.Checked.{a_page_passes_exactly_if_no_check_fails}
use Rattle.images.proofs.a_page_passes_exactly_if_no_check_fails.Goals as goal

pub returns : goal.returns
returns c = a_page_passes_exactly_if_no_check_fails
