-- The runs made elsewhere, computed.
use mathlib.Core.Path.{refl}
use Rattle.examples.proofs.Computed.{all_definitions}
use Rattle.run_vectors.specs.Boxes.{bytes, patched, page_patched, last_passing, slot_after, memory_after, saved, restarted, page_edited, slot_edited, asked_box, zeroed, answers_of}
use Rattle.run_vectors.specs.Made.{ops_bad, ops_small, ops_full, BadRun, SmallRun, FullRun, RunsMadeElsewhereAgree}

bad_run : BadRun
unfolding all_definitions bytes patched page_patched last_passing slot_after memory_after saved restarted page_edited slot_edited asked_box zeroed answers_of ops_bad
bad_run = refl

small_run : SmallRun
unfolding all_definitions bytes patched page_patched last_passing slot_after memory_after saved restarted page_edited slot_edited asked_box zeroed answers_of ops_small
small_run = refl

full_run : FullRun
unfolding all_definitions bytes patched page_patched last_passing slot_after memory_after saved restarted page_edited slot_edited asked_box zeroed answers_of ops_full
full_run = refl

pub runs_made_elsewhere_agree : RunsMadeElsewhereAgree
runs_made_elsewhere_agree = (bad_run, small_run, full_run)
