-- The worked examples, computed.
use Rattle.std.proofs.Common.{ℕ, refl}
use Rattle.seal.specs.Crc.{bit_step, steps, byte_step, run}
use Rattle.field.specs.Fields.{le2, half, word, prefixed, field, field_at, are_zeros, is_field}
use Rattle.record.specs.Layout.{body, encode, parse}
use Rattle.page.specs.Content.{entry_key, value_in, child_in, entry_at, keys_in, foster_key, foster_child, upper_of, upper, cost, costs}
use Rattle.page.specs.Form.{is_child, is_entry, are_entries, are_enough, is_short, is_foster, is_form, is_between, are_fences, is_rising, is_first, are_keys, is_ordered, is_laid, is_sound, decode_page}
use Rattle.page.specs.Image.{entry_bytes, places, last_or, slots, heap, bound_field, header, page_body, encode_page, front, after as page-image-after, entry_of, entries_at, bound_at, foster_of, parse_page}
use Rattle.wal.specs.Records.{stamped, passes}
use Rattle.tree.specs.Tree.{upd}
use Rattle.images.specs.Images.{leaves, branches, content_of, encode_image, bound_in, foster_in, pairs_in, kids_in, entries_in, image_in, stored_as, stored_in, stored_page}
use Rattle.images.specs.Keys.{fence_if, fence_of, key_of, value_if, value_of}
use Rattle.images.specs.Records.{content_for, encode_rec, rec_of, decode_rec, names_well, misfit, or_misfit, chain_rec, entry_rec}
use Rattle.model.specs.Calls.{key_asked, fence_asked, value_asked, room_asked, work_asked, sized, sizes_asked, waking, empty_asked, creating, opening, put_plan, remove_plan, get_plan, seeking, next_plan, tend_plan}
use Rattle.model.specs.Changes.{changing, paging, rooming, one_change, formatting, putting, removing, tending}
use Rattle.model.specs.Fetches.{image_at, chain, mending, fetching}
use Rattle.model.specs.Opening.{entry_in, scanning, scanned}
use Rattle.model.specs.Plans.{after as model-plans-after}
use Rattle.model.specs.Runs.{records_from}
use Rattle.model.specs.Ways.{going, way}
use Rattle.examples.specs.Telling.{new_store, planned, does, cut_off_world, cut, step_told, told, tells, harmed, losing, as_page, page_then, brief, briefs}
use Rattle.examples.specs.Worked.{full_key, full_value, put_full, get_full, puts, gets, five, six, chain_of, length_of, fitting, six_told, tended_told, cut_told, old_page, bytes_of, same_page}
use Rattle.examples.specs.Worked.{CheckValue, TwoOrders, Costs, SixEntries, TendedTwice, PowerFails, Rebuilt, LostRecords, WorkedExamples}

-- what the definitions compute with
unfoldable pub all_definitions : ℕ
unfolding bit_step steps byte_step run le2 half word prefixed field field_at are_zeros is_field body encode parse entry_key value_in child_in entry_at keys_in foster_key foster_child upper_of upper cost costs is_child is_entry are_entries are_enough is_short is_foster is_form is_between are_fences is_rising is_first are_keys is_ordered is_laid is_sound decode_page entry_bytes places last_or slots heap bound_field header page_body encode_page front page-image-after entry_of entries_at bound_at foster_of parse_page stamped passes upd leaves branches content_of encode_image bound_in foster_in pairs_in kids_in entries_in image_in stored_as stored_in stored_page fence_if fence_of key_of value_if value_of content_for encode_rec rec_of decode_rec names_well misfit or_misfit chain_rec entry_rec key_asked fence_asked value_asked room_asked work_asked sized sizes_asked waking empty_asked creating opening put_plan remove_plan get_plan seeking next_plan tend_plan changing paging rooming one_change formatting putting removing tending image_at chain mending fetching entry_in scanning scanned model-plans-after records_from going way new_store planned does cut_off_world cut step_told told tells harmed losing as_page page_then brief briefs full_key full_value put_full get_full puts gets five six chain_of length_of fitting six_told tended_told cut_told old_page bytes_of same_page
all_definitions = 0

check_value : CheckValue
unfolding all_definitions
check_value = refl

two_orders : TwoOrders
unfolding all_definitions
two_orders = (refl, refl)

costs-told : Costs
unfolding all_definitions
costs-told = refl

six_entries : SixEntries
unfolding all_definitions
six_entries = refl

tended_twice : TendedTwice
unfolding all_definitions
tended_twice = refl

power_fails : PowerFails
unfolding all_definitions
power_fails = refl

rebuilt : Rebuilt
unfolding all_definitions
rebuilt = (refl, refl)

lost_records : LostRecords
unfolding all_definitions
lost_records = refl

pub worked_examples : WorkedExamples
worked_examples = (check_value, two_orders, costs-told, six_entries, tended_twice, power_fails, rebuilt, lost_records)
