use Rattle.std.proofs.Common.{◌≡◌, ◌+◌, length}
use Rattle.page.specs.Content.{costs}
use Rattle.page.specs.Image.{parse_page}
use Rattle.page_edit.specs.Edits.{first_half, halfway}
use Rattle.page_view.specs.Entries.{entries_left}
use Rattle.page_edit.proofs.halves.divider.Given as goal

abbrev pub invariant-loop-entry : goal.invariant-loop-entry
invariant-loop-entry l =
    (l.spent + costs (entries_left l.entry-iterator) ≡ costs (parse_page l.fn.page.image.now).entries)
    × (l.entry-iterator.next + halfway l.total l.spent (entries_left l.entry-iterator) ≡ first_half (parse_page l.fn.page.image.now).entries)
    × (l.entry-iterator.page ≡ l.fn.page)
    × (l.entry-iterator.next + length (entries_left l.entry-iterator) ≡ length (parse_page l.fn.page.image.now).entries)
