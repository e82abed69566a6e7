-- The foster child and the entry that lent ones are.
use Rattle.std.specs.Prelude.{Some, None, Option}
use Rattle.page.specs.Content.{Foster, Entry, entry_at}
use Rattle.page.specs.Image.{parse_page}
use Rattle.page_view.specs.declared.view.EntryView.{EntryView}
use Rattle.page_view.specs.declared.view.FosterView.{FosterView}

abbrev pub foster_lent : Option FosterView → Option Foster
foster_lent None = None
foster_lent (Some f) = Some (record { key = f.key.now; child = f.child })

abbrev pub entry_lent : EntryView → Entry
entry_lent e = entry_at (parse_page e.page.image.now) e.slot
