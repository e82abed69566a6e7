-- The entries that an iterator over a page has still to give, and how it gives the next.
use Rattle.std.specs.Prelude.{◌≡◌, ◌+◌, List, [], ◌∷◌, drop, Option, MatchOption}
use Rattle.page.specs.Content.{Entry}
use Rattle.page.specs.Image.{parse_page}
use Rattle.page_view.specs.declared.view.EntryView.{EntryView}
use Rattle.page_view.specs.declared.entries.Entries.{Entries}
use Rattle.page_view.specs.Lent.{entry_lent}

abbrev pub entries_left : Entries → List Entry
entries_left s = drop s.next (parse_page s.page.image.now).entries

-- the first of those left, in the next slot of the same page, or none
abbrev pub gives_entry : Entries → Option EntryView → Entries → Type 0
gives_entry s r t = MatchOption r (entries_left s ≡ [])
    (λ e. (entries_left s ≡ entry_lent e ∷ entries_left t) × (e.page ≡ s.page) × (e.slot ≡ s.next) × (t.page ≡ s.page) × (t.next ≡ s.next + 1))
