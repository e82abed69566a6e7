-- The iterator over a page's entries gives those that are left, in order.
use Rattle.std.proofs.Common.{◌≡◌, List, length, ap, subst}
use Rattle.std.proofs.lemmas.Iterator.{YieldsList}
use Rattle.std.proofs.lemmas.Iterator.Consumers.{YieldsList-from_shown}
use Rattle.page.specs.Content.{Entry}
use Rattle.page_view.specs.declared.entries.Entries.{Entries}
use Rattle.page_view.specs.Entries.{entries_left, gives_entry}
use Rattle.page_view.specs.Lent.{entry_lent}

pub all_given : (s : Entries) (es : List Entry) → entries_left s ≡ es → YieldsList gives_entry entry_lent s es
all_given s es e =
    subst (YieldsList gives_entry entry_lent s) e
    (YieldsList-from_shown gives_entry entry_lent entries_left (λ t u h. ap length h) (λ t x u h. h.0) s)
