use Rattle.std.proofs.Common.{◌+◌, ◌<◌, List, [], ◌∷◌, length, drop, sym, refl, ap, ◌∙◌, arith}
use Rattle.std.proofs.lemmas.List.{drop_more}
use Rattle.page.specs.Content.{Entry, entry_at}
use Rattle.page.specs.Content.Entry.{leaf}
use Rattle.page.specs.Image.{parse_page}
use Rattle.page_view.proofs.entries.EntriesIterator.next.Goals as goal

pub returns-clause-steps : goal.returns-clause-steps
unfolding entry_at
returns-clause-steps c =
    let es : List Entry = (parse_page c.args.self.now.page.image.now).entries in
    let i = c.args.self.now.next in
    let h : i < length es = omega (arith, c.count.ensures.value, c.if-self-count.false) in
    let e = c.entry-entry.ensures.entry in
    (drop_more es i (leaf [] []) h ∙ ap (λ x. x ∷ drop (i + 1) es) (sym e), c.entry-entry.ensures.page, c.entry-entry.ensures.slot, refl, refl)
