use Rattle.std.proofs.Common.{ℕ, ◌+◌, get_or, ap, ◌∙◌, arith, rules}
use Rattle.page_view.specs.Places.{behind_key}
use Rattle.page_view.proofs.Stands.{key-room}
use Rattle.page_view.proofs.view.EntryView.behind_key.Goals as goal

pub bounds-b-at : goal.bounds-b-at
bounds-b-at c =
    let n = c.args.self.now.page.size in
    let r = key-room c.args.self.now.page.image.now c.args.self.now.page.bytes c.args.self.now.page.laid c.args.self.now.slot c.args.self.now.within in
    omega (arith, c.place_of-at.ensures)

pub overflow_add-result : goal.overflow_add-result
overflow_add-result c =
    let n = c.args.self.now.page.size in
    let r = key-room c.args.self.now.page.image.now c.args.self.now.page.bytes c.args.self.now.page.laid c.args.self.now.slot c.args.self.now.within in
    let e = c.place_of-at.ensures in
    search rules

pub overflow_add-result-2 : goal.overflow_add-result-2
overflow_add-result-2 c =
    let n = c.args.self.now.page.size in
    let r = key-room c.args.self.now.page.image.now c.args.self.now.page.bytes c.args.self.now.page.laid c.args.self.now.slot c.args.self.now.within in
    let e = c.place_of-at.ensures in
    let f = c.args.self.now.page.bytes c.place_of-at.result in
    let g = c.from.ensures in
    search rules

pub returns : goal.returns
unfolding behind_key
returns c =
    ap (λ (n : ℕ). c.place_of-at.result + 1 + n) c.from.ensures
    ∙ ap (λ (j : ℕ). j + 1 + get_or c.args.self.now.page.image.now j 0) c.place_of-at.ensures
