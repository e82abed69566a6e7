use Rattle.std.proofs.Common.{ℕ, List, Some, Option, sym, ◌∙◌, ap₂}
use Rattle.field.specs.Fields.{field_at, word}
use Rattle.page.specs.Content.{Foster}
use Rattle.page.specs.Image.{parse_page}
use Rattle.page.proofs.Parsed.{foster-none, foster-some}
use Rattle.page_view.proofs.view.PageView.foster.Goals as goal

pub returns-then-child-eq0 : goal.returns-then-child-eq0
unfolding parse_page
returns-then-child-eq0 c =
    let b = c.args.self.now.image.now in
    sym (foster-none (field_at b 54) (word b 12) (sym c.word_at-child.ensures ∙ c.if-child-eq0.true))

pub returns : goal.returns
unfolding parse_page
returns c =
    let b = c.args.self.now.image.now in
    ap₂ {C = Option Foster} (λ (k : List ℕ) (n : ℕ). Some (record { key = k; child = n })) c.field_at.ensures c.word_at-child.ensures
    ∙ sym (foster-some (field_at b 54) (word b 12) (λ z. c.if-child-eq0.false (c.word_at-child.ensures ∙ z)))
