use Rattle.std.proofs.Common.{◌≡◌, ℕ, ◌<◌, Bool, List, [], ◌∷◌, Some, sym, ap, ◌∙◌, arith}
use Rattle.std.proofs.lemmas.Bool.{lt-ltb}
use Rattle.page.specs.Content.{Entry, Content}
use Rattle.page.specs.Content.Entry.{branch}
use Rattle.page.specs.Image.{encode_page, parse_page}
use Rattle.page_build.specs.Entered.{entry_in}
use Rattle.page_edit.specs.Edits.{image_if, grown_root}
use Rattle.page_edit.proofs.Dividing.{one-costs, headed-root}
use Rattle.page_edit.proofs.roots.grown_root.Goals as goal

pub build-requires : goal.build-requires
build-requires c =
    one-costs (entry_in c.of_branch-entry.result ∷ []) c.args.other
    (ap (λ (e : Entry). e ∷ []) (c.of_branch-entry.ensures ∙ ap (λ (k : List ℕ). branch k c.args.other) c.new.ensures))

pub returns : goal.returns
returns c =
    let p : Content = parse_page c.args.page.image.now in
    let es : entry_in c.of_branch-entry.result ∷ [] ≡ branch [] c.args.other ∷ [] =
    ap (λ (e : Entry). e ∷ []) (c.of_branch-entry.ensures ∙ ap (λ (k : List ℕ). branch k c.args.other) c.new.ensures) in
    let l : p.level < 255 = grind (arith, c.level-level.ensures, c.if-level.false) in
    ap (λ (q : List ℕ). Some q)
    (c.build.ensures
    ∙ ap encode_page (headed-root c.of-h.result c.args.lsn c.args.other c.level-level.result p (entry_in c.of_branch-entry.result ∷ [])
    c.of-h.ensures c.level-level.ensures es))
    ∙ ap (λ (t : Bool). image_if t (grown_root c.args.lsn c.args.other p)) (sym (lt-ltb p.level 255 l))
