use Rattle.std.proofs.Common.{◌≡◌, ℕ, true, List, sym, ◌∙◌, subst}
use Rattle.page.specs.Form.{is_ordered}
use Rattle.page.specs.Image.{parse_page}
use Rattle.page.proofs.Parsed.{sound-parts}
use Rattle.page_view.proofs.ordered.Ordered.new.Goals as goal

pub new-requires : goal.new-requires
new-requires g c = (sound-parts g.O.KeyOrder.says c.args.image.now (sym c.check.ensures ∙ c.if-check.true)).0

pub invariant_of-result : goal.invariant_of-result
invariant_of-result g c = record {
  ordered = subst (λ (b : List ℕ). is_ordered g.O.KeyOrder.says (parse_page b) ≡ true) (sym c.new.ensures)
      (sound-parts g.O.KeyOrder.says c.args.image.now (sym c.check.ensures ∙ c.if-check.true)).1;
}
