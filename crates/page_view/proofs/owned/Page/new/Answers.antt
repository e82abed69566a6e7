use Rattle.std.proofs.Common.{Bool, cond, Some, None, Option, sym, refl, ap, ◌∙◌}
use Rattle.page.specs.Content.{Content}
use Rattle.page.specs.Form.{decode_page}
use Rattle.page.specs.Image.{parse_page}
use Rattle.page.proofs.Parsed.{sound-parts}
use Rattle.page_view.proofs.owned.Page.new.Goals as goal

pub invariant_of-result : goal.invariant_of-result
invariant_of-result g c = record { laid = (sound-parts g.O.KeyOrder.says c.args.image (sym c.check.ensures ∙ c.if-check.true)).0 }

pub returns-then-check : goal.returns-then-check
unfolding decode_page
returns-then-check g c = record {
  content = ap {B = Option Content} (λ (t : Bool). cond t (Some (parse_page c.args.image)) None) (sym c.if-check.true ∙ c.check.ensures);
  kept = refl;
}

pub returns-else-check : goal.returns-else-check
unfolding decode_page
returns-else-check g c = record {
  content = ap {B = Option Content} (λ (t : Bool). cond t (Some (parse_page c.args.image)) None) (sym c.if-check.false ∙ c.check.ensures);
  kept = tt;
}
