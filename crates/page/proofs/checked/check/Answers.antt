use Rattle.std.proofs.Common.{ℕ, Bool, ◌&&◌, List, sym, ap, ◌∙◌, ap₂}
use Rattle.seal.specs.Seal.{is_sealed}
use Rattle.page.specs.Form.{are_fences}
use Rattle.page.specs.Image.{parse_page}
use Rattle.page.specs.Walk.{walks_all, passes}
use Rattle.page.proofs.Exact.{exact}
use Rattle.page.proofs.checked.check.Goals as goal

pub returns-then-not-is_header : goal.returns-then-not-is_header
unfolding passes
returns-then-not-is_header g c =
    ap (λ (x : Bool). x && (are_fences g.O.KeyOrder.says (parse_page c.args.b.now) && (walks_all g.O.KeyOrder.says c.args.b.now && is_sealed c.args.b.now)))
    (sym c.if-not-is_header.true ∙ c.is_header.ensures)
    ∙ exact g.O.KeyOrder.says c.args.b.now c.fits-b c.told-b

pub returns : goal.returns
unfolding passes
returns g c =
    let same = c.of-page.ensures in
    ap₂ {C = Bool} (λ (x y : Bool). x && y) (c.are_fences.ensures ∙ ap (λ (b : List ℕ). are_fences g.O.KeyOrder.says (parse_page b)) same)
    (ap₂ {C = Bool} (λ (x y : Bool). x && y) (c.walks_all.ensures ∙ ap (walks_all g.O.KeyOrder.says) same) c.is_sealed.ensures)
    ∙ ap (λ (x : Bool). x && (are_fences g.O.KeyOrder.says (parse_page c.args.b.now) && (walks_all g.O.KeyOrder.says c.args.b.now && is_sealed c.args.b.now)))
    (sym c.if-not-is_header.false ∙ c.is_header.ensures)
    ∙ exact g.O.KeyOrder.says c.args.b.now c.fits-b c.told-b
