use Rattle.std.proofs.Common.{ℕ, ◌≤◌, List, length, sym, ap, subst, ◌∙◌, arith}
use Rattle.order.specs.Fences.{lent}
use Rattle.page.specs.Content.{foster_key}
use Rattle.page_view.specs.Lent.{foster_lent}
use Rattle.page_build.proofs.Shortly.{short-low, short-high, short-foster, short-key}
use Rattle.page_build.proofs.header.Header.of.Goals as goal

pub new-requires : goal.new-requires
new-requires c =
    let h = subst (λ (k : List ℕ). length k ≤ 16) (sym c.low.ensures) (short-low c.args.page.image.now c.args.page.laid) in (omega arith, omega (arith, h))

pub map-requires : goal.map-requires
map-requires c x e =
    let h = short-key _ x.now (short-high c.args.page.image.now c.args.page.laid) (sym c.high.ensures ∙ ap lent e) in (omega arith, omega (arith, h))

pub map-requires-2 : goal.map-requires-2
unfolding foster_key
map-requires-2 c x e =
    subst (λ f. length (foster_key f) ≤ 16) (sym c.foster.ensures ∙ ap foster_lent e) (short-foster c.args.page.image.now c.args.page.laid)
