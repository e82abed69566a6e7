use Rattle.std.proofs.Common.{◌≡◌, ℕ, ◌^◌, ◌<◌, List, [], ◌∷◌, map, refl, ◌∙◌, arith, rules}
use Rattle.std.specs.List.{sum}
use Rattle.std.proofs.lemmas.Iterator.{YieldsList-from_map}
use Rattle.std.proofs.lemmas.Iterator.Consumers.{sum_from_yields_List, fits_from_yields_list, YieldsList-at}
use Rattle.std.proofs.lemmas.List.Sums.{sum_by-cons}
use Rattle.page.specs.Content.{Entry, cost, costs}
use Rattle.page.specs.Image.{parse_page}
use Rattle.page_view.proofs.Given.{all_given}
use Rattle.page_edit.proofs.Keeping.{room}
use Rattle.page_edit.proofs.halves.cost.Goals as goal

total : (es : List Entry) → sum (map cost es) ≡ costs es
unfolding costs
total [] = refl
total (e ∷ es) = let more = total es in sum_by-cons (λ (x : ℕ). x) (cost e) (map cost es) ∙ omega (arith, more)

pub sum-requires-clause-fits : goal.sum-requires-clause-fits
sum-requires-clause-fits c =
    let es : List Entry = (parse_page c.args.page.image.now).entries in
    let few : sum (map cost es) < 2 ^ 64 = omega (arith, total es, room c.args.page.image.now c.args.page.laid) in
    fits_from_yields_list _ _
    (YieldsList-from_map _ cost (YieldsList-at c.map.ensures.source (all_given c.entries.result es c.entries.ensures.all)) c.map.ensures.closure (λ x r q k. search rules))
    few

pub returns : goal.returns
returns c =
    let es : List Entry = (parse_page c.args.page.image.now).entries in
    sum_from_yields_List _ _ c.sum.ensures.ran
    (YieldsList-from_map _ cost (YieldsList-at c.map.ensures.source (all_given c.entries.result es c.entries.ensures.all)) c.map.ensures.closure (λ x r q k. search rules))
    ∙ total es
