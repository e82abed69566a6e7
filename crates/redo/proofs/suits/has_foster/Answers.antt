use Rattle.std.proofs.Common.{◌≡◌, ℕ, false, ◌&&◌, eqb, List, Some, None, Option, refl, ap, ◌∙◌, rules}
use Rattle.std.specs.Option.{option_map_or}
use Rattle.std.specs.Ordering.{is_eq}
use Rattle.field.specs.Held.{key_of}
use Rattle.order.specs.Lawful.{Says}
use Rattle.page.specs.Content.{Foster}
use Rattle.page_view.specs.Lent.{foster_lent}
use Rattle.page_view.specs.declared.view.FosterView.{FosterView}
use Rattle.edits.specs.Suits.{fosters}
use Rattle.redo.proofs.suits.has_foster.Goals as goal

told : (says : Says) (key : List ℕ) (child : ℕ) (f : Option FosterView)
    → option_map_or (λ f. is_eq (says key f.key.now) && eqb child f.child) f false ≡ fosters says key child (foster_lent f)
unfolding fosters
told says key child None = refl
told says key child (Some f) = refl

pub returns : goal.returns
returns g c =
    let says : Says = g.O.KeyOrder.says in
    let key : List ℕ = key_of c.args.key.now in
    let is : c.is_some_and.result ≡ option_map_or (λ (f : FosterView). is_eq (says key f.key.now) && eqb c.args.child f.child) c.foster.result false = search rules in
    is ∙ told says key c.args.child c.foster.result ∙ ap (λ (f : Option Foster). fosters says key c.args.child f) c.foster.ensures
