use Rattle.std.proofs.Common.{◌≡◌, ◌∷◌, replicate, Some, None, Option, refl, ap, ◌∙◌, rules}
use Rattle.std.specs.Option.{option_copied, option_map_or}
use Rattle.field.specs.Fields.{field}
use Rattle.field.specs.Held.{Key, key_of}
use Rattle.page.specs.Image.{bound_field}
use Rattle.page_build.specs.Told.{bound_of}
use Rattle.page_build.proofs.head.bound_field.Goals as goal

told : (b : Option Key) → option_map_or (λ k. field 16 (key_of k)) b (255 ∷ replicate 16 0) ≡ bound_field (bound_of b)
unfolding bound_field
told None = refl
told (Some key) = refl

pub returns : goal.returns
returns c =
    let is : c.map_or.result.now ≡ option_map_or (λ (k : Key). field 16 (key_of k)) (option_copied c.as_ref.result) (255 ∷ replicate 16 0) = search rules in
    is ∙ ap (λ (o : Option Key). option_map_or (λ (k : Key). field 16 (key_of k)) o (255 ∷ replicate 16 0)) c.as_ref.ensures.value ∙ told c.args.bound.now
