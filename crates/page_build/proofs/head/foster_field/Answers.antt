use Rattle.std.proofs.Common.{◌≡◌, replicate, Some, None, Option, refl, ap, ◌∙◌, rules}
use Rattle.std.specs.Option.{option_copied, option_map_or}
use Rattle.field.specs.Fields.{field}
use Rattle.field.specs.Held.{key_of}
use Rattle.page.specs.Content.{foster_key}
use Rattle.page_build.specs.Told.{foster_of}
use Rattle.page_build.specs.declared.header.Foster.{Foster}
use Rattle.page_build.proofs.head.foster_field.Goals as goal

told : (f : Option Foster) → option_map_or (λ g. field 16 (key_of g.key)) f (replicate 17 0) ≡ field 16 (foster_key (foster_of f))
unfolding foster_key field
told None = refl
told (Some f) = refl

pub returns : goal.returns
returns c =
    let is : c.map_or.result.now ≡ option_map_or (λ (k : Foster). field 16 (key_of k.key)) (option_copied c.as_ref.result) (replicate 17 0) = search rules in
    is ∙ ap (λ (o : Option Foster). option_map_or (λ (k : Foster). field 16 (key_of k.key)) o (replicate 17 0)) c.as_ref.ensures.value ∙ told c.args.foster.now
