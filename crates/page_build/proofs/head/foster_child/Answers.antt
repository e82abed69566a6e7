use Rattle.std.proofs.Common.{◌≡◌, Some, None, Option, refl, ◌∙◌, rules}
use Rattle.std.specs.Option.{option_map_or}
use Rattle.page.specs.Content.{foster_child}
use Rattle.page_build.specs.Told.{foster_of}
use Rattle.page_build.specs.declared.header.Foster.{Foster}
use Rattle.page_build.proofs.head.foster_child.Goals as goal

told : (f : Option Foster) → option_map_or (λ g. g.child) f 0 ≡ foster_child (foster_of f)
unfolding foster_child
told None = refl
told (Some f) = refl

pub returns : goal.returns
returns c =
    let is : c.map_or.result ≡ option_map_or (λ (g : Foster). g.child) c.args.foster 0 = search rules in
    is ∙ told c.args.foster
