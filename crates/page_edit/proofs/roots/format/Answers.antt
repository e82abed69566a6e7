use Rattle.std.proofs.Common.{ℕ, List, [], None, ap, ◌∙◌}
use Rattle.page.specs.Image.{encode_page}
use Rattle.page_edit.specs.Edits.{formatted}
use Rattle.page_edit.proofs.Dividing.{none-costs}
use Rattle.page_edit.proofs.roots.format.Goals as goal

pub build-requires : goal.build-requires
build-requires c = none-costs

pub returns : goal.returns
unfolding formatted
returns c =
    c.build.ensures
    ∙ ap (λ (k : List ℕ). encode_page (record { number = 0; lsn = c.args.lsn; level = 0; low = k; high = None; foster = None; entries = [] })) c.new.ensures
