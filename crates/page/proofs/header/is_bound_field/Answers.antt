use Rattle.std.proofs.Common.{ap, ◌∙◌, arith}
use Rattle.std.proofs.lemmas.List.{take_rest}
use Rattle.field.specs.Fields.{are_zeros}
use Rattle.page.proofs.Heads.{bound-zeros, bound-key}
use Rattle.page.proofs.header.is_bound_field.Goals as goal

pub returns-then-f : goal.returns-then-f
returns-then-f c = c.are_zeros.ensures ∙ ap are_zeros (take_rest c.args.f.now 1) ∙ bound-zeros c.args.f.now (omega arith)

pub returns-else-f : goal.returns-else-f
returns-else-f c = c.is_key_field.ensures ∙ bound-key c.args.f.now (λ e. omega arith)
