use Rattle.std.proofs.Common.{ℕ, ◌+◌, ◌-◌, take, ap, ◌∙◌}
use Rattle.field.proofs.Fielded.{prefixed-is}
use Rattle.field.proofs.held.Text.prefixed.Goals as goal

pub returns : goal.returns
returns g c =
    ap (λ (i : ℕ). take (1 + i) c.args.self.now.image) c.from.ensures
    ∙ prefixed-is (g.row.SIZE - 1) c.args.self.now.image c.args.self.now.padded
