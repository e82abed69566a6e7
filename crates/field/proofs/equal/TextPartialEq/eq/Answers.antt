use Rattle.std.proofs.Common.{◌-◌}
use Rattle.std.proofs.lemmas.Slice.Eq.{slice_eq-Decides, bytes_eq-Decides}
use Rattle.std.proofs.lemmas.Bool.Decides.{Decides-eqb}
use Rattle.std.specs.Bool.{one_answer}
use Rattle.field.specs.Held.{text_of}
use Rattle.field.proofs.Fielded.{same-held}
use Rattle.field.proofs.equal.TextPartialEq.eq.Goals as goal

pub returns : goal.returns
returns g c =
    let same = same-held (g.row.SIZE - 1) c.args.self.now.image c.args.other.now.image c.eq.result c.args.self.now.padded c.args.other.now.padded
    (slice_eq-Decides Decides-eqb c.args.self.now.image c.args.other.now.image c.eq.result c.eq.ensures) in
    record {
      eq = one_answer _ _ same (bytes_eq-Decides (text_of c.args.self.now) (text_of c.args.other.now));
      equals = same;
    }
