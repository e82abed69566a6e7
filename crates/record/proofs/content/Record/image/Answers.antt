use Rattle.std.proofs.Common.{ap, ◌∙◌, subst}
use Rattle.record.specs.Layout.{FieldsFit, encode}
use Rattle.record.specs.Contents.{decode_record}
use Rattle.record.specs.Model.{content_of}
use Rattle.record.proofs.Decodes.{image_reads_back}
use Rattle.record.proofs.Held.{content_held}
use Rattle.record.proofs.content.Record.image.Goals as goal

pub returns-clause-reads_back : goal.returns-clause-reads_back
returns-clause-reads_back c =
    let held = content_held c.args.position c.args.self.now (subst FieldsFit c.of.ensures c.to_bytes.ensures.fits) in
    ap decode_record (c.to_bytes.ensures.image ∙ ap encode c.of.ensures)
    ∙ image_reads_back c.args.position (content_of c.args.self.now) held.0 held.1
