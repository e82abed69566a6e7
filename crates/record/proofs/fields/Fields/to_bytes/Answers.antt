use Rattle.std.proofs.Common.{◌∙◌, arith}
use Rattle.record.specs.Layout.{Raw, FieldsFit}
use Rattle.record.specs.Model.{fields_of}
use Rattle.record.proofs.Images.{string_fits}
use Rattle.record.proofs.Parts as parts
use Rattle.record.proofs.fields.Fields.to_bytes.Goals as goal

pub returns : goal.returns
returns c =
    let r : Raw = fields_of c.args.self.now in
    let image = c.seal_array.ensures
    ∙ parts.whole r c.put_word.new.out c.put_word-2.new.out c.put_word-3.new.out c.put_word-4.new.out
    c.put_word-5.new.out c.put_word-6.new.out c.put.new.out c.put_text.new.out c.put_text-2.new.out
    c.put_word.ensures.written c.put_word-2.ensures.written c.put_word-3.ensures.written c.put_word-4.ensures.written
    c.put_word-5.ensures.written c.put_word-6.ensures.written c.put.ensures.written c.put_text.ensures.written
    c.put_text-2.ensures.written
    c.put_word.ensures.rest c.put_word-2.ensures.rest c.put_word-3.ensures.rest c.put_word-4.ensures.rest
    c.put_word-5.ensures.rest c.put_word-6.ensures.rest c.put.ensures.rest c.put_text.ensures.rest
    c.put_text-2.ensures.rest in
    let fits : FieldsFit r = record {
      position = c.put_word.ensures.fits;
      page = c.put_word-2.ensures.fits;
      previous = c.put_word-3.ensures.fits;
      other = c.put_word-4.ensures.fits;
      other_previous = c.put_word-5.ensures.fits;
      child = c.put_word-6.ensures.fits;
      key = omega (arith, string_fits c.args.self.now.key.image 0);
      value = omega (arith, string_fits c.args.self.now.value.image 0);
    } in
    record { image = image; fits = fits }
