-- What a record of the code holds fits its fields.
use Rattle.std.proofs.Common.{ℕ}
use Rattle.record.specs.Layout.{Word, FieldsFit}
use Rattle.record.specs.Contents.{raw_of}
use Rattle.record.specs.Laws.{Fits}
use Rattle.record.specs.Model.{content_of}
use Rattle.record.specs.declared.content.Record.{Record}
use Rattle.record.specs.declared.content.Record.TheVariants.{Format, Put, Remove, Foster, Adopt, Grow}

pub content_held : (position : ℕ) (r : Record) → FieldsFit (raw_of position (content_of r)) → Word position × Fits (content_of r)
content_held position Format f = (f.position, tt)
content_held position (Put page previous key value) f = (f.position, (f.page, f.previous, (key.some, f.key), f.value))
content_held position (Remove page previous key) f = (f.position, (f.page, f.previous, (key.some, f.key)))
content_held position (Foster page previous other key) f = (f.position, (f.page, f.previous, f.other, (key.some, f.key)))
content_held position (Adopt page previous other other_previous child key) f =
    (f.position, (f.page, f.previous, f.other, f.other_previous, f.child, (key.some, f.key)))
content_held position (Grow previous other) f = (f.position, (f.previous, f.other))
