-- What the code's records say.
use Rattle.std.specs.Prelude.{ℕ, List, Some, None, Option}
use Rattle.field.specs.Held.{key_of, value_of}
use Rattle.record.specs.Layout.{Raw}
use Rattle.record.specs.Contents.{Content, format, put, remove, foster, adopt, grow, raw}
use Rattle.record.specs.declared.entry_key.EntryKey.{EntryKey}
use Rattle.record.specs.declared.fields.Fields.{Fields}
use Rattle.record.specs.declared.content.Change.{Change}
use Rattle.record.specs.declared.content.Record.{Record}
use Rattle.record.specs.declared.content.Record.TheVariants.{Format, Put, Remove, Foster, Adopt, Grow}

abbrev pub bytes_of : EntryKey → List ℕ
bytes_of k = key_of k.key

abbrev pub content_of : Record → Content
content_of Format = format
content_of (Put page previous key value) = put page previous (bytes_of key) (value_of value)
content_of (Remove page previous key) = remove page previous (bytes_of key)
content_of (Foster page previous other key) = foster page previous other (bytes_of key)
content_of (Adopt page previous other other_previous child key) = adopt page previous other other_previous child (bytes_of key)
content_of (Grow previous other) = grow previous other

-- the position and the content of an answer
abbrev pub answered : Option (ℕ × Record) → Option (ℕ × Content)
answered (Some r) = Some (r.0, content_of r.1)
answered None = None

abbrev pub content_option : Option Record → Option Content
content_option (Some r) = Some (content_of r)
content_option None = None

abbrev pub fields_of : Fields → Raw
fields_of f =
    raw f.position f.kind f.page f.previous f.other f.other_previous f.child (key_of f.key) (value_of f.value)

abbrev pub bytes_option : Option EntryKey → Option (List ℕ)
bytes_option (Some k) = Some (bytes_of k)
bytes_option None = None

abbrev pub change_of : Change → ℕ × ℕ
change_of p = (p.page, p.previous)

abbrev pub change_option : Option Change → Option (ℕ × ℕ)
change_option (Some p) = Some (change_of p)
change_option None = None
