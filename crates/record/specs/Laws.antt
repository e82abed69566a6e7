-- What holds of images and contents, over the definitions alone.
use Rattle.std.specs.Prelude.{◌≡◌, ℕ, ◌≤◌, true, List, length, Some}
use Rattle.seal.specs.Laws.{Bytes}
use Rattle.seal.specs.Seal.{is_sealed}
use Rattle.record.specs.Layout.{Word}
use Rattle.record.specs.Contents.{Content, format, put, remove, foster, adopt, grow, raw_of, encode_record, decode_record}

abbrev pub IsKey : List ℕ → Type 0
IsKey key = (1 ≤ length key) × (length key ≤ 16)

-- what the fields of a content can hold
abbrev pub Fits : Content → Type 0
Fits format = Unit {0}
Fits (put page previous key value) = Word page × Word previous × IsKey key × (length value ≤ 64)
Fits (remove page previous key) = Word page × Word previous × IsKey key
Fits (foster page previous other key) = Word page × Word previous × Word other × IsKey key
Fits (adopt page previous other other_previous child key) = Word page × Word previous × Word other × Word other_previous × Word child × IsKey key
Fits (grow previous other) = Word previous × Word other

abbrev pub ImageReadsBack : Type 0
ImageReadsBack = (position : ℕ) (c : Content) → Word position → Fits c → decode_record (encode_record position c) ≡ Some (position, c)

abbrev pub OneImage : Type 0
OneImage = (b : List ℕ) (position : ℕ) (c : Content) → decode_record b ≡ Some (position, c) → encode_record position c ≡ b

abbrev pub DecodedFits : Type 0
DecodedFits = (b : List ℕ) (position : ℕ) (c : Content) → Bytes b → decode_record b ≡ Some (position, c) → Word position × Fits c

abbrev pub ImageHas128Bytes : Type 0
ImageHas128Bytes = (position : ℕ) (c : Content) → Fits c → length (encode_record position c) ≡ 128

abbrev pub ImageIsSealed : Type 0
ImageIsSealed = (position : ℕ) (c : Content) → Fits c → Bytes (raw_of position c).key → Bytes (raw_of position c).value
    → is_sealed (encode_record position c) ≡ true
