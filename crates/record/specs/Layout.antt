-- The layout of a log record: 128 bytes in nine fields, the last four bytes the seal of the others.
use Rattle.std.specs.Prelude.{ℕ, ◌^◌, ◌<◌, ◌≤◌, List, ◌∷◌, ◌++◌, length, replicate, slice_index}
use Rattle.field.specs.Fields.{field, field_at, word}
use Rattle.seal.specs.Seal.{le4, sealed}

pub record Raw : Type 0 where
  pub position : ℕ
  pub page : ℕ
  pub previous : ℕ
  pub other : ℕ
  pub other_previous : ℕ
  pub child : ℕ
  pub kind : ℕ
  pub key : List ℕ
  pub value : List ℕ

abbrev pub Word : ℕ → Type 0
Word n = n < 2 ^ 32

-- what the fields can hold
pub record FieldsFit (r : Raw) : Type 0 where
  pub position : Word r.position
  pub page : Word r.page
  pub previous : Word r.previous
  pub other : Word r.other
  pub other_previous : Word r.other_previous
  pub child : Word r.child
  pub key : length r.key ≤ 16
  pub value : length r.value ≤ 64

unfoldable pub body : Raw → List ℕ
body r =
    le4 r.position ++ (le4 r.page ++ (le4 r.previous ++ (le4 r.other ++ (le4 r.other_previous ++ (le4 r.child
    ++ (r.kind ∷ (field 16 r.key ++ (field 64 r.value ++ replicate 17 0))))))))

unfoldable pub encode : Raw → List ℕ
encode r = sealed (body r)

-- what stands in the fields, whether or not the rest is as it should be
unfoldable pub parse : List ℕ → Raw
parse b = record {
  position = word b 0;
  page = word b 4;
  previous = word b 8;
  other = word b 12;
  other_previous = word b 16;
  child = word b 20;
  kind = slice_index b 24;
  key = field_at b 25;
  value = field_at b 42;
}
