-- The byte strings that keys and values of the code hold.
use Rattle.std.specs.Prelude.{ℕ, List}
use Rattle.field.specs.Fields.{field_at}
use Rattle.field.specs.declared.held.Text.{Text}

-- as the code names them
abbrev pub Key : Type 0
Key = Text 17

abbrev pub Value : Type 0
Value = Text 65

abbrev pub text_of : {n : ℕ} → Text n → List ℕ
text_of text = field_at text.image 0

abbrev pub key_of : Key → List ℕ
key_of key = text_of key

abbrev pub value_of : Value → List ℕ
value_of value = text_of value
