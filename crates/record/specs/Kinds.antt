-- The numbers of the kinds of records.
use Rattle.std.specs.Prelude.{ℕ, ◌<◌}
use Rattle.record.specs.declared.kinds.Kind.{Kind}
use Rattle.record.specs.declared.kinds.Kind.TheVariants.{Format, Put, Remove, Foster, Adopt, Grow}

abbrev pub number_of : Kind → ℕ
number_of Format = 1
number_of Put = 2
number_of Remove = 3
number_of Foster = 4
number_of Adopt = 5
number_of Grow = 6

-- no kind has the number
abbrev pub IsNoKind : ℕ → Type 0
IsNoKind n = 0 < n → 6 < n
