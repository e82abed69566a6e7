-- A refusal as a number and the values that are told with it.
use Rattle.std.specs.Prelude.{ℕ, zero, suc, List, [], ◌∷◌}
use Rattle.model.specs.declared.refusal.Check.{Check}
use Rattle.model.specs.declared.refusal.Check.TheVariants as check
use Rattle.model.specs.declared.refusal.Refusal.{Refusal}
use Rattle.model.specs.declared.refusal.Refusal.TheVariants.{KeyLength, ValueLength, Buffer, WorkList, Sizes, HasRecords, BadRecord, NotOpen, Absent, NoPage, LogFull, LostRecord, MisfitRecord, WrongPage, PowerFailed}

abbrev pub number_of : Refusal → ℕ
number_of KeyLength = 1
number_of ValueLength = 2
number_of Buffer = 3
number_of WorkList = 4
number_of Sizes = 5
number_of HasRecords = 6
number_of (BadRecord n) = 7
number_of NotOpen = 8
number_of Absent = 9
number_of NoPage = 10
number_of LogFull = 11
number_of (LostRecord p n) = 12
number_of (MisfitRecord p n) = 13
number_of (WrongPage p c) = 14
number_of PowerFailed = 15

abbrev pub check_number : Check → ℕ
check_number check.LowFence = 1
check_number check.HighFence = 2
check_number check.Level = 3
check_number check.NotBorn = 4

-- the check that a page of the tree fails, by its number there
abbrev pub check_of : ℕ → Check
check_of zero = check.NotBorn
check_of (suc zero) = check.LowFence
check_of (suc (suc zero)) = check.HighFence
check_of (suc (suc (suc zero))) = check.Level
check_of (suc (suc (suc (suc n)))) = check.NotBorn

abbrev pub values_of : Refusal → List ℕ
values_of KeyLength = []
values_of ValueLength = []
values_of Buffer = []
values_of WorkList = []
values_of Sizes = []
values_of HasRecords = []
values_of (BadRecord n) = n ∷ []
values_of NotOpen = []
values_of Absent = []
values_of NoPage = []
values_of LogFull = []
values_of (LostRecord p n) = p ∷ n ∷ []
values_of (MisfitRecord p n) = p ∷ n ∷ []
values_of (WrongPage p c) = p ∷ check_number c ∷ []
values_of PowerFailed = []
