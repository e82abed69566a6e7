-- Eight worked examples, as one statement about the definitions.
use Rattle.std.specs.Prelude.{◌≡◌, ℕ, Bool, true, List, [], ◌∷◌, ◌++◌, length, drop, replicate, codes}
use Rattle.std.specs.declared.cmp.Ordering.TheVariants.{Less, Greater}
use Rattle.std.specs.Str.{bytes_eq}
use Rattle.seal.specs.Crc.{crc}
use Rattle.order.specs.Orders.{by_byte, by_length}
use Rattle.device.specs.Disk.{Page, holds, unreadable, page_at}
use Rattle.device.specs.Writes.{keeps_old}
use Rattle.wal.specs.Appends.{not_added}
use Rattle.model.specs.Fetches.{chain}
use Rattle.model.specs.Calls.{Call}
use Rattle.model.specs.Calls.Call.{Create, Open, Put, Get, Tend}
use Rattle.examples.specs.Telling.{Store, new_store, does, cut, tells, harmed, losing, page_then, briefs}

-- the i-th of ascending keys of 16 bytes, and its value of 64: a full entry
unfoldable pub full_key : ℕ → List ℕ
full_key i = replicate 15 107 ++ (i ∷ [])

unfoldable pub full_value : ℕ → List ℕ
full_value i = replicate 64 i

unfoldable pub put_full : ℕ → Call
put_full i = Put (full_key i) (full_value i) 32

unfoldable pub get_full : ℕ → Call
get_full i = Get (full_key i) 64 32

unfoldable pub puts : Store → List ℕ → Store
puts s [] = s
puts s (i ∷ is) = puts (does s (put_full i)) is

unfoldable pub gets : Store → List ℕ → List (List ℕ)
gets s [] = []
gets s (i ∷ is) = tells s (get_full i) ∷ gets s is

-- five full entries, and six
unfoldable pub five : Store
five = puts (does new_store Create) (1 ∷ 2 ∷ 3 ∷ 4 ∷ 5 ∷ [])

unfoldable pub six : Store
six = does five (put_full 6)

unfoldable pub chain_of : Store → ℕ → ℕ → List ℕ
chain_of s p n = chain s.world.journal 100 p n

unfoldable pub length_of : Store → ℕ
length_of s = length s.world.journal.records

-- the published check value
abbrev pub CheckValue : Type 0
CheckValue = crc (codes "123456789") ≡ 0xE3069283

-- "100-50" precedes "50-30" in byte order and follows it in length-first order
abbrev pub TwoOrders : Type 0
TwoOrders = (by_byte (codes "100-50") (codes "50-30") ≡ Less) × (by_length (codes "100-50") (codes "50-30") ≡ Greater)

-- after five full entries, 420 of 436, an entry of 16 fits (a record more), and one of 17 does not (two)
unfoldable pub fitting : Store → List ℕ
fitting s = length_of (does s (Put (codes "twelve") (codes "bytes.") 32)) ∷ length_of (does s (Put (codes "twelve") (codes "bytes..") 32)) ∷ []

abbrev pub Costs : Type 0
Costs = fitting five ≡ 7 ∷ 8 ∷ []

-- six ascending full entries from create: format at 1, puts at 2 to 6, foster at 7 with the fourth key, put at 8 on page 1. The chain of page
-- 0 is 7 to 1, that of page 1 is 8 to 1
unfoldable pub six_told : Store → List (List ℕ)
six_told s = chain_of s 0 7 ∷ chain_of s 1 8 ∷ s.world.index ∷ briefs s.world.journal.records

abbrev pub SixEntries : Type 0
SixEntries = six_told six ≡
    (7 ∷ 6 ∷ 5 ∷ 4 ∷ 3 ∷ 2 ∷ 1 ∷ []) ∷ (8 ∷ 7 ∷ 6 ∷ 5 ∷ 4 ∷ 3 ∷ 2 ∷ 1 ∷ []) ∷ (7 ∷ 8 ∷ [])
    ∷ (1 ∷ 0 ∷ 0 ∷ 0 ∷ []) ∷ (2 ∷ 0 ∷ 0 ∷ 1 ∷ []) ∷ (2 ∷ 0 ∷ 0 ∷ 2 ∷ []) ∷ (2 ∷ 0 ∷ 0 ∷ 3 ∷ []) ∷ (2 ∷ 0 ∷ 0 ∷ 4 ∷ []) ∷ (2 ∷ 0 ∷ 0 ∷ 5 ∷ [])
    ∷ (4 ∷ 0 ∷ 1 ∷ 4 ∷ []) ∷ (2 ∷ 1 ∷ 0 ∷ 6 ∷ []) ∷ []

-- tended twice with the sixth key: grow at 9, page 2 born; adopt at 10. The chain of page 2 is 10, 9, then 7 to 1
unfoldable pub tended_told : Store → List (List ℕ)
tended_told s =
    let t = does s (Tend (full_key 6) 32) in
    let u = does t (Tend (full_key 6) 32) in
    tells s (Tend (full_key 6) 32) ∷ tells t (Tend (full_key 6) 32) ∷ tells u (Tend (full_key 6) 32)
    ∷ u.world.index ∷ chain_of u 2 10 ∷ briefs (drop 8 u.world.journal.records)

abbrev pub TendedTwice : Type 0
TendedTwice = tended_told six ≡
    (0 ∷ 1 ∷ []) ∷ (0 ∷ 2 ∷ []) ∷ (0 ∷ 0 ∷ [])
    ∷ (10 ∷ 8 ∷ 10 ∷ []) ∷ (10 ∷ 9 ∷ 7 ∷ 6 ∷ 5 ∷ 4 ∷ 3 ∷ 2 ∷ 1 ∷ []) ∷ (6 ∷ 0 ∷ 2 ∷ 0 ∷ []) ∷ (5 ∷ 0 ∷ 2 ∷ 4 ∷ []) ∷ []

-- power fails at append 8, whose record is not added: reopened, there are five keys and seven records
unfoldable pub cut_told : Store → List (List ℕ)
cut_told s =
    let t = cut 3 not_added keeps_old s (put_full 6) in
    let u = does t Open in
    tells t (get_full 1) ∷ tells t Open ∷ (length_of u ∷ []) ∷ gets u (1 ∷ 2 ∷ 3 ∷ 4 ∷ 5 ∷ 6 ∷ [])

abbrev pub PowerFails : Type 0
PowerFails = cut_told five ≡
    (8 ∷ []) ∷ (0 ∷ []) ∷ (7 ∷ []) ∷ (0 ∷ full_value 1) ∷ (0 ∷ full_value 2) ∷ (0 ∷ full_value 3) ∷ (0 ∷ full_value 4) ∷ (0 ∷ full_value 5) ∷ (9 ∷ []) ∷ []

-- page 1's image of position 7 is put back: it is rebuilt, and the sixth value given
unfoldable pub old_page : Store → Store
old_page s = harmed s 1 (page_then s 1 7)

unfoldable pub bytes_of : Page → List ℕ
bytes_of (holds b) = b
bytes_of unreadable = []

unfoldable pub same_page : Store → Store → ℕ → Bool
same_page s t p = bytes_eq (bytes_of (page_at s.world.disk p)) (bytes_of (page_at t.world.disk p))

abbrev pub Rebuilt : Type 0
Rebuilt = (tells (old_page six) (get_full 6) ≡ 0 ∷ full_value 6) × (same_page (does (old_page six) (get_full 6)) six 1 ≡ true)

-- the same with records 3 and 5 lost: 12, page 1, position 5
abbrev pub LostRecords : Type 0
LostRecords = tells (losing (losing (old_page six) 2) 4) (get_full 6) ≡ 12 ∷ 1 ∷ 5 ∷ []

abbrev pub WorkedExamples : Type 0
WorkedExamples = CheckValue × TwoOrders × Costs × SixEntries × TendedTwice × PowerFails × Rebuilt × LostRecords
