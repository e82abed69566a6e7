-- What opening makes of a log: the index, or the first bad position.
use Rattle.std.specs.Prelude.{ℕ, suc, Bool, cond, not, ◌&&◌, List, [], ◌∷◌, length, Some, None, Ok, Err, Option, Result, ◌==◌, nat_lt}
use Rattle.wal.specs.Journal.{Entry, entry, lost}
use Rattle.tree.specs.Log.{Change, Rec}
use Rattle.tree.specs.Log.Change.{Format, Put, Remove, Foster, Adopt, Grow}
use Rattle.images.specs.Keys.{Key, Value}
use Rattle.images.specs.Records.{decode_rec}
use Rattle.model.specs.Worlds.{newest, raised}
use Rattle.model.specs.Changes.{changed_pages}

-- whether a record follows on an index, with so many usable pages: it names born pages, none twice, with their newest positions, and a
-- birth comes in turn
abbrev pub follows : ℕ → List ℕ → ℕ → ℕ → Change Key Value → Bool
follows usable ix a b Format = length ix == 0 && nat_lt (length ix) usable
follows usable ix a b (Put p k v) = nat_lt p (length ix) && a == newest ix p
follows usable ix a b (Remove p k) = nat_lt p (length ix) && a == newest ix p
follows usable ix a b (Foster p o d) = (nat_lt p (length ix) && a == newest ix p) && (o == length ix && nat_lt (length ix) usable)
follows usable ix a b (Adopt p o k c) =
    (nat_lt p (length ix) && (nat_lt o (length ix) && nat_lt c (length ix)))
    && ((not (p == o) && (not (p == c) && not (o == c))) && (a == newest ix p && b == newest ix o))
follows usable ix a b (Grow o) = (nat_lt 0 (length ix) && a == newest ix 0) && (o == length ix && nat_lt (length ix) usable)

-- what the row has at position n, if it is not lost and well laid out
unfoldable pub entry_in : ℕ → Entry → Option (Rec Key Value)
entry_in n lost = None
entry_in n (entry b) = decode_rec n b

abbrev pub taken : ℕ → ℕ → List ℕ → Option (Rec Key Value) → (List ℕ → Result (List ℕ) ℕ) → Result (List ℕ) ℕ
taken usable n ix None go = Err n
taken usable n ix (Some r) go =
    let on = go (raised n (changed_pages r.change) ix) in
    cond (follows usable ix r.prev r.prev_other r.change) on (Err n)

-- from position n on
unfoldable pub scanning : ℕ → ℕ → List Entry → List ℕ → Result (List ℕ) ℕ
scanning usable n [] ix = Ok ix
scanning usable n (e ∷ es) ix = taken usable n ix (entry_in n e) (scanning usable (suc n) es)

-- an empty log is bad at position 1
unfoldable pub scanned : ℕ → List Entry → Result (List ℕ) ℕ
scanned usable [] = Err 1
scanned usable (e ∷ es) = scanning usable 1 (e ∷ es) []
