-- A blank image into which entries were written.
use Rattle.std.specs.Prelude.{ℕ, ◌+◌, ◌-◌, ◌*◌, List, [], ◌++◌, length, replicate}
use Rattle.page.specs.Content.{Entry}
use Rattle.page.specs.Image.{places, last_or, slots, heap}

abbrev pub heap_start : List Entry → ℕ
heap_start es = last_or 508 (places 508 es)

-- slots, the gap of zeros and the heap, with no header and no seal
abbrev pub written : List Entry → List ℕ
written es =
    replicate 72 0 ++ (slots (places 508 es)
    ++ (replicate (heap_start es - (72 + 2 * length es)) 0 ++ (heap es [] ++ replicate 4 0)))
