-- What the calls of a log in memory come to.
use Rattle.std.proofs.Common.{◌≡◌, ℕ, ◌+◌, ◌-◌, ◌*◌, ◌/◌, ◌<◌, ◌≤◌, min, true, false, List, [], Result, Ok, Err, map, length, get_or, take, drop, set, sym, ap, ◌∙◌, ap₂, mul-le-mul_right, div-mul-le_self, arith}
use borrow.Rule.Slice.PartMut.{put_mid}
use Rattle.std.proofs.lemmas.List.{get_or-map, length-map, map-set, take_all}
use Rattle.seal.specs.Laws.{Bytes}
use Rattle.device.specs.Disk.{Page, holds, unreadable}
use Rattle.std.specs.Simd.{first_chunks}
use Rattle.device.proofs.Parts.{length-parts, part_at, part-put, length-put}
use Rattle.wal.specs.Journal.{Entry, entry, lost, entry_at, shown}
use Rattle.wal.specs.Records.{stamped, passes}
use Rattle.wal.specs.Appends.{lasts, Appended}
use Rattle.wal.specs.Slots.{slot, slots, LastPassing, memory_room, memory_slots, memory_journal}
use Rattle.wal.specs.declared.errors.AppendError.TheVariants.{Full}
use Rattle.wal.specs.declared.errors.RecordError.{RecordError}
use Rattle.wal.proofs.Stamps.{passes-stamped, length-stamped}
use Rattle.wal.proofs.Rows.{length-slots, slot_of, slots_set, entry-within, slot-stands, row_more, last_more, last-fits, going, row-length, full-append, grows, answers-added}

abbrev blocks : List ℕ → List Page
blocks bs = map holds (first_chunks 128 (memory_room bs) bs)

pub length-memory : (bs : List ℕ) → length (memory_slots bs) ≡ memory_room bs
length-memory bs = length-slots 1 (blocks bs) ∙ length-map (first_chunks 128 (memory_room bs) bs) holds ∙ length-parts 128 (memory_room bs) bs

room_fits : (bs : List ℕ) → memory_room bs * 128 ≤ length bs
room_fits bs = omega (arith, div-mul-le_self (length bs) 128, mul-le-mul_right {m = memory_room bs} {n = length bs / 128} 128 (omega arith))

pub slot-in : (bs : List ℕ) (n : ℕ) → 0 < n → n ≤ memory_room bs → get_or (memory_slots bs) (n - 1) lost ≡ slot n (holds (take 128 (drop ((n - 1) * 128) bs)))
slot-in bs n from within =
    let ps : List (List ℕ) = first_chunks 128 (memory_room bs) bs in
    let size : length ps ≡ memory_room bs = length-parts 128 (memory_room bs) bs in
    slot_of n (blocks bs) from
    ∙ ap (slot n) (get_or-map holds ps (n - 1) [] unreadable (omega arith) ∙ ap holds (part_at 128 (memory_room bs) (n - 1) bs [] (omega arith)))

pub slot_fails : (bs block : List ℕ) (n : ℕ) → 0 < n → n ≤ memory_room bs → block ≡ take 128 (drop ((n - 1) * 128) bs) → false ≡ passes n block → get_or (memory_slots bs) (n - 1) lost ≡ lost
slot_fails bs block n from within is bad = slot-in bs n from within ∙ ap (λ (l : List ℕ). slot n (holds l)) (sym is) ∙ rw (sym bad)

pub slot-passes : (bs block : List ℕ) (n : ℕ) → 0 < n → n ≤ memory_room bs → block ≡ take 128 (drop ((n - 1) * 128) bs) → true ≡ passes n block → get_or (memory_slots bs) (n - 1) lost ≡ lost → ⊥
slot-passes bs block n from within is good gone =
    let held : entry (take 128 block) ≡ lost = sym (slot-in bs n from within ∙ ap (λ (l : List ℕ). slot n (holds l)) (sym is) ∙ rw (sym good)) ∙ gone in
    cc

-- what a read finds inside the row, and outside
pub read-inside : (bs block : List ℕ) (u n : ℕ) (r : Result (List ℕ) RecordError) → (n ≡ 0 → ⊥) → n ≤ u → n ≤ memory_room bs → block ≡ take 128 (drop ((n - 1) * 128) bs) → r ≡ shown (slot n (holds block))
    → r ≡ shown (entry_at (memory_journal bs u) n)
read-inside bs block u n r z h within is told =
    told ∙ ap (λ (l : List ℕ). shown (slot n (holds l))) is ∙ sym (ap shown (entry-within (memory_slots bs) n u z h ∙ slot-in bs n (omega arith) within))

pub memory_length : (bs : List ℕ) (u : ℕ) → length (memory_journal bs u).records ≡ min u (memory_room bs)
memory_length bs u = row-length (memory_room bs) (memory_slots bs) u [] (length-memory bs)

pub used-fits : (bs : List ℕ) (u : ℕ) → LastPassing (memory_slots bs) u → u ≤ memory_room bs
used-fits bs u ends = omega (arith, last-fits (memory_slots bs) u ends, length-memory bs)

pub memory-used : (bs : List ℕ) (u : ℕ) → LastPassing (memory_slots bs) u → length (memory_journal bs u).records ≡ u
memory-used bs u ends = omega (arith, memory_length bs u, used-fits bs u ends)

pub memory-full : (bs rs : List ℕ) (u : ℕ) → memory_room bs ≤ u → Appended (memory_journal bs u) rs (Err Full) (memory_journal bs u)
memory-full bs rs u h = full-append (memory_room bs) (memory_slots bs) u rs (length-memory bs) h

-- a record stamped into the slot of position p
module _ (bs rs ys : List ℕ) (p k : ℕ) (from : 0 < p) (within : p ≤ memory_room bs) (long : length rs ≡ 128) (bytes : Bytes rs) (is : ys ≡ stamped p rs) (width : k ≡ 128) where
  abbrev after : List ℕ
  after = put_mid ((p - 1) * 128) k bs ys

  size : length ys ≡ 128
  size = ap length is ∙ length-stamped p rs long

  pub put-room : memory_room after ≡ memory_room bs
  put-room =
      let inside : (p - 1) * 128 + 128 ≤ length bs = omega (arith, room_fits bs, mul-le-mul_right {m = p} {n = memory_room bs} 128 within) in
      ap (λ (n : ℕ). min (n / 128) 4294967295) (length-put ((p - 1) * 128) k bs ys (omega arith) (size ∙ sym width))

  stands : slot (1 + (p - 1)) (holds ys) ≡ entry (stamped p rs)
  stands =
      let e : 1 + (p - 1) ≡ p = omega arith in
      let all : take 128 ys ≡ stamped p rs = take_all 128 ys (omega (arith, size)) ∙ is in
      ap (λ (n : ℕ). slot n (holds ys)) e ∙ slot-stands p rs ys (ap (passes p) is ∙ passes-stamped p rs (omega arith) bytes) all

  pub put-slots : memory_slots after ≡ set (memory_slots bs) (p - 1) (entry (stamped p rs))
  put-slots =
      let n : ℕ = memory_room bs in
      let row : first_chunks 128 (memory_room after) after ≡ set (first_chunks 128 n bs) (p - 1) ys =
      ap (λ (m : ℕ). first_chunks 128 m after) put-room ∙ ap (λ (j : ℕ). first_chunks 128 n (put_mid ((p - 1) * 128) j bs ys)) width
      ∙ part-put 128 n (p - 1) bs ys (omega arith) (room_fits bs) size in
      ap (λ (ps : List (List ℕ)). slots 1 (map holds ps)) row ∙ ap (slots 1) (map-set holds (first_chunks 128 n bs) (p - 1) ys)
      ∙ slots_set 1 (p - 1) (blocks bs) (holds ys) ∙ ap (set (memory_slots bs) (p - 1)) stands

-- a record stamped into the slot behind the row
module _ (bs cs rs : List ℕ) (u : ℕ) (free : u < memory_room bs) (room : memory_room cs ≡ memory_room bs) (row : memory_slots cs ≡ set (memory_slots bs) (u + 1 - 1) (entry (stamped (u + 1) rs))) where
  behind : memory_slots cs ≡ set (memory_slots bs) u (entry (stamped (u + 1) rs))
  behind = let e : u + 1 - 1 ≡ u = omega arith in row ∙ ap (λ (i : ℕ). set (memory_slots bs) i (entry (stamped (u + 1) rs))) e

  pub memory-added : Appended (memory_journal bs u) rs (Ok (u + 1)) (memory_journal cs (u + 1))
  memory-added =
      let n : ℕ = memory_room bs in
      let es : List Entry = memory_slots bs in
      record {
        fate = lasts;
        leaves = ap₂ (λ (m : ℕ) (r : List Entry). going m r (u + 1) true) room behind
            ∙ ap (λ (r : List Entry). record { capacity = n; records = r; on = true }) (row_more es u rs (omega (arith, length-memory bs)))
            ∙ sym (grows n es u rs (length-memory bs) lasts free);
        answers = answers-added n es u rs (length-memory bs) free;
      }

  pub memory-ends : LastPassing (memory_slots bs) u → LastPassing (memory_slots cs) (u + 1)
  memory-ends ends = rw behind (last_more (memory_slots bs) u rs (stamped (u + 1) rs) (omega (arith, length-memory bs)) ends.beyond)
