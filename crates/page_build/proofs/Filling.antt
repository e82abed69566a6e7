-- An image that is being filled with entries: what is left of them gives what all of them give.
use Rattle.std.proofs.Common.{◌≡◌, ℕ, ◌+◌, ◌-◌, ◌*◌, ◌<◌, ◌≤◌, List, [], ◌∷◌, ◌++◌, length, get_or, take, drop, replicate, sym, refl, ap, ◌∙◌, ap₂, append_assoc, append-nil, arith, length-append, take-append-drop}
use Rattle.std.proofs.lemmas.List.{take-take, drop-drop, drop-take, take-replicate, drop-replicate, drop_more, drop_all, take_at, length-replicate}
use Rattle.std.proofs.lemmas.Slice.{between_is}
use Rattle.field.specs.Fields.{le2}
use Rattle.page.specs.Content.{Entry, costs}
use Rattle.page.specs.Content.Entry.{leaf}
use Rattle.page.specs.Image.{entry_bytes, places, slots, heap, last_or}
use Rattle.page.proofs.Entries.{cost-is, heap-below, sizes, start_is, slots_length}
use Rattle.page_build.specs.Written.{heap_start, written}

pub record Filled (all left : List Entry) (out : List ℕ) (slot at : ℕ) : Type 0 where
  pub size : length out ≡ 512
  pub low : at ≤ 508
  pub room : slot + costs left ≤ at
  pub slotted : take slot out ++ slots (places at left) ≡ replicate 72 0 ++ slots (places 508 all)
  pub heaped : heap left (drop at out) ≡ heap all (replicate 4 0)
  pub blank : take (at - slot) (drop slot out) ≡ replicate (at - slot) 0
  pub begins : last_or at (places at left) ≡ heap_start all

pub filled_none : (all : List Entry) (out : List ℕ) → out ≡ replicate 512 0 → costs all ≤ 436 → Filled all all out 72 508
filled_none all out e c = record {
  size = ap length e;
  low = omega arith;
  room = omega arith;
  slotted = ap (λ (b : List ℕ). take 72 b ++ slots (places 508 all)) e;
  heaped = ap (λ (b : List ℕ). heap all (drop 508 b)) e;
  blank = ap (λ (b : List ℕ). take 436 (drop 72 b)) e;
  begins = refl;
}

blank-less : (n m : ℕ) (y : List ℕ) → take n y ≡ replicate n 0 → 2 + m ≤ n → take m (drop 2 y) ≡ replicate m 0
blank-less n m y e h =
    let s : 2 + m - 2 ≡ m = omega arith in
    sym (drop-take 2 m y) ∙ ap (drop 2) (sym (take-take (2 + m) n y h) ∙ ap (take (2 + m)) e ∙ take-replicate (2 + m) n 0 h)
    ∙ drop-replicate 2 (2 + m) 0 ∙ ap (λ (i : ℕ). replicate i 0) s

module _ (all : List Entry) (e : Entry) (left : List Entry) (out out1 out2 : List ℕ) (slot at at1 : ℕ) (f : Filled all (e ∷ left) out slot at)
    (place : at1 + length (entry_bytes e) ≡ at) (below : drop at1 out1 ≡ entry_bytes e ++ drop at out) (before : take at1 out1 ≡ take at1 out)
    (put : take (slot + 2) out2 ≡ take slot out1 ++ le2 at1) (rest : drop (slot + 2) out2 ≡ drop (slot + 2) out1) (size : length out2 ≡ 512) where
  within : slot + 2 + costs left ≤ at1
  unfolding costs
  within = let h = f.room in let d = cost-is e in omega arith

  at-is : at - length (entry_bytes e) ≡ at1
  at-is = omega arith

  front_same : take slot out1 ≡ take slot out
  front_same =
      let w = within in
      let h : slot ≤ at1 = omega arith in
      sym (take-take slot at1 out1 h) ∙ ap (take slot) before ∙ take-take slot at1 out h

  slotted-more : take (slot + 2) out2 ++ slots (places at1 left) ≡ replicate 72 0 ++ slots (places 508 all)
  unfolding slots places
  slotted-more =
      ap (λ (x : List ℕ). x ++ slots (places at1 left)) (put ∙ ap (λ (x : List ℕ). x ++ le2 at1) front_same)
      ∙ append_assoc (take slot out) (le2 at1) (slots (places at1 left))
      ∙ ap (λ (i : ℕ). take slot out ++ (le2 i ++ slots (places i left))) (sym at-is)
      ∙ f.slotted

  below-same : drop at1 out2 ≡ drop at1 out1
  below-same =
      let w = within in
      let s : slot + 2 + (at1 - (slot + 2)) ≡ at1 = omega arith in
      ap (λ (i : ℕ). drop i out2) (sym s) ∙ sym (drop-drop (at1 - (slot + 2)) (slot + 2) out2) ∙ ap (drop (at1 - (slot + 2))) rest
      ∙ drop-drop (at1 - (slot + 2)) (slot + 2) out1 ∙ ap (λ (i : ℕ). drop i out1) s

  heaped_more : heap left (drop at1 out2) ≡ heap all (replicate 4 0)
  unfolding heap
  heaped_more = ap (heap left) (below-same ∙ below) ∙ f.heaped

  blank-more : take (at1 - (slot + 2)) (drop (slot + 2) out2) ≡ replicate (at1 - (slot + 2)) 0
  blank-more =
      let w = within in
      let h : 2 + (at1 - (slot + 2)) ≤ at - slot = omega arith in
      ap (take (at1 - (slot + 2))) rest ∙ between_is out1 (slot + 2) at1 ∙ ap (drop (slot + 2)) before ∙ sym (between_is out (slot + 2) at1)
      ∙ ap (take (at1 - (slot + 2))) (sym (drop-drop 2 slot out)) ∙ blank-less (at - slot) (at1 - (slot + 2)) (drop slot out) f.blank h

  begins-more : last_or at1 (places at1 left) ≡ heap_start all
  unfolding last_or places
  begins-more = ap (λ (i : ℕ). last_or i (places i left)) (sym at-is) ∙ f.begins

  pub filled_more : Filled all left out2 (slot + 2) at1
  filled_more = record {
    size = size;
    low = (let h = f.low in omega arith);
    room = within;
    slotted = slotted-more;
    heaped = heaped_more;
    blank = blank-more;
    begins = begins-more;
  }

-- there is room for the next entry and its slot
pub fits : (all left : List Entry) (e : Entry) (out : List ℕ) (slot at : ℕ) → Filled all (e ∷ left) out slot at
    → (length (entry_bytes e) ≤ at) × (at ≤ length out) × (slot + 2 + length (entry_bytes e) ≤ at)
unfolding costs
fits all left e out slot at f =
    let r = f.room in
    let c = cost-is e in
    (omega arith, omega (arith, f.low, f.size), omega arith)

pub filled-all : (all : List Entry) (out : List ℕ) (slot at : ℕ) → slot ≡ 72 + 2 * length all → Filled all [] out slot at → out ≡ written all
unfolding slots places heap last_or costs
filled-all all out slot at s f =
    let r = f.room in
    let b = f.begins in
    let t : slot + (at - slot) ≡ at = omega arith in
    let cut : drop slot out ≡ replicate (at - slot) 0 ++ (heap all [] ++ replicate 4 0) =
    sym (take-append-drop (at - slot) (drop slot out))
    ∙ ap₂ (λ (x y : List ℕ). x ++ y) f.blank
    (drop-drop (at - slot) slot out ∙ ap (λ (i : ℕ). drop i out) t ∙ f.heaped ∙ heap-below all (replicate 4 0)) in
    sym (take-append-drop slot out)
    ∙ ap₂ (λ (x y : List ℕ). x ++ y) (sym (append-nil (take slot out)) ∙ f.slotted) cut
    ∙ append_assoc (replicate 72 0) (slots (places 508 all)) (replicate (at - slot) 0 ++ (heap all [] ++ replicate 4 0))
    ∙ ap₂ (λ (i j : ℕ). replicate 72 0 ++ (slots (places 508 all) ++ (replicate (j - i) 0 ++ (heap all [] ++ replicate 4 0)))) s b

-- the entries that are left, with the first of them
pub left-more : (es : List Entry) (i : ℕ) → i < length es → drop i es ≡ get_or es i (leaf [] []) ∷ drop (i + 1) es
left-more es i h = drop_more es i (leaf [] []) h

pub left-none : (es : List Entry) (i : ℕ) → length es ≤ i → drop i es ≡ []
left-none es i h = drop_all i es h

-- a blank image's places are those of a page: the heap begins behind the slots, and both end at 508
pub starts : (es : List Entry) → costs es ≤ 436 → (72 + 2 * length es ≤ heap_start es) × (heap_start es + length (heap es []) ≡ 508)
starts es r =
    let s = sizes es in
    let h = start_is es 508 (omega arith) in
    (omega arith, h)

middle : List Entry → List ℕ
middle es = slots (places 508 es) ++ (replicate (heap_start es - (72 + 2 * length es)) 0 ++ heap es [])

middle-length : (es : List Entry) → costs es ≤ 436 → length (middle es) ≡ 436
unfolding middle
middle-length es r =
    let b = starts es r in
    let s = slots_length es 508 in
    simp (length-append, length-replicate) (omega arith)

-- with a header on top, what is to be sealed
pub under-head : (top : List ℕ) (es : List Entry) (out : List ℕ) → length top ≡ 72 → costs es ≤ 436
    → take (0 + length top) out ≡ take 0 (written es) ++ top → drop (0 + length top) out ≡ drop (0 + length top) (written es)
    → take 508 out ≡ top ++ (slots (places 508 es) ++ (replicate (heap_start es - (72 + 2 * length es)) 0 ++ heap es []))
unfolding middle
under-head top es out l r front back =
    let gap : List ℕ = replicate (heap_start es - (72 + 2 * length es)) 0 in
    let n : 0 + length top ≡ 72 = omega arith in
    let rest : drop 72 out ≡ middle es ++ replicate 4 0 =
    ap (λ (i : ℕ). drop i out) (sym n) ∙ back ∙ ap (λ (i : ℕ). drop i (written es)) n
    ∙ sym (append_assoc (slots (places 508 es)) (gap ++ heap es []) (replicate 4 0)
    ∙ ap (λ (x : List ℕ). slots (places 508 es) ++ x) (append_assoc gap (heap es []) (replicate 4 0))) in
    let whole : out ≡ (top ++ middle es) ++ replicate 4 0 =
    sym (take-append-drop 72 out) ∙ ap₂ (λ (x y : List ℕ). x ++ y) (ap (λ (i : ℕ). take i out) (sym n) ∙ front) rest
    ∙ sym (append_assoc top (middle es) (replicate 4 0)) in
    let m = middle-length es r in
    let size : length (top ++ middle es) ≡ 508 = length-append top (middle es) ∙ omega (arith, m, l) in
    ap (take 508) whole ∙ take_at (top ++ middle es) (replicate 4 0) 508 size

-- entries are few, and the heap begins within the page
pub few : (es : List Entry) → costs es ≤ 436 → (length es < 65536) × (heap_start es < 65536)
few es r =
    let b = starts es r in
    (omega arith, omega arith)

-- a loop's turn over the costs
pub costs-more : (es : List Entry) (i : ℕ) (bytes : List ℕ) → i < length es → bytes ≡ entry_bytes (get_or es i (leaf [] []))
    → costs (drop i es) ≡ 2 + length bytes + costs (drop (i + 1) es)
unfolding costs
costs-more es i bytes h e =
    let c = cost-is (get_or es i (leaf [] [])) in
    let l = ap length e in
    ap costs (left-more es i h) ∙ omega arith

pub costs-none : (es : List Entry) (i : ℕ) → length es ≤ i → costs (drop i es) ≡ 0
unfolding costs
costs-none es i h = ap costs (left-none es i h)
