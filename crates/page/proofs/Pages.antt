-- A content is read back from its image.
use Rattle.std.proofs.Common.{◌≡◌, ℕ, ◌+◌, ◌-◌, ◌*◌, ◌^◌, ◌<◌, ◌≤◌, Bool, true, false, cond, not, ◌&&◌, eqb, leb, List, [], ◌∷◌, ◌++◌, length, get_or, take, drop, replicate, Some, None, Option, sym, refl, ap, ◌∙◌, ap₂, append_assoc, arith}
use Rattle.std.proofs.lemmas.List.{take_at, drop_at, drop-drop, get_or_at, length-append, length-replicate}
use Rattle.std.proofs.lemmas.Bool.{and_parts, leb-true, ne_eqb, not-true}
use Rattle.field.specs.Fields.{le2, half, word, field, field_at}
use Rattle.order.specs.Fences.{Bound}
use Rattle.seal.specs.Crc.{crc}
use Rattle.seal.specs.Seal.{le4}
use Rattle.seal.proofs.Seals.{number_back}
use Rattle.page.specs.Content.{Content, Entry, Foster, foster_key, foster_child, costs}
use Rattle.page.specs.Image.{bound_field, bound_at, foster_of, header, page_body, encode_page, places, slots, heap, last_or, entries_at, parse_page}
use Rattle.page.specs.Form.{is_child, is_short, is_foster, are_enough, are_entries, is_form}
use Rattle.page.specs.Laws.{AllKinded, Fits}
use Rattle.page.proofs.Standing.{Short, short_back, half-le2, field-length, bound-length}
use Rattle.page.proofs.Entries.{heap-below, entries_back, sizes, start_is, slots_length}

-- what of a content reaches into its image
pub record Fit (p : Content) : Type 0 where
  pub number : p.number < 2 ^ 32
  pub lsn : p.lsn < 2 ^ 32
  pub child : foster_child p.foster < 2 ^ 32
  pub foster : foster_of (foster_key p.foster) (foster_child p.foster) ≡ p.foster
  pub low : length p.low ≤ 16
  pub high : Short p.high
  pub fkey : length (foster_key p.foster) ≤ 16
  pub kinded : AllKinded p.level p.entries
  pub room : costs p.entries ≤ 436

foster-whole : (own : ℕ) (f : Option Foster) → is_foster own f ≡ true
    → (length (foster_key f) ≤ 16) × (foster_of (foster_key f) (foster_child f) ≡ f)
unfolding is_foster is_child foster_of foster_key foster_child
foster-whole own None e = (omega arith, refl)
foster-whole own (Some f) e =
    let s = and_parts (leb (length f.key) 16) _ e in
    let c = and_parts (not (eqb f.child 0)) _ s.1 in
    (leb-true (length f.key) 16 s.0, ap {B = Option Foster} (λ (t : Bool). cond t None (Some f)) (not-true (eqb f.child 0) c.0))

-- what a form's tests say
pub record Formed (p : Content) : Type 0 where
  pub low : leb (length p.low) 16 ≡ true
  pub high : is_short p.high ≡ true
  pub foster : is_foster p.number p.foster ≡ true
  pub enough : are_enough p.level p.entries ≡ true
  pub entries : are_entries p.number p.entries ≡ true
  pub room : leb (costs p.entries) 436 ≡ true

pub formed : (p : Content) → is_form p ≡ true → Formed p
unfolding is_form
formed p e =
    let c = and_parts (leb (length p.low) 16 && (is_short p.high && is_foster p.number p.foster)) _ e in
    let d = and_parts (leb (length p.low) 16) _ c.0 in
    let g = and_parts (is_short p.high) (is_foster p.number p.foster) d.1 in
    let h = and_parts (are_enough p.level p.entries) _ c.1 in
    let j = and_parts (are_entries p.number p.entries) (leb (costs p.entries) 436) h.1 in
    record { low = d.0; high = g.0; foster = g.1; enough = h.0; entries = j.0; room = j.1 }

pub fit : (p : Content) → Fits p → is_form p ≡ true → Fit p
fit p f e =
    let w = formed p e in
    let o = foster-whole p.number p.foster w.foster in
    record {
      number = f.number;
      lsn = f.lsn;
      child = f.foster;
      foster = o.1;
      low = leb-true (length p.low) 16 w.low;
      high = short_back p.high w.high;
      fkey = o.0;
      kinded = f.kinded;
      room = leb-true (costs p.entries) 436 w.room;
    }

field_len : (p k z w : List ℕ) (n : ℕ) → length p ≡ n → get_or (p ++ ((length k ∷ (k ++ z)) ++ w)) n 0 ≡ length k
field_len p k z w n e = get_or_at p (length k) ((k ++ z) ++ w) 0 n e

field_in : (p k z w : List ℕ) (n : ℕ) → length p ≡ n → field_at (p ++ ((length k ∷ (k ++ z)) ++ w)) n ≡ k
unfolding field_at
field_in p k z w n e =
    let l : List ℕ = p ++ ((length k ∷ (k ++ z)) ++ w) in
    ap₂ take (field_len p k z w n e) (sym (drop-drop 1 n l) ∙ ap (drop 1) (drop_at p ((length k ∷ (k ++ z)) ++ w) n e))
    ∙ ap (take (length k)) (append_assoc k z w) ∙ take_at k (z ++ w) (length k) refl

bound-in : (p w : List ℕ) (h : Bound) (n : ℕ) → Short h → length p ≡ n → bound_at (p ++ (bound_field h ++ w)) n ≡ h
unfolding bound_at bound_field field
bound-in p w None n s e =
    ap (λ (x : ℕ). cond (eqb x 255) None (Some (field_at (p ++ (255 ∷ (replicate 16 0 ++ w))) n))) (get_or_at p 255 (replicate 16 0 ++ w) 0 n e)
bound-in p w (Some k) n s e =
    let z : List ℕ = replicate (16 - length k) 0 in
    let l : List ℕ = p ++ ((length k ∷ (k ++ z)) ++ w) in
    let t : eqb (get_or l n 0) 255 ≡ false = ap (λ (x : ℕ). eqb x 255) (field_len p k z w n e) ∙ ne_eqb (length k) 255 (λ q. omega arith) in
    ap (λ (b : Bool). cond b None (Some (field_at l n))) t ∙ ap Some (field_in p k z w n e)

-- what follows the first 20 bytes, with what lies after the header
unfoldable pub from20 : Content → List ℕ → List ℕ → List ℕ
from20 p x s = ((field 16 p.low ++ (bound_field p.high ++ (field 16 (foster_key p.foster) ++ (0 ∷ [])))) ++ x) ++ s

module _ (p : Content) (f : Fit p) (x s : List ℕ) where
  low_back : field_at (from20 p x s) 0 ≡ p.low
  unfolding from20 field
  low_back =
      let e : from20 p x s ≡ [] ++ (field 16 p.low ++ (bound_field p.high ++ (field 16 (foster_key p.foster) ++ (0 ∷ (x ++ s))))) = simp append_assoc in
      ap (λ (l : List ℕ). field_at l 0) e ∙ field_in [] p.low (replicate (16 - length p.low) 0) (bound_field p.high ++ (field 16 (foster_key p.foster) ++ (0 ∷ (x ++ s)))) 0 refl

  high_back : bound_at (from20 p x s) 17 ≡ p.high
  unfolding from20
  high_back =
      let e : from20 p x s ≡ field 16 p.low ++ (bound_field p.high ++ (field 16 (foster_key p.foster) ++ (0 ∷ (x ++ s)))) = simp append_assoc in
      ap (λ (l : List ℕ). bound_at l 17) e ∙ bound-in (field 16 p.low) (field 16 (foster_key p.foster) ++ (0 ∷ (x ++ s))) p.high 17 f.high (field-length p.low f.low)

  front34 : length (field 16 p.low ++ bound_field p.high) ≡ 34
  front34 = let a = field-length p.low f.low in let b = bound-length p.high f.high in length-append (field 16 p.low) (bound_field p.high) ∙ omega arith

  fkey_back : field_at (from20 p x s) 34 ≡ foster_key p.foster
  unfolding from20 field
  fkey_back =
      let e : from20 p x s ≡ (field 16 p.low ++ bound_field p.high) ++ (field 16 (foster_key p.foster) ++ (0 ∷ (x ++ s))) = simp append_assoc in
      ap (λ (l : List ℕ). field_at l 34) e
      ∙ field_in (field 16 p.low ++ bound_field p.high) (foster_key p.foster) (replicate (16 - length (foster_key p.foster)) 0) (0 ∷ (x ++ s)) 34 front34

  rest_back : drop 52 (from20 p x s) ≡ x ++ s
  unfolding from20
  rest_back =
      let q : List ℕ = (field 16 p.low ++ bound_field p.high) ++ (field 16 (foster_key p.foster) ++ (0 ∷ [])) in
      let e : from20 p x s ≡ q ++ (x ++ s) = simp append_assoc in
      let c = field-length (foster_key p.foster) f.fkey in
      let d = length-append (field 16 (foster_key p.foster)) (0 ∷ []) in
      let g = length-append (field 16 p.low ++ bound_field p.high) (field 16 (foster_key p.foster) ++ (0 ∷ [])) in
      let h = front34 in
      let n : length q ≡ 52 = omega arith in
      ap (drop 52) e ∙ drop_at q (x ++ s) 52 n

regroup : (h s g k z : List ℕ) → (h ++ (s ++ (g ++ k))) ++ z ≡ (h ++ (s ++ g)) ++ (k ++ z)
regroup h s g k z = simp append_assoc

-- the parts after the header
unfoldable pub at : Content → List ℕ
at p = places 508 p.entries

unfoldable pub start : Content → ℕ
start p = last_or 508 (at p)

unfoldable pub gap : Content → List ℕ
gap p = replicate (start p - (72 + 2 * length p.entries)) 0

unfoldable pub rest : Content → List ℕ
rest p = slots (at p) ++ (gap p ++ heap p.entries [])

unfoldable pub seal : Content → List ℕ
seal p = le4 (crc (page_body p))

module _ (p : Content) (f : Fit p) where
  pub header-length : (n : ℕ) → length (header p n) ≡ 72
  unfolding header le2
  header-length n =
      let a = field-length p.low f.low in
      let b = bound-length p.high f.high in
      let c = field-length (foster_key p.foster) f.fkey in
      let d = length-append (field 16 p.low) (bound_field p.high ++ (field 16 (foster_key p.foster) ++ (0 ∷ []))) in
      let e = length-append (bound_field p.high) (field 16 (foster_key p.foster) ++ (0 ∷ [])) in
      let g = length-append (field 16 (foster_key p.foster)) (0 ∷ []) in
      omega arith

  pub count_fits : length p.entries < 2 ^ 16
  count_fits = let a = sizes p.entries in let r = f.room in omega arith

  -- all that lies before the heap
  unfoldable pub before : List ℕ
  before = header p (start p) ++ (slots (at p) ++ gap p)

  pub before-length : length before + length (heap p.entries []) ≡ 508
  unfolding before gap start at
  before-length =
      let es : List Entry = p.entries in
      let r = f.room in
      let a = sizes es in
      let h : length (heap es []) ≤ 508 = omega arith in
      let b = start_is es 508 h in
      let c = slots_length es 508 in
      let d = header-length (last_or 508 (places 508 es)) in
      let e = length-append (header p (last_or 508 (places 508 es))) (slots (places 508 es) ++ replicate (last_or 508 (places 508 es) - (72 + 2 * length es)) 0) in
      let g = length-append (slots (places 508 es)) (replicate (last_or 508 (places 508 es) - (72 + 2 * length es)) 0) in
      let i = length-replicate {A = ℕ} (last_or 508 (places 508 es) - (72 + 2 * length es)) 0 in
      omega arith

  pub by-heap : encode_page p ≡ before ++ heap p.entries (seal p)
  unfolding before gap start at encode_page page_body seal
  by-heap =
      regroup (header p (start p)) (slots (at p)) (gap p) (heap p.entries []) (seal p)
      ∙ ap (λ (y : List ℕ). before ++ y) (sym (heap-below p.entries (seal p)))

  pub slots-in : drop 72 (encode_page p) ≡ slots (at p) ++ ((gap p ++ heap p.entries []) ++ seal p)
  unfolding encode_page page_body header le2 from20 rest gap start at seal
  slots-in = rest_back p f (rest p) (seal p) ∙ append_assoc (slots (at p)) (gap p ++ heap p.entries []) (seal p)

  entries-in : entries_at (length p.entries) p.level (encode_page p) 72 ≡ p.entries
  unfolding at
  entries-in =
      entries_back p.entries p.level (encode_page p) before (seal p) ((gap p ++ heap p.entries []) ++ seal p) 72 508 f.kinded slots-in by-heap
      before-length (omega arith)

mk : ℕ → ℕ → ℕ → List ℕ → Bound → Option Foster → List Entry → Content
mk a b c d e g h = record { number = a; lsn = b; level = c; low = d; high = e; foster = g; entries = h }

same : (a b : Content) → a.number ≡ b.number → a.lsn ≡ b.lsn → a.level ≡ b.level → a.low ≡ b.low → a.high ≡ b.high
    → a.foster ≡ b.foster → a.entries ≡ b.entries → a ≡ b
unfolding mk
same a b e1 e2 e3 e4 e5 e6 e7 =
    let h : mk a.number a.lsn a.level a.low a.high a.foster a.entries
    ≡ mk b.number b.lsn b.level b.low b.high b.foster b.entries = cc in h

pub parse-encode : (p : Content) → Fit p → parse_page (encode_page p) ≡ p
unfolding parse_page encode_page page_body header word half le2 field_at bound_at from20 rest gap start at seal
parse-encode p f =
    let child = number_back (foster_child p.foster) f.child in
    same (parse_page (encode_page p)) p (number_back p.number f.number) (number_back p.lsn f.lsn) refl
    (low_back p f (rest p) (seal p)) (high_back p f (rest p) (seal p))
    (ap₂ {C = Option Foster} foster_of (fkey_back p f (rest p) (seal p)) child ∙ f.foster)
    (ap (λ (n : ℕ). entries_at n p.level (encode_page p) 72) (half-le2 (length p.entries) (count_fits p f)) ∙ entries-in p f)

pub image-length : (p : Content) → Fit p → length (encode_page p) ≡ 512
unfolding seal
image-length p f =
    let h = before-length p f in
    let s : heap p.entries (seal p) ≡ heap p.entries [] ++ seal p = heap-below p.entries (seal p) in
    ap length (by-heap p f ∙ ap (λ (y : List ℕ). before p f ++ y) s)
    ∙ simp length-append (omega arith)
