-- Each entry of a page lies where its slot says.
use Rattle.std.proofs.Common.{◌≡◌, ℕ, zero, suc, ◌+◌, ◌-◌, ◌*◌, ◌^◌, ◌<◌, ◌≤◌, true, List, [], ◌∷◌, ◌++◌, length, get_or, take, drop, sym, refl, ap, ◌∙◌, subst, ap₂, append_assoc, append-nil, le_of_suc-le-suc, not-suc-le-zero, add-zero, arith, length-append, length-drop}
use Rattle.std.proofs.lemmas.List.{take_at, drop_at, drop-drop, get_or-drop}
use Rattle.field.specs.Fields.{le2, half, word, prefixed, field_at}
use Rattle.seal.specs.Laws.{Bytes}
use Rattle.seal.specs.Seal.{le4}
use Rattle.seal.proofs.Seals.{number_back}
use Rattle.page.specs.Content.{Content, Entry, entry_key, value_in, child_in, entry_at}
use Rattle.page.specs.Content.Entry.{leaf, branch}
use Rattle.page.specs.Image.{entry_bytes, places, slots, heap, parse_page}
use Rattle.page.specs.Form.{is_laid}
use Rattle.page.specs.Laws.{Kinded, AllKinded}
use Rattle.page.proofs.Standing.{half_at, word-is}
use Rattle.page.proofs.Entries.{heap-below, sizes}
use Rattle.page.proofs.Pages.{before, before-length, by-heap, slots-in, at, gap, seal}
use Rattle.page.proofs.Parsed.{image-is, fit_is}
use Rattle.page_view.specs.Places.{place_of, behind_key}

-- an entry's bytes lie between two places
pub record Ends (b : List ℕ) (at end : ℕ) (e : Entry) : Type 0 where
  pub within : end ≤ length b
  pub ordered : at ≤ end
  pub bytes : take (end - at) (drop at b) ≡ entry_bytes e

-- an entry's bytes stand at a place of a list
abbrev Stands : List ℕ → ℕ → Entry → Type 0
Stands b at e = (rest : List ℕ) × (drop at b ≡ entry_bytes e ++ rest)

placed : (es : List Entry) (b pre below more : List ℕ) (slot end : ℕ) (d : Entry)
    → drop slot b ≡ slots (places end es) ++ more
    → b ≡ pre ++ heap es below → length pre + length (heap es []) ≡ end → end < 2 ^ 16
    → (i : ℕ) → i < length es → Stands b (half b (slot + 2 * i)) (get_or es i d)
unfolding slots places heap le2
placed [] b pre below more slot end d s h n f i l = absurd (not-suc-le-zero l)
placed (e ∷ es) b pre below more slot end d s h n f i l =
    let x : List ℕ = entry_bytes e in
    let at : ℕ = end - length x in
    let size : length (heap es (x ++ [])) ≡ length (heap es []) + length x =
    ap length (heap-below es (x ++ []) ∙ ap (λ (y : List ℕ). heap es [] ++ y) (append-nil x)) ∙ length-append (heap es []) x in
    let n' : length pre + length (heap es []) ≡ at = omega arith in
    let split : b ≡ (pre ++ heap es []) ++ (x ++ below) =
    h ∙ ap (λ (y : List ℕ). pre ++ y) (heap-below es (x ++ below)) ∙ sym (append_assoc pre (heap es []) (x ++ below)) in
    let here : drop at b ≡ x ++ below =
    ap (drop at) split ∙ drop_at (pre ++ heap es []) (x ++ below) at (length-append pre (heap es []) ∙ n') in
    let f' : at < 2 ^ 16 = omega arith in
    let slot_is : half b slot ≡ at = half_at b (slots (places at es) ++ more) slot at f' s in
    let next : drop (slot + 2) b ≡ slots (places at es) ++ more = sym (drop-drop 2 slot b) ∙ ap (drop 2) s in
    elim i as (λ (j : ℕ). j < suc (length es) → Stands b (half b (slot + 2 * j)) (get_or (e ∷ es) j d)) [
      | zero ↦ λ l'. let z : slot + 2 * 0 ≡ slot = omega arith in (below, ap (λ (k : ℕ). drop (half b k) b) z ∙ ap (λ (k : ℕ). drop k b) slot_is ∙ here)
      | suc j ↦ λ l'. let z : slot + 2 * suc j ≡ slot + 2 + 2 * j = omega arith in
          subst (λ (k : ℕ). Stands b (half b k) (get_or es j d)) (sym z)
          (placed es b pre (x ++ below) more (slot + 2) at d next h n' f' j (le_of_suc-le-suc l'))
    ] l

-- a string behind its length byte
record String (b : List ℕ) (at : ℕ) (s rest : List ℕ) : Type 0 where
  is : field_at b at ≡ s
  size : get_or b at 0 ≡ length s
  next : drop (at + 1 + get_or b at 0) b ≡ rest
  room : at + 1 + get_or b at 0 + length rest ≤ length b

string-at : (b : List ℕ) (at : ℕ) (s rest : List ℕ) → drop at b ≡ prefixed s ++ rest → String b at s rest
unfolding prefixed field_at
string-at b at s rest e =
    let size : get_or b at 0 ≡ length s = ap (λ (j : ℕ). get_or b j 0) (sym (add-zero at)) ∙ sym (get_or-drop at b 0 0) ∙ ap (λ (d : List ℕ). get_or d 0 0) e in
    let tail : drop (at + 1) b ≡ s ++ rest = sym (drop-drop 1 at b) ∙ ap (drop 1) e in
    let l = length-drop at b in
    let m = ap length e in
    let n = length-append s rest in
    record {
      is = ap₂ take size tail ∙ take_at s rest (length s) refl;
      size = size;
      next = sym (drop-drop (get_or b at 0) (at + 1) b) ∙ ap₂ drop size tail ∙ drop_at s rest (length s) refl;
      room = omega arith;
    }

-- what stands behind an entry's key
tail : Entry → List ℕ
tail (leaf k v) = prefixed v
tail (branch k c) = le4 c

opens : (e : Entry) (s : List ℕ) → entry_bytes e ++ s ≡ prefixed (entry_key e) ++ (tail e ++ s)
unfolding entry_bytes entry_key tail
opens (leaf k v) s = append_assoc (prefixed k) (prefixed v) s
opens (branch k c) s = append_assoc (prefixed k) (le4 c) s

longer : (e : Entry) (s : List ℕ) → 1 ≤ length (tail e ++ s)
unfolding tail prefixed
longer (leaf k v) s = omega arith
longer (branch k c) s = omega arith

kinded-at : (level : ℕ) (es : List Entry) (d : Entry) → AllKinded level es → (i : ℕ) → i < length es → Kinded level (get_or es i d)
kinded-at level [] d k i h = absurd (omega arith)
kinded-at level (e ∷ es) d (k, ks) zero h = k
kinded-at level (e ∷ es) d (k, ks) (suc i) h = kinded-at level es d ks i (omega arith)

-- values of leaves, and children of branches
leaf-value : (b : List ℕ) (at level : ℕ) (e : Entry) (rest : List ℕ) → Kinded level e → level ≡ 0 → drop at b ≡ tail e ++ rest → String b at (value_in e) rest
unfolding tail value_in
leaf-value b at zero (leaf k v) rest q z d = string-at b at v rest d
leaf-value b at zero (branch k c) rest q z d = absurd q
leaf-value b at (suc l) e rest q z d = absurd (omega arith)

branch-child : (b : List ℕ) (at level : ℕ) (e : Entry) (rest : List ℕ) → Kinded level e → 0 < level → drop at b ≡ tail e ++ rest
    → (at + 4 ≤ length b) × (word b at ≡ child_in e)
unfolding tail child_in
branch-child b at zero e rest q z d = absurd (omega arith)
branch-child b at (suc l) (leaf k v) rest q z d = absurd q
branch-child b at (suc l) (branch k c) rest q z d =
    let l = length-drop at b in
    let m = ap length d in
    (omega arith, word-is b at ∙ ap (λ (x : List ℕ). get_or x 0 0 + get_or x 1 0 * 256 + get_or x 2 0 * 65536 + get_or x 3 0 * 16777216) d ∙ number_back c q)

leaf-length : (level : ℕ) (e : Entry) → Kinded level e → level ≡ 0 → length (entry_bytes e) ≡ 2 + length (entry_key e) + length (value_in e)
unfolding entry_bytes entry_key value_in prefixed
leaf-length zero (leaf k v) q z = let l = length-append k (length v ∷ v) in omega arith
leaf-length zero (branch k c) q z = absurd q
leaf-length (suc l) e q z = absurd (omega arith)

branch-length : (level : ℕ) (e : Entry) → Kinded level e → 0 < level → length (entry_bytes e) ≡ 5 + length (entry_key e)
unfolding entry_bytes entry_key prefixed
branch-length zero e q z = absurd (omega arith)
branch-length (suc l) (leaf k v) q z = absurd q
branch-length (suc l) (branch k c) q z = let m = length-append k (le4 c) in omega arith

module _ (b : List ℕ) (bs : Bytes b) (laid : is_laid b ≡ true) (i : ℕ) (h : i < length (parse_page b).entries) where
  stands : Stands b (place_of b i) (entry_at (parse_page b) i)
  unfolding at place_of entry_at
  stands =
      let p : Content = parse_page b in
      let f = fit_is b bs laid in
      let image = image-is b bs laid in
      placed p.entries b (before p f) (seal p) ((gap p ++ heap p.entries []) ++ seal p) 72 508 (leaf [] [])
      (ap (drop 72) (sym image) ∙ slots-in p f) (sym image ∙ by-heap p f) (before-length p f) (omega arith) i h

  pub few : 2 * i + 2 ≤ 436
  few = let a = sizes (parse_page b).entries in let r = (fit_is b bs laid).room in omega arith

  key_there : String b (place_of b i) (entry_key (entry_at (parse_page b) i)) (tail (entry_at (parse_page b) i) ++ stands.0)
  key_there = string-at b (place_of b i) (entry_key (entry_at (parse_page b) i)) (tail (entry_at (parse_page b) i) ++ stands.0)
      (stands.1 ∙ opens (entry_at (parse_page b) i) stands.0)

  pub key-is : field_at b (place_of b i) ≡ entry_key (entry_at (parse_page b) i)
  key-is = key_there.is

  pub key-room : place_of b i + 2 + get_or b (place_of b i) 0 ≤ length b
  key-room =
      let l = longer (entry_at (parse_page b) i) stands.0 in
      let r = key_there.room in
      omega arith

  kind : Kinded (parse_page b).level (entry_at (parse_page b) i)
  unfolding entry_at
  kind = kinded-at (parse_page b).level (parse_page b).entries (leaf [] []) (fit_is b bs laid).kinded i h

  behind : drop (behind_key b i) b ≡ tail (entry_at (parse_page b) i) ++ stands.0
  unfolding behind_key
  behind = key_there.next

  module _ (z : (parse_page b).level ≡ 0) where
    value_there : String b (behind_key b i) (value_in (entry_at (parse_page b) i)) stands.0
    value_there = leaf-value b (behind_key b i) (parse_page b).level (entry_at (parse_page b) i) stands.0 kind z behind

    pub value-is : field_at b (behind_key b i) ≡ value_in (entry_at (parse_page b) i)
    value-is = value_there.is

    pub value_room : behind_key b i + 1 + get_or b (behind_key b i) 0 ≤ length b
    value_room = let r = value_there.room in omega arith

  pub child_there : 0 < (parse_page b).level → (behind_key b i + 4 ≤ length b) × (word b (behind_key b i) ≡ child_in (entry_at (parse_page b) i))
  child_there z = branch-child b (behind_key b i) (parse_page b).level (entry_at (parse_page b) i) stands.0 kind z behind

  -- the bytes from an entry's place to its end are the entry
  cut : (end : ℕ) → place_of b i + length (entry_bytes (entry_at (parse_page b) i)) ≡ end
      → (place_of b i ≤ end) × (take (end - place_of b i) (drop (place_of b i) b) ≡ entry_bytes (entry_at (parse_page b) i))
  cut end e =
      let n : end - place_of b i ≡ length (entry_bytes (entry_at (parse_page b) i)) = omega arith in
      (omega arith, ap₂ take n stands.1 ∙ take_at (entry_bytes (entry_at (parse_page b) i)) stands.0 (length (entry_bytes (entry_at (parse_page b) i))) refl)

  pub leaf-ends : (parse_page b).level ≡ 0 → Ends b (place_of b i) (behind_key b i + 1 + length (value_in (entry_at (parse_page b) i))) (entry_at (parse_page b) i)
  unfolding behind_key
  leaf-ends z =
      let l = leaf-length (parse_page b).level (entry_at (parse_page b) i) kind z in
      let k = key_there.size in
      let v = (value_there z).size in
      let r = (value_there z).room in
      let w = cut (behind_key b i + 1 + length (value_in (entry_at (parse_page b) i))) (omega arith) in
      record { within = omega arith; ordered = w.0; bytes = w.1 }

  pub branch-ends : 0 < (parse_page b).level → Ends b (place_of b i) (behind_key b i + 4) (entry_at (parse_page b) i)
  unfolding behind_key
  branch-ends z =
      let l = branch-length (parse_page b).level (entry_at (parse_page b) i) kind z in
      let k = key_there.size in
      let r = (child_there z).0 in
      let w = cut (behind_key b i + 4) (omega arith) in
      record { within = r; ordered = w.0; bytes = w.1 }

-- where the code says it ends
pub ends_at : (b : List ℕ) (at end r : ℕ) (e : Entry) → length b ≡ 512 → r ≡ end → Ends b at end e
    → (r ≤ 512) × (at ≤ r) × (take (r - at) (drop at b) ≡ entry_bytes e)
ends_at b at end r e n x f =
    (omega (arith, f.within), omega (arith, f.ordered), ap (λ (k : ℕ). take (k - at) (drop at b)) x ∙ f.bytes)
