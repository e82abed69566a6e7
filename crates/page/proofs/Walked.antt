-- The way through the slots: what its tests see is what the image of the entries is.
use Rattle.std.proofs.Common.{◌≡◌, ℕ, zero, suc, ◌+◌, ◌-◌, ◌*◌, ◌^◌, ◌<◌, ◌≤◌, Bool, true, false, ◌&&◌, eqb, List, [], ◌∷◌, ◌++◌, length, take, drop, sym, refl, ap, ◌∙◌, subst, ap₂, append_assoc, arith}
use Rattle.std.proofs.lemmas.List.{drop_at, drop-drop, length-append, length-take-le, length-drop, take-append-drop}
use Rattle.std.proofs.lemmas.Bool.{and_parts, and_from, eqb-true, eq-eqb}
use Rattle.field.specs.Fields.{le2, half, word, prefixed}
use Rattle.order.specs.Fences.{Bound, is_below}
use Rattle.order.specs.Lawful.{Says}
use Rattle.seal.specs.Laws.{Bytes}
use Rattle.seal.specs.Seal.{le4}
use Rattle.page.specs.Content.{Entry, entry_key}
use Rattle.page.specs.Content.Entry.{leaf, branch}
use Rattle.page.specs.Image.{entry_bytes, entry_of, entries_at, places, slots, heap, last_or, front, after}
use Rattle.page.specs.Form.{is_entry, are_entries, is_rising}
use Rattle.page.specs.Laws.{AllKinded}
use Rattle.page.specs.Walk.{ends_at, is_next, walks}
use Rattle.page.proofs.Standing.{word_in, half_in, bytes_drop}
use Rattle.page.proofs.Entries.{entry_back, step}

-- what is taken is as long as asked where something is left
take-full : (n : ℕ) (xs : List ℕ) → 0 < length (drop n xs) → length (take n xs) ≡ n
take-full n xs h = let l = length-drop n xs in length-take-le n xs (omega arith)

split-length : (n : ℕ) (xs : List ℕ) → length xs ≡ length (take n xs) + length (drop n xs)
split-length n xs = ap length (sym (take-append-drop n xs)) ∙ length-append (take n xs) (drop n xs)

leaf-whole : (n : ℕ) (g r : List ℕ) → drop n g ≡ r → length (entry_bytes (leaf (take n g) (front r))) + 4 ≤ suc (length g)
    → (s : List ℕ) × (n ∷ g ≡ entry_bytes (leaf (take n g) (front r)) ++ s)
unfolding entry_bytes prefixed front
leaf-whole n g [] e h =
    let k : List ℕ = take n g in
    let a = length-append k (0 ∷ []) in
    let b = split-length n g in
    let c = ap length e in
    absurd (omega arith)
leaf-whole n g (m ∷ t) e h =
    let k : List ℕ = take n g in
    let v : List ℕ = take m t in
    let a = length-append k (length v ∷ v) in
    let b = split-length n g in
    let c = ap length e in
    let d = split-length m t in
    let lk : length k ≡ n = take-full n g (omega arith) in
    let lv : length v ≡ m = take-full m t (omega arith) in
    let tail : m ∷ t ≡ (length v ∷ v) ++ drop m t = ap₂ {C = List ℕ} (λ (y : ℕ) (ys : List ℕ). y ∷ ys) (sym lv) (sym (take-append-drop m t)) in (
      drop m t,
      ap₂ {C = List ℕ} (λ (y : ℕ) (ys : List ℕ). y ∷ ys) (sym lk)
          (sym (take-append-drop n g) ∙ ap (λ (y : List ℕ). k ++ y) (e ∙ tail) ∙ sym (append_assoc k (length v ∷ v) (drop m t))),
    )

branch-whole : (n : ℕ) (g : List ℕ) → Bytes (drop n g) → length (entry_bytes (branch (take n g) (word (drop n g) 0))) + 4 ≤ suc (length g)
    → (s : List ℕ) × (n ∷ g ≡ entry_bytes (branch (take n g) (word (drop n g) 0)) ++ s)
unfolding entry_bytes prefixed
branch-whole n g bs h =
    let k : List ℕ = take n g in
    let r : List ℕ = drop n g in
    let a = length-append k (le4 (word r 0)) in
    let b = split-length n g in
    let lk : length k ≡ n = take-full n g (omega arith) in
    let w = word_in r 0 bs (omega arith) in (
      drop 4 r,
      ap₂ {C = List ℕ} (λ (y : ℕ) (ys : List ℕ). y ∷ ys) (sym lk)
          (sym (take-append-drop n g) ∙ ap (λ (y : List ℕ). k ++ y) w ∙ sym (append_assoc k (le4 (word r 0)) (drop 4 r))),
    )

pub whole : (level : ℕ) (d : List ℕ) → Bytes d → length (entry_bytes (entry_of level d)) + 4 ≤ length d → (s : List ℕ) × (d ≡ entry_bytes (entry_of level d) ++ s)
unfolding entry_of front after
whole zero [] bs h = absurd (omega arith)
whole (suc l) [] bs h = absurd (omega arith)
whole zero (n ∷ g) bs h = leaf-whole n g (drop n g) refl h
whole (suc l) (n ∷ g) bs h = branch-whole n g (bytes_drop g n (bytes_drop (n ∷ g) 1 bs)) h

-- an entry that ends where it should stands there
module _ (b : List ℕ) (bs : Bytes b) (len : length b ≡ 512) where
  pub entry_there : (level at end : ℕ) → end ≤ 508 → at + length (entry_bytes (entry_of level (drop at b))) ≡ end
      → drop at b ≡ entry_bytes (entry_of level (drop at b)) ++ drop end b
  entry_there level at end h e =
      let x : List ℕ = entry_bytes (entry_of level (drop at b)) in
      let l = length-drop at b in
      let w = whole level (drop at b) (bytes_drop b at bs) (omega arith) in
      let s : drop end b ≡ w.0 = ap (λ (i : ℕ). drop i b) (sym e) ∙ sym (drop-drop (length x) at b) ∙ ap (drop (length x)) w.1 ∙ drop_at x w.0 (length x) refl in
      w.1 ∙ ap (λ (y : List ℕ). x ++ y) (sym s)

-- the keys from one on
unfoldable pub runs : Says → ℕ → Bound → Bool → List ℕ → List Entry → Bool
runs says level bound first previous [] = is_below says previous bound
runs says level bound first previous (e ∷ es) = is_next first level (says previous (entry_key e)) && is_rising says bound (entry_key e) es

run_on : (says : Says) (level : ℕ) (bound : Bound) (previous : List ℕ) (es : List Entry) → runs says level bound false previous es ≡ is_rising says bound previous es
unfolding runs is_rising is_next
run_on says level bound previous [] = refl
run_on says level bound previous (e ∷ es) = refl

pub record Went (says : Says) (b : List ℕ) (own level : ℕ) (bound : Bound) (n : ℕ) (first : Bool) (slot end : ℕ) (previous : List ℕ) : Type 0 where
  pub slotted : drop slot b ≡ slots (places end (entries_at n level b slot)) ++ drop (slot + 2 * n) b
  pub heaped : heap (entries_at n level b slot) (drop end b) ≡ drop (half b 16) b
  pub begins : last_or end (places end (entries_at n level b slot)) ≡ half b 16
  pub forms : are_entries own (entries_at n level b slot) ≡ true
  pub runs : runs says level bound first previous (entries_at n level b slot) ≡ true

module _ (says : Says) (b : List ℕ) (bs : Bytes b) (len : length b ≡ 512) (own level : ℕ) (bound : Bound) where
  pub went : (n : ℕ) (first : Bool) (slot end : ℕ) (previous : List ℕ) → slot + 2 * n ≤ 508 → end ≤ 508
      → walks says b own level bound n first slot end previous ≡ true → Went says b own level bound n first slot end previous
  unfolding walks entries_at slots places heap last_or are_entries runs ends_at
  went zero first slot end previous r l g =
      let p = and_parts (eqb end (half b 16)) (is_below says previous bound) g in
      let e = eqb-true end (half b 16) p.0 in
      record { slotted = ap (λ (i : ℕ). drop i b) (omega arith); heaped = ap (λ (i : ℕ). drop i b) e; begins = e; forms = refl; runs = p.1 }
  went (suc n) first slot end previous r l g =
      let at : ℕ = half b slot in
      let e : Entry = entry_of level (drop at b) in
      let meets : Bool = is_next first level (says previous (entry_key e)) in
      let more : Bool = walks says b own level bound n false (slot + 2) at (entry_key e) in
      let p = and_parts (ends_at b own level at end) (meets && more) g in
      let f = and_parts (eqb (at + length (entry_bytes e)) end) (is_entry own e) p.0 in
      let q = and_parts meets more p.1 in
      let s : at + length (entry_bytes e) ≡ end = eqb-true (at + length (entry_bytes e)) end f.0 in
      let at-is : end - length (entry_bytes e) ≡ at = omega arith in
      let w = went n false (slot + 2) at (entry_key e) (omega arith) (omega arith) q.1 in
      let es : List Entry = entries_at n level b (slot + 2) in
      let here = entry_there b bs len level at end l s in
      let slot-end : slot + 2 + 2 * n ≡ slot + 2 * suc n = omega arith in
      record {
        slotted = half_in b slot bs (omega arith) ∙ ap (λ (y : List ℕ). le2 at ++ y) (w.slotted ∙ ap (λ (i : ℕ). slots (places at es) ++ drop i b) slot-end)
            ∙ sym (append_assoc (le2 at) (slots (places at es)) (drop (slot + 2 * suc n) b))
            ∙ ap (λ (i : ℕ). (le2 i ++ slots (places i es)) ++ drop (slot + 2 * suc n) b) (sym at-is);
        heaped = ap (heap es) (sym here) ∙ w.heaped;
        begins = ap (λ (i : ℕ). last_or i (places i es)) at-is ∙ w.begins;
        forms = and_from _ _ f.1 w.forms;
        runs = and_from _ _ q.0 (sym (run_on says level bound (entry_key e) es) ∙ w.runs);
      }

  go_step : (n : ℕ) (first : Bool) (slot end at : ℕ) (previous : List ℕ) (e : Entry) → half b slot ≡ at → entry_of level (drop at b) ≡ e
      → at + length (entry_bytes e) ≡ end → is_entry own e ≡ true → is_next first level (says previous (entry_key e)) ≡ true
      → walks says b own level bound n false (slot + 2) at (entry_key e) ≡ true → walks says b own level bound (suc n) first slot end previous ≡ true
  unfolding walks ends_at
  go_step n first slot end at previous e sl en ends forms meets more =
      let P : ℕ → Entry → Type 0 = λ a x. ((eqb (a + length (entry_bytes x)) end && is_entry own x) && (is_next first level (says previous (entry_key x)) && walks says b own level bound n false (slot + 2) a (entry_key x))) ≡ true in
      let base : P at e = and_from _ _ (and_from _ _ (eq-eqb (at + length (entry_bytes e)) end ends) forms) (and_from _ _ meets more) in
      subst (λ (a : ℕ). P a (entry_of level (drop a b))) (sym sl) (subst (λ (x : Entry). P at x) (sym en) base)

  pub goes : (es : List Entry) (first : Bool) (pre below more : List ℕ) (slot end : ℕ) (previous : List ℕ) → AllKinded level es
      → drop slot b ≡ slots (places end es) ++ more
      → b ≡ pre ++ heap es below → length pre + length (heap es []) ≡ end → end < 2 ^ 16
      → last_or end (places end es) ≡ half b 16 → are_entries own es ≡ true → runs says level bound first previous es ≡ true
      → walks says b own level bound (length es) first slot end previous ≡ true
  unfolding slots places heap le2 last_or are_entries runs walks
  goes [] first pre below more slot end previous k s h n f l fo ru = and_from _ _ (eq-eqb end (half b 16) l) ru
  goes (e ∷ es) first pre below more slot end previous (k, ks) s h n f l fo ru =
      let w = step b pre below more e es slot end s h n f in
      let at : ℕ = end - length (entry_bytes e) in
      let fp = and_parts (is_entry own e) (are_entries own es) fo in
      let rp = and_parts (is_next first level (says previous (entry_key e))) (is_rising says bound (entry_key e) es) ru in
      go_step (length es) first slot end at previous e w.place (ap (entry_of level) w.here ∙ entry_back level e below k) w.ends fp.0 rp.0
      (goes es false pre (entry_bytes e ++ below) more (slot + 2) at (entry_key e) ks w.next h w.room w.fits l fp.1
      (run_on says level bound (entry_key e) es ∙ rp.1))
