-- The keys of a page that is in order ascend.
use Rattle.std.proofs.Common.{◌≡◌, ℕ, zero, suc, ◌<◌, ◌≤◌, true, leb, List, [], ◌∷◌, length, get_or, Some, None, Option, Ordering, Less, Equal, Greater, sym, refl, ap, ◌∙◌, arith}
use Rattle.std.specs.Ordering.{is_lt, is_le}
use Rattle.std.proofs.lemmas.Bool.{and_parts, and_from, leb-true, true≢false}
use Rattle.order.specs.Fences.{Bound, is_below, is_held}
use Rattle.order.specs.Lawful.{Says, Chain, Lawful}
use Rattle.order.specs.Slots.{key_at, Ascending}
use Rattle.page.specs.Content.{Entry, Foster, Content, entry_key, keys_in, keys_of, entry_at, upper, upper_of}
use Rattle.page.specs.Content.Entry.{leaf, branch}
use Rattle.page.specs.Form.{is_entry, are_entries, is_rising, is_first, are_keys, are_fences, is_short, is_foster, is_form, is_ordered}
use Rattle.page.specs.Laws.{KeysAscend, KeysHeld}
use Rattle.page.proofs.Standing.{Short, short_back}
use Rattle.page.proofs.Pages.{formed}

keys_length : (es : List Entry) → length (keys_in es) ≡ length es
unfolding keys_in
keys_length [] = refl
keys_length (e ∷ es) = ap suc (keys_length es)

pub keys-count : (p : Content) → length (keys_of p) ≡ length p.entries
keys-count p = keys_length p.entries

key_in : (es : List Entry) (i : ℕ) → entry_key (get_or es i (leaf [] [])) ≡ key_at (keys_in es) i
unfolding keys_in entry_key
key_in [] i = refl
key_in (e ∷ es) zero = refl
key_in (e ∷ es) (suc i) = key_in es i

pub key-at : (p : Content) (i : ℕ) → entry_key (entry_at p i) ≡ key_at (keys_of p) i
unfolding entry_at
key-at p i = key_in p.entries i

less-is : (o : Ordering) → is_lt o ≡ true → o ≡ Less
less-is Less e = refl
less-is Equal e = absurd (true≢false (sym e))
less-is Greater e = absurd (true≢false (sym e))

entry-short : (own : ℕ) (e : Entry) → is_entry own e ≡ true → length (entry_key e) ≤ 16
unfolding is_entry entry_key
entry-short own (leaf k v) h = leb-true (length k) 16 (and_parts (leb (length k) 16) _ (and_parts (leb 1 (length k)) _ h).1).0
entry-short own (branch k c) h = leb-true (length k) 16 (and_parts (leb (length k) 16) _ h).0

short : (own : ℕ) (es : List Entry) → are_entries own es ≡ true → (i : ℕ) → i < length (keys_in es) → length (key_at (keys_in es) i) ≤ 16
unfolding are_entries keys_in
short own [] h i l = absurd (omega arith)
short own (e ∷ es) h zero l = entry-short own e (and_parts (is_entry own e) (are_entries own es) h).0
short own (e ∷ es) h (suc i) l = short own es (and_parts (is_entry own e) (are_entries own es) h).1 i (omega arith)

module _ {says : Says} (chain : Chain says) (own : ℕ) (bound : Bound) where
  -- a key is below all that follow it
  above : (previous : List ℕ) (es : List Entry) → length previous ≤ 16 → are_entries own es ≡ true → is_rising says bound previous es ≡ true
      → (j : ℕ) → j < length (keys_in es) → says previous (key_at (keys_in es) j) ≡ Less
  unfolding are_entries is_rising keys_in
  above previous [] s f r j h = absurd (omega arith)
  above previous (e ∷ es) s f r zero h = less-is (says previous (entry_key e)) (and_parts (is_lt (says previous (entry_key e))) (is_rising says bound (entry_key e) es) r).0
  above previous (e ∷ es) s f r (suc j) h =
      let p = and_parts (is_lt (says previous (entry_key e))) (is_rising says bound (entry_key e) es) r in
      let q = and_parts (is_entry own e) (are_entries own es) f in
      let k = entry-short own e q.0 in
      chain previous (entry_key e) (key_at (keys_in es) j) s k (short own es q.1 j (omega arith)) (less-is (says previous (entry_key e)) p.0)
      (above (entry_key e) es k q.1 p.1 j (omega arith))

  pairs : (e : Entry) (es : List Entry) → are_entries own (e ∷ es) ≡ true → is_rising says bound (entry_key e) es ≡ true
      → (i j : ℕ) → i < j → j < length (keys_in (e ∷ es)) → says (key_at (keys_in (e ∷ es)) i) (key_at (keys_in (e ∷ es)) j) ≡ Less
  unfolding are_entries is_rising keys_in
  pairs e es f r i zero l h = absurd (omega arith)
  pairs e es f r zero (suc j) l h =
      let q = and_parts (is_entry own e) (are_entries own es) f in
      above (entry_key e) es (entry-short own e q.0) q.1 r j (omega arith)
  pairs e [] f r (suc i) (suc j) l h = absurd (omega arith)
  pairs e (e' ∷ es) f r (suc i) (suc j) l h =
      pairs e' es (and_parts (is_entry own e) (are_entries own (e' ∷ es)) f).1 (and_parts (is_lt (says (entry_key e) (entry_key e'))) (is_rising says bound (entry_key e') es) r).1
      i j (omega arith) (omega arith)

  keys_up : (level : ℕ) (low : List ℕ) (es : List Entry) → are_entries own es ≡ true → are_keys says level bound low es ≡ true
      → (i j : ℕ) → i < j → j < length (keys_in es) → says (key_at (keys_in es) i) (key_at (keys_in es) j) ≡ Less
  unfolding are_keys keys_in
  keys_up level low [] f k i j l h = absurd (omega arith)
  keys_up level low (e ∷ es) f k i j l h = pairs e es f (and_parts (is_first level (says low (entry_key e))) (is_rising says bound (entry_key e) es) k).1 i j l h

pub ascending : {says : Says} → Chain says → (p : Content) → is_form p ≡ true → is_ordered says p ≡ true → Ascending says (keys_of p)
unfolding is_ordered
ascending {says} chain p form o =
    let f = formed p form in
    let k = (and_parts (are_fences says p) (are_keys says p.level (upper p) p.low p.entries) o).1 in
    record {
      short = short p.number p.entries f.entries;
      less = keys_up chain p.number (upper p) p.level p.low p.entries f.entries k;
    }

-- the keys lie from the low fence on, and below the upper bound
upper_short : (own : ℕ) (high : Bound) (f : Option Foster) → is_short high ≡ true → is_foster own f ≡ true → Short (upper_of high f)
unfolding upper_of is_foster
upper_short own high None h e = short_back high h
upper_short own high (Some f) h e = leb-true (length f.key) 16 (and_parts (leb (length f.key) 16) _ e).0

module _ {says : Says} (laws : Lawful says) (own : ℕ) (bound : Bound) (limit : Short bound) where
  below-lower : (a b : List ℕ) → length a ≤ 16 → length b ≤ 16 → says a b ≡ Less → (u : Bound) → Short u → is_below says b u ≡ true → is_below says a u ≡ true
  below-lower a b la lb l None s h = refl
  below-lower a b la lb l (Some u) s h = ap is_lt (laws.chain a b u la lb s l (less-is (says b u) h))

  first_below : (e : Entry) (es : List Entry) → are_entries own (e ∷ es) ≡ true → is_rising says bound (entry_key e) es ≡ true → is_below says (entry_key e) bound ≡ true
  unfolding are_entries is_rising
  first_below e [] f r = r
  first_below e (e' ∷ es) f r =
      let q = and_parts (is_entry own e) (are_entries own (e' ∷ es)) f in
      let q' = and_parts (is_entry own e') (are_entries own es) q.1 in
      let p = and_parts (is_lt (says (entry_key e) (entry_key e'))) (is_rising says bound (entry_key e') es) r in
      below-lower (entry_key e) (entry_key e') (entry-short own e q.0) (entry-short own e' q'.0) (less-is (says (entry_key e) (entry_key e')) p.0) bound limit
      (first_below e' es q.1 p.1)

  all-below : (e : Entry) (es : List Entry) → are_entries own (e ∷ es) ≡ true → is_rising says bound (entry_key e) es ≡ true
      → (i : ℕ) → i < length (keys_in (e ∷ es)) → is_below says (key_at (keys_in (e ∷ es)) i) bound ≡ true
  unfolding are_entries is_rising keys_in
  all-below e es f r zero h = first_below e es f r
  all-below e [] f r (suc i) h = absurd (omega arith)
  all-below e (e' ∷ es) f r (suc i) h =
      all-below e' es (and_parts (is_entry own e) (are_entries own (e' ∷ es)) f).1 (and_parts (is_lt (says (entry_key e) (entry_key e'))) (is_rising says bound (entry_key e') es) r).1
      i (omega arith)

  first-le : (level : ℕ) (o : Ordering) → is_first level o ≡ true → is_le o ≡ true
  unfolding is_first
  first-le zero o h = h
  first-le (suc l) Less h = refl
  first-le (suc l) Equal h = refl
  first-le (suc l) Greater h = absurd (true≢false (sym h))

  le-less : (a b d : List ℕ) → length a ≤ 16 → length b ≤ 16 → length d ≤ 16 → (o : Ordering) → says a b ≡ o → is_le o ≡ true → says b d ≡ Less → says a d ≡ Less
  le-less a b d la lb ld Less e h l = laws.chain a b d la lb ld e l
  le-less a b d la lb ld Equal e h l = ap (λ (x : List ℕ). says x d) (laws.same a b la lb e) ∙ l
  le-less a b d la lb ld Greater e h l = absurd (true≢false (sym h))

  all_above : (level : ℕ) (low : List ℕ) (e : Entry) (es : List Entry) → length low ≤ 16 → are_entries own (e ∷ es) ≡ true
      → is_first level (says low (entry_key e)) ≡ true → is_rising says bound (entry_key e) es ≡ true
      → (i : ℕ) → i < length (keys_in (e ∷ es)) → is_le (says low (key_at (keys_in (e ∷ es)) i)) ≡ true
  unfolding are_entries keys_in
  all_above level low e es s f h r zero l = first-le level (says low (entry_key e)) h
  all_above level low e es s f h r (suc i) l =
      let q = and_parts (is_entry own e) (are_entries own es) f in
      let k = entry-short own e q.0 in
      ap is_le (le-less low (entry_key e) (key_at (keys_in es) i) s k (short own es q.1 i (omega arith)) (says low (entry_key e)) refl (first-le level (says low (entry_key e)) h)
      (above laws.chain own bound (entry_key e) es k q.1 r i (omega arith)))

  all_held : (level : ℕ) (low : List ℕ) (es : List Entry) → length low ≤ 16 → are_entries own es ≡ true → are_keys says level bound low es ≡ true
      → (i : ℕ) → i < length (keys_in es) → is_held says low (key_at (keys_in es) i) bound ≡ true
  unfolding are_keys
  all_held level low [] s f k i h = absurd (omega (arith, keys_length []))
  all_held level low (e ∷ es) s f k i h =
      let p = and_parts (is_first level (says low (entry_key e))) (is_rising says bound (entry_key e) es) k in
      and_from _ _ (all_above level low e es s f p.0 p.1 i h) (all-below e es f p.1 i h)

pub keys_ascend : KeysAscend
keys_ascend says laws p form o = ascending laws.chain p form o

pub keys_held : KeysHeld
unfolding is_ordered upper
keys_held says laws p form o i h =
    let f = formed p form in
    let k = (and_parts (are_fences says p) (are_keys says p.level (upper p) p.low p.entries) o).1 in
    all_held laws p.number (upper p) (upper_short p.number p.high p.foster f.high f.foster) p.level p.low p.entries
    (leb-true (length p.low) 16 f.low) f.entries k i h
