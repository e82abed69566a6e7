-- The entries of an image are read back from its slots and its heap.
use Rattle.std.proofs.Common.{◌≡◌, ℕ, zero, suc, ◌+◌, ◌-◌, ◌*◌, ◌^◌, ◌<◌, ◌≤◌, List, [], ◌∷◌, ◌++◌, length, take, drop, sym, refl, ap, ◌∙◌, ap₂, append_assoc, append-nil, arith, length-append}
use Rattle.std.proofs.lemmas.List.{take_at, drop_at, drop-drop}
use Rattle.field.specs.Fields.{le2, half, word, prefixed}
use Rattle.seal.specs.Seal.{le4}
use Rattle.seal.proofs.Seals.{number_back}
use Rattle.page.specs.Content.{Entry, cost, costs}
use Rattle.page.specs.Content.Entry.{leaf, branch}
use Rattle.page.specs.Image.{entry_bytes, entry_of, entries_at, places, slots, heap, front, after, last_or}
use Rattle.page.specs.Laws.{Kinded, AllKinded}
use Rattle.page.proofs.Standing.{half_at}

-- a field at the front of a list, whatever follows
front-is : (k x s : List ℕ) → front (length k ∷ ((k ++ x) ++ s)) ≡ k
unfolding front
front-is k x s = ap (take (length k)) (append_assoc k x s) ∙ take_at k (x ++ s) (length k) refl

after_is : (k x s : List ℕ) → after (length k ∷ ((k ++ x) ++ s)) ≡ x ++ s
unfolding after
after_is k x s = ap (drop (length k)) (append_assoc k x s) ∙ drop_at k (x ++ s) (length k) refl

pub entry_back : (l : ℕ) (e : Entry) (s : List ℕ) → Kinded l e → entry_of l (entry_bytes e ++ s) ≡ e
unfolding entry_of entry_bytes prefixed front word
entry_back zero (leaf k v) s h =
    ap₂ leaf (front-is k (length v ∷ v) s) (ap front (after_is k (length v ∷ v) s) ∙ take_at v s (length v) refl)
entry_back zero (branch k c) s h = absurd h
entry_back (suc l) (leaf k v) s h = absurd h
entry_back (suc l) (branch k c) s h =
    ap₂ branch (front-is k (le4 c) s) (ap (λ (d : List ℕ). word d 0) (after_is k (le4 c) s) ∙ number_back c h)

-- the heap lies before what was below it
pub heap-below : (es : List Entry) (s : List ℕ) → heap es s ≡ heap es [] ++ s
unfolding heap
heap-below [] s = refl
heap-below (e ∷ es) s =
    heap-below es (entry_bytes e ++ s) ∙ sym (append_assoc (heap es []) (entry_bytes e) s)
    ∙ ap (λ (x : List ℕ). x ++ s) (sym (heap-below es (entry_bytes e ++ []) ∙ ap (λ (x : List ℕ). heap es [] ++ x) (append-nil (entry_bytes e))))

heap-more : (e : Entry) (es : List Entry) → length (heap (e ∷ es) []) ≡ length (heap es []) + length (entry_bytes e)
unfolding heap
heap-more e es =
    ap length (heap-below es (entry_bytes e ++ []) ∙ ap (λ (y : List ℕ). heap es [] ++ y) (append-nil (entry_bytes e)))
    ∙ length-append (heap es []) (entry_bytes e)

-- The first of some entries whose slots and heap stand in a list, and where the others stand.
pub record Step (b pre below more : List ℕ) (e : Entry) (es : List Entry) (slot end : ℕ) : Type 0 where
  pub room : length pre + length (heap es []) ≡ end - length (entry_bytes e)
  pub ends : end - length (entry_bytes e) + length (entry_bytes e) ≡ end
  pub fits : end - length (entry_bytes e) < 2 ^ 16
  pub here : drop (end - length (entry_bytes e)) b ≡ entry_bytes e ++ below
  pub place : half b slot ≡ end - length (entry_bytes e)
  pub next : drop (slot + 2) b ≡ slots (places (end - length (entry_bytes e)) es) ++ more

pub step : (b pre below more : List ℕ) (e : Entry) (es : List Entry) (slot end : ℕ)
    → drop slot b ≡ slots (places end (e ∷ es)) ++ more
    → b ≡ pre ++ heap (e ∷ es) below → length pre + length (heap (e ∷ es) []) ≡ end → end < 2 ^ 16
    → Step b pre below more e es slot end
unfolding slots places heap le2
step b pre below more e es slot end s h n f =
    let x : List ℕ = entry_bytes e in
    let at : ℕ = end - length x in
    let size = heap-more e es in
    let room : length pre + length (heap es []) ≡ at = omega arith in
    let split : b ≡ (pre ++ heap es []) ++ (x ++ below) =
    h ∙ ap (λ (y : List ℕ). pre ++ y) (heap-below es (x ++ below)) ∙ sym (append_assoc pre (heap es []) (x ++ below)) in
    record {
      room = room;
      ends = omega arith;
      fits = omega arith;
      here = ap (drop at) split ∙ drop_at (pre ++ heap es []) (x ++ below) at (length-append pre (heap es []) ∙ room);
      place = half_at b (slots (places at es) ++ more) slot at (omega arith) s;
      next = sym (drop-drop 2 slot b) ∙ ap (drop 2) s;
    }

pub entries_back : (es : List Entry) (l : ℕ) (b pre below more : List ℕ) (slot end : ℕ) → AllKinded l es
    → drop slot b ≡ slots (places end es) ++ more
    → b ≡ pre ++ heap es below → length pre + length (heap es []) ≡ end → end < 2 ^ 16
    → entries_at (length es) l b slot ≡ es
unfolding entries_at heap
entries_back [] l b pre below more slot end k s h n f = refl
entries_back (e ∷ es) l b pre below more slot end (k, ks) s h n f =
    let w = step b pre below more e es slot end s h n f in
    ap₂ {C = List Entry} (λ (y : Entry) (ys : List Entry). y ∷ ys)
    (ap (λ (i : ℕ). entry_of l (drop i b)) w.place ∙ ap (entry_of l) w.here ∙ entry_back l e below k)
    (entries_back es l b pre (entry_bytes e ++ below) more (slot + 2) (end - length (entry_bytes e)) ks w.next h w.room w.fits)

pub cost-is : (e : Entry) → cost e ≡ 2 + length (entry_bytes e)
unfolding cost entry_bytes prefixed
cost-is (leaf k v) = let h = length-append k (length v ∷ v) in omega arith
cost-is (branch k c) = let h = length-append k (le4 c) in omega arith

-- the heap and two bytes for each slot are the costs
pub sizes : (es : List Entry) → length (heap es []) + 2 * length es ≡ costs es
unfolding costs heap
sizes [] = refl
sizes (e ∷ es) = let a = sizes es in let b = heap-more e es in let c = cost-is e in omega arith

pub start_is : (es : List Entry) (end : ℕ) → length (heap es []) ≤ end → last_or end (places end es) + length (heap es []) ≡ end
unfolding last_or places heap
start_is [] end h = omega arith
start_is (e ∷ es) end h =
    let b = heap-more e es in
    let h' : length (heap es []) ≤ end - length (entry_bytes e) = omega arith in
    let a = start_is es (end - length (entry_bytes e)) h' in
    omega arith

pub slots_length : (es : List Entry) (end : ℕ) → length (slots (places end es)) ≡ 2 * length es
unfolding slots places le2
slots_length [] end = refl
slots_length (e ∷ es) end = let a = slots_length es (end - length (entry_bytes e)) in omega arith
