-- Halves of a page.
use Rattle.std.proofs.Common.{◌≡◌, ℕ, zero, suc, ◌+◌, ◌*◌, ◌<◌, ◌≤◌, Bool, cond, nat_le, List, [], ◌∷◌, ◌++◌, length, get_or, take, drop, Some, None, Option, Ordering, Less, Equal, sym, refl, ap, ◌∙◌, subst, append-nil, suc-le-suc, zero-le, arith}
use Rattle.std.specs.Ordering.{is_lt}
use Rattle.std.proofs.lemmas.List.{drop_all}
use Rattle.std.proofs.lemmas.Bool.{le-leb, lt-leb}
use Rattle.field.specs.Held.{Key, key_of}
use Rattle.order.specs.Fences.{Bound}
use Rattle.order.specs.Lawful.{Says, Itself}
use Rattle.order.specs.Slots.{Ascending}
use Rattle.page.specs.Content.{Entry, Foster, Content, entry_key, keys_in, cost, costs}
use Rattle.page.specs.Content.Entry.{leaf, branch}
use Rattle.page_build.specs.declared.header.Header.{Header}
use Rattle.page_build.specs.Spliced.{spliced}
use Rattle.page_build.specs.Told.{content_of, Heads, bound_of, foster_of}
use Rattle.page_edit.specs.Edits.{halfway, below, from, lower_half, upper_half, grown_root}
use Rattle.page_edit.proofs.Placing.{keys_length}

-- a loop's turn: the entry that comes is the first from which half is reached, or the ones behind it go on
pub half_found : (e : Entry) (es all : List Entry) (total spent n : ℕ) → all ≡ e ∷ es → n ≡ cost e → total ≤ 2 * (spent + n) → halfway total spent all ≡ 1
unfolding halfway
half_found e es all total spent n a h w =
    ap (halfway total spent) a ∙ ap (λ (m : ℕ). cond (nat_le total (2 * (spent + m))) 1 (suc (halfway total (spent + m) es))) (sym h)
    ∙ ap (λ (t : Bool). cond t 1 (suc (halfway total (spent + n) es))) (le-leb total (2 * (spent + n)) w)

pub half_further : (e : Entry) (es all : List Entry) (total spent n : ℕ) → all ≡ e ∷ es → n ≡ cost e → 2 * (spent + n) < total
    → halfway total spent all ≡ suc (halfway total (spent + n) es)
unfolding halfway
half_further e es all total spent n a h w =
    ap (halfway total spent) a ∙ ap (λ (m : ℕ). cond (nat_le total (2 * (spent + m))) 1 (suc (halfway total (spent + m) es))) (sym h)
    ∙ ap (λ (t : Bool). cond t 1 (suc (halfway total (spent + n) es))) (lt-leb total (2 * (spent + n)) w)

pub half_none : (all : List Entry) (total spent : ℕ) → all ≡ [] → halfway total spent all ≡ 0
unfolding halfway
half_none all total spent a = ap (halfway total spent) a

pub costs_turn : (e : Entry) (es all : List Entry) (n : ℕ) → all ≡ e ∷ es → n ≡ cost e → costs all ≡ n + costs es
unfolding costs
costs_turn e es all n a h = ap costs a ∙ ap (λ (m : ℕ). m + costs es) (sym h)

-- the entries below the key of a slot, and those from it on
below-take : (says : Says) (key : List ℕ) (es : List Entry) (i : ℕ) → i < length es
    → ((j : ℕ) → j < i → says (get_or (keys_in es) j []) key ≡ Less) → says (get_or (keys_in es) i []) key ≡ Equal → below says key es ≡ take i es
unfolding below keys_in
below-take says key [] i h f e = absurd (omega arith)
below-take says key (x ∷ es) zero h f e = ap (λ (o : Ordering). cond (is_lt o) (x ∷ below says key es) []) e
below-take says key (x ∷ es) (suc i) h f e =
    ap (λ (o : Ordering). cond (is_lt o) (x ∷ below says key es) []) (f 0 (suc-le-suc zero-le))
    ∙ ap (λ (l : List Entry). x ∷ l) (below-take says key es i (omega arith) (λ j w. f (suc j) (suc-le-suc w)) e)

from-drop : (says : Says) (key : List ℕ) (es : List Entry) (i : ℕ) → i < length es
    → ((j : ℕ) → j < i → says (get_or (keys_in es) j []) key ≡ Less) → says (get_or (keys_in es) i []) key ≡ Equal → from says key es ≡ drop i es
unfolding from keys_in
from-drop says key [] i h f e = absurd (omega arith)
from-drop says key (x ∷ es) zero h f e = ap (λ (o : Ordering). cond (is_lt o) (from says key es) (x ∷ es)) e
from-drop says key (x ∷ es) (suc i) h f e =
    ap (λ (o : Ordering). cond (is_lt o) (from says key es) (x ∷ es)) (f 0 (suc-le-suc zero-le))
    ∙ from-drop says key es i (omega arith) (λ j w. f (suc j) (suc-le-suc w)) e

key_in : (es : List Entry) (i : ℕ) (d : Entry) → i < length es → get_or (keys_in es) i [] ≡ entry_key (get_or es i d)
unfolding keys_in
key_in [] i d h = absurd (omega arith)
key_in (x ∷ es) zero d h = refl
key_in (x ∷ es) (suc i) d h = key_in es i d (omega arith)

module _ {says : Says} (itself : Itself says) (es : List Entry) (rising : Ascending says (keys_in es)) (i : ℕ) (h : i < length es) where
  key : List ℕ
  key = entry_key (get_or es i (leaf [] []))

  is : get_or (keys_in es) i [] ≡ key
  unfolding key
  is = key_in es i (leaf [] []) h

  before : (j : ℕ) → j < i → says (get_or (keys_in es) j []) key ≡ Less
  before j w = subst (λ (k : List ℕ). says (get_or (keys_in es) j []) k ≡ Less) is (rising.less j i w (let l = keys_length es in omega arith))

  pub slot-short : length (entry_key (get_or es i (leaf [] []))) ≤ 16
  unfolding key
  slot-short = subst (λ (k : List ℕ). length k ≤ 16) is (rising.short i (let l = keys_length es in omega arith))

  equal : says (get_or (keys_in es) i []) key ≡ Equal
  unfolding key
  equal = ap (λ (k : List ℕ). says k key) is ∙ itself key slot-short

  pub lower-is : (n : ℕ) → length es ≤ n → spliced es i [] n ≡ below says (entry_key (get_or es i (leaf [] []))) es
  unfolding spliced key
  lower-is n w =
      ap (λ (l : List Entry). take i es ++ l) (drop_all n es w) ∙ append-nil (take i es) ∙ sym (below-take says key es i h before equal)

  pub upper_is : spliced es 0 [] i ≡ from says (entry_key (get_or es i (leaf [] []))) es
  unfolding spliced key
  upper_is = sym (from-drop says key es i h before equal)

mk : ℕ → ℕ → ℕ → List ℕ → Bound → Option Foster → List Entry → Content
mk a b c d e f g = record { number = a; lsn = b; level = c; low = d; high = e; foster = f; entries = g }

fk : List ℕ → ℕ → Option Foster
fk k c = Some (record { key = k; child = c })

pub headed-lower : (says : Says) (h : Header) (lsn other : ℕ) (p : Content) (k : Key) (key : List ℕ) (es : List Entry) → Heads h lsn p → key_of k ≡ key
    → es ≡ below says key p.entries
    → content_of (record { number = h.number; lsn = h.lsn; level = h.level; low = h.low; high = h.high; foster = Some (record { key = k; child = other }) }) es
    ≡ lower_half says lsn key other p
unfolding lower_half mk fk
headed-lower says h lsn other p k key es w e l =
    let e1 = w.number in let e2 = w.position in let e3 = w.level in let e4 = w.low in let e5 = w.high in
    let x : mk h.number h.lsn h.level (key_of h.low) (bound_of h.high) (fk (key_of k) other) es
    ≡ mk p.number lsn p.level p.low p.high (fk key other) (below says key p.entries) = cc in
    x

pub headed-upper : (says : Says) (h : Header) (lsn other : ℕ) (p : Content) (k : Key) (key : List ℕ) (es : List Entry) → Heads h lsn p → key_of k ≡ key
    → es ≡ from says key p.entries
    → content_of (record { number = other; lsn = h.lsn; level = h.level; low = k; high = h.high; foster = h.foster }) es
    ≡ upper_half says lsn key other p
unfolding upper_half mk
headed-upper says h lsn other p k key es w e l =
    let e2 = w.position in let e3 = w.level in let e5 = w.high in let e6 = w.foster in
    let x : mk other h.lsn h.level (key_of k) (bound_of h.high) (foster_of h.foster) es
    ≡ mk other lsn p.level key p.high p.foster (from says key p.entries) = cc in
    x

pub headed-root : (h : Header) (lsn other level : ℕ) (p : Content) (es : List Entry) → Heads h lsn p → level ≡ p.level → es ≡ branch [] other ∷ []
    → content_of (record { number = h.number; lsn = h.lsn; level = level + 1; low = h.low; high = h.high; foster = None }) es ≡ grown_root lsn other p
unfolding grown_root mk
headed-root h lsn other level p es w l e =
    let e1 = w.number in let e2 = w.position in let e4 = w.low in let e5 = w.high in
    let n : level + 1 ≡ suc p.level = omega arith in
    let x : mk h.number h.lsn (level + 1) (key_of h.low) (bound_of h.high) None es
    ≡ mk p.number lsn (suc p.level) p.low p.high None (branch [] other ∷ []) = cc in
    x

pub one-costs : (es : List Entry) (other : ℕ) → es ≡ branch [] other ∷ [] → costs es ≤ 436
unfolding costs cost
one-costs es other e = let c = ap costs e in omega arith

pub none-costs : costs [] ≤ 436
unfolding costs
none-costs = omega arith
