-- What a page keeps: costs, and headers that become contents.
use Rattle.std.proofs.Common.{◌≡◌, ℕ, zero, suc, ◌+◌, ◌-◌, ◌<◌, ◌≤◌, true, List, [], ◌∷◌, ◌++◌, length, get_or, take, drop, Some, None, Option, ap, ◌∙◌, arith, take-append-drop}
use Rattle.std.proofs.lemmas.List.{drop-drop}
use Rattle.std.proofs.lemmas.Bool.{leb-true}
use Rattle.field.specs.Fields.{prefixed}
use Rattle.field.specs.Held.{Key, key_of}
use Rattle.order.specs.Fences.{Bound}
use Rattle.order.specs.Lawful.{Says, Chain}
use Rattle.order.specs.Slots.{Ascending}
use Rattle.page.specs.Content.{Entry, Foster, Content, keys_in, cost, costs}
use Rattle.page.specs.Content.Entry.{leaf, branch}
use Rattle.page.specs.Form.{is_laid, is_ordered}
use Rattle.page.specs.Image.{parse_page}
use Rattle.page.proofs.Pages.{formed}
use Rattle.page.proofs.Parsed.{form_of}
use Rattle.page.proofs.Rises.{ascending}
use Rattle.page_build.specs.declared.header.Header.{Header}
use Rattle.page_build.specs.Spliced.{spliced}
use Rattle.page_build.specs.Told.{content_of, Heads, bound_of, foster_of}
use Rattle.page_build.proofs.Entering.{field-short}
use Rattle.page_build.proofs.Filling.{left-more}
use Rattle.page_edit.specs.Edits.{with_entries, after_adoption, grown_child}

costs-append : (xs ys : List Entry) → costs (xs ++ ys) ≡ costs xs + costs ys
unfolding costs
costs-append [] ys = omega arith
costs-append (x ∷ xs) ys = let h = costs-append xs ys in omega arith

costs-drop : (n : ℕ) (es : List Entry) → costs (drop n es) ≤ costs es
unfolding costs
costs-drop zero es = omega arith
costs-drop (suc n) [] = omega arith
costs-drop (suc n) (e ∷ es) = let h = costs-drop n es in omega arith

count-costs : (es : List Entry) → length es ≤ costs es
unfolding costs cost
count-costs [] = omega arith
count-costs (leaf k v ∷ es) = let h = count-costs es in omega arith
count-costs (branch k c ∷ es) = let h = count-costs es in omega arith

-- fewer entries cost no more
pub costs-kept : (es : List Entry) (keep resume : ℕ) → keep ≤ resume → costs (spliced es keep [] resume) ≤ costs es
unfolding spliced
costs-kept es keep resume h =
    let s : keep + (resume - keep) ≡ resume = omega arith in
    let a = costs-append (take keep es) (drop resume es) in
    let b = costs-drop (resume - keep) (drop keep es) in
    let e : costs (drop (resume - keep) (drop keep es)) ≡ costs (drop resume es) =
    ap costs (drop-drop (resume - keep) keep es ∙ ap (λ (i : ℕ). drop i es) s) in
    let c = costs-append (take keep es) (drop keep es) in
    let d = ap costs (take-append-drop keep es) in
    omega arith

pub room : (b : List ℕ) → is_laid b ≡ true → costs (parse_page b).entries ≤ 436
room b laid = leb-true (costs (parse_page b).entries) 436 (formed (parse_page b) (form_of b laid)).room

pub few : (b : List ℕ) → is_laid b ≡ true → length (parse_page b).entries ≤ 436
few b laid = let r = room b laid in let c = count-costs (parse_page b).entries in omega arith

-- a loop's turn over the costs
pub costs-next : (es : List Entry) (i n : ℕ) → i < length es → n ≡ cost (get_or es i (leaf [] [])) → costs (drop i es) ≡ n + costs (drop (i + 1) es)
unfolding costs
costs-next es i n h e = ap costs (left-more es i h) ∙ omega arith

pub all-kept : (es : List Entry) (n : ℕ) → spliced es n [] n ≡ es
unfolding spliced
all-kept es n = take-append-drop n es

pub key-short : (k : Key) → length (key_of k) ≤ 16
unfolding prefixed
key-short k = let h = field-short 16 k.image (omega (arith, k.fits)) in omega arith

pub bytes-short : (k : Key) (bytes : List ℕ) → bytes ≡ key_of k → length bytes ≤ 16
bytes-short k bytes e = let h = key-short k in let l = ap length e in omega arith

-- under its order the keys of a page ascend
pub keys_ascend : {says : Says} → Chain says → (b : List ℕ) → is_laid b ≡ true → is_ordered says (parse_page b) ≡ true
    → Ascending says (keys_in (parse_page b).entries)
keys_ascend chain b laid ordered = ascending chain (parse_page b) (form_of b laid) ordered

mk : ℕ → ℕ → ℕ → List ℕ → Bound → Option Foster → List Entry → Content
mk a b c d e f g = record { number = a; lsn = b; level = c; low = d; high = e; foster = f; entries = g }

-- a header with a page's own fields
pub headed : (h : Header) (lsn : ℕ) (p : Content) (es : List Entry) → Heads h lsn p → content_of h es ≡ with_entries lsn es p
unfolding with_entries mk
headed h lsn p es w =
    let e1 = w.number in let e2 = w.position in let e3 = w.level in let e4 = w.low in let e5 = w.high in let e6 = w.foster in
    let x : mk h.number h.lsn h.level (key_of h.low) (bound_of h.high) (foster_of h.foster) es
    ≡ mk p.number lsn p.level p.low p.high p.foster es = cc in
    x

pub headed_adoption : (h : Header) (lsn : ℕ) (p : Content) (key : Key) → Heads h lsn p
    → content_of (record { number = h.number; lsn = h.lsn; level = h.level; low = h.low; high = Some key; foster = None }) p.entries
    ≡ after_adoption lsn (key_of key) p
unfolding after_adoption mk
headed_adoption h lsn p key w =
    let e1 = w.number in let e2 = w.position in let e3 = w.level in let e4 = w.low in
    let x : mk h.number h.lsn h.level (key_of h.low) (Some (key_of key)) None p.entries
    ≡ mk p.number lsn p.level p.low (Some (key_of key)) None p.entries = cc in
    x

pub headed-child : (h : Header) (lsn other : ℕ) (p : Content) → Heads h lsn p
    → content_of (record { number = other; lsn = h.lsn; level = h.level; low = h.low; high = h.high; foster = h.foster }) p.entries
    ≡ grown_child lsn other p
unfolding grown_child mk
headed-child h lsn other p w =
    let e2 = w.position in let e3 = w.level in let e4 = w.low in let e5 = w.high in let e6 = w.foster in
    let x : mk other h.lsn h.level (key_of h.low) (bound_of h.high) (foster_of h.foster) p.entries
    ≡ mk other lsn p.level p.low p.high p.foster p.entries = cc in
    x
