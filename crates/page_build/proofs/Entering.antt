-- The bytes of an entry that is to go in.
use Rattle.std.proofs.Common.{◌≡◌, ℕ, ◌+◌, ◌≤◌, Bool, cond, List, [], ◌++◌, length, get_or, take, drop, sym, ap, ◌∙◌, ap₂, append-nil, arith}
use native.Mathlib.Nat.{min-le_left}
use Rattle.std.proofs.lemmas.List.{length-take}
use Rattle.field.specs.Fields.{prefixed, field_at}
use Rattle.page.specs.Content.{Entry}
use Rattle.page.specs.Content.Entry.{leaf, branch}
use Rattle.page.specs.Image.{entry_bytes, entry_of}
use Rattle.page.specs.Laws.{Kinded}
use Rattle.page.proofs.Entries.{entry_back}
use Rattle.page_build.specs.Fresh.{fresh_entry}
use Rattle.seal.specs.Seal.{le4}

pub field-short : (n : ℕ) (image : List ℕ) → get_or image 0 0 ≤ n → length (prefixed (field_at image 0)) ≤ 1 + n
unfolding prefixed field_at
field-short n image h = let l = length-take (get_or image 0 0) (drop 1 image) in let m = min-le_left (get_or image 0 0) (length (drop 1 image)) in omega arith

-- bytes that are an entry's are that entry
pub fresh-is : (b : Bool) (e : Entry) (n : ℕ) (bytes : List ℕ) → Kinded (cond b 1 0) e → take n bytes ≡ entry_bytes e → fresh_entry b n bytes ≡ e
fresh-is b e n bytes k w = ap (entry_of (cond b 1 0)) (w ∙ sym (append-nil (entry_bytes e))) ∙ entry_back (cond b 1 0) e [] k

pub fresh-whole : (b : Bool) (e : Entry) (n : ℕ) (bytes : List ℕ) → Kinded (cond b 1 0) e → take n bytes ≡ entry_bytes e
    → entry_bytes (fresh_entry b n bytes) ≡ take n bytes
fresh-whole b e n bytes k w = ap entry_bytes (fresh-is b e n bytes k w) ∙ sym w

pub leaf-bytes : (key value first second bytes : List ℕ) → first ≡ prefixed key → second ≡ prefixed value
    → take (length first + length second) bytes ≡ first ++ second → take (length first + length second) bytes ≡ entry_bytes (leaf key value)
unfolding entry_bytes
leaf-bytes key value first second bytes f s w = w ∙ ap₂ (λ (x y : List ℕ). x ++ y) f s

pub branch-bytes : (key : List ℕ) (child : ℕ) (first second bytes : List ℕ) → first ≡ prefixed key → second ≡ le4 child
    → take (length first + length second) bytes ≡ first ++ second → take (length first + 4) bytes ≡ entry_bytes (branch key child)
unfolding entry_bytes
branch-bytes key child first second bytes f s w =
    ap (λ (n : ℕ). take (length first + n) bytes) (sym (ap length s)) ∙ w ∙ ap₂ (λ (x y : List ℕ). x ++ y) f s
