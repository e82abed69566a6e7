-- The row of a run's log: its length, and one record more.
use Rattle.std.proofs.Common.{◌≡◌, ℕ, suc, ◌+◌, ◌≤◌, true, List, [], ◌∷◌, ◌++◌, length, drop, sym, refl, ap, ◌∙◌, subst, inr, arith}
use Prim.Native.Nat.{Ordering}
use Rattle.std.proofs.lemmas.List.{nil_from_length}
use Rattle.order.specs.Lawful.{Says}
use Rattle.wal.specs.Journal.{Entry, entry}
use Rattle.tree.specs.Log.{Rec, Logged, append, run, start}
use Rattle.tree.proofs.Runs.{within-run}
use Rattle.images.specs.Keys.{Key, Value, empty_key, keyed}
use Rattle.images.specs.Records.{encode_rec, names_well, chain_rec}
use Rattle.images.specs.Laws.{Ranked, Recordable}
use Rattle.model.specs.Runs.{Added, Reads, records_from}
use Rattle.media.proofs.Media.{Written, made}

pub records-more : (n m : ℕ) (xs : Added) (b : List ℕ) → m ≡ n + length xs → records_from n (xs ++ (b ∷ [])) ≡ records_from n xs ++ (chain_rec m b ∷ [])
unfolding records_from
records-more n m [] b e = let i : n ≡ m = omega arith in ap {B = List (Rec Key Value)} (λ k. chain_rec k b ∷ []) i
records-more n m (x ∷ xs) b e = ap {B = List (Rec Key Value)} (λ rs. chain_rec n x ∷ rs) (records-more (suc n) m xs b (omega arith))

pub records-length : (n : ℕ) (xs : Added) → length (records_from n xs) ≡ length xs
unfolding records_from
records-length n [] = refl
records-length n (x ∷ xs) = ap suc (records-length (suc n) xs)

pub written-more : (n m : ℕ) (xs : Added) (b : List ℕ) → m ≡ n + length xs → Written n xs
    → (encode_rec m (chain_rec m b) ≡ b) × Recordable m (chain_rec m b) × (names_well m (chain_rec m b) ≡ true) → Written n (xs ++ (b ∷ []))
written-more n m [] b e w h =
    let i : m ≡ n = omega arith in
    (subst (λ k. (encode_rec k (chain_rec k b) ≡ b) × Recordable k (chain_rec k b) × (names_well k (chain_rec k b) ≡ true)) i h, tt)
written-more n m (x ∷ xs) b e w h = (w.0, written-more (suc n) m xs b (omega arith) w.1 h)

pub reads_more : (es : List Entry) (xs : Added) (b : List ℕ) → Reads es xs → Reads (es ++ (entry b ∷ [])) (xs ++ (b ∷ []))
reads_more [] [] b h = (inr refl, tt)
reads_more [] (x ∷ xs) b h = absurd h
reads_more (e ∷ es) [] b h = absurd h
reads_more (e ∷ es) (x ∷ xs) b h = (h.0, reads_more es xs b h.1)

pub reads-length : (es : List Entry) (xs : Added) → Reads es xs → length es ≡ length xs
reads-length [] [] h = refl
reads-length [] (x ∷ xs) h = absurd h
reads-length (e ∷ es) [] h = absurd h
reads-length (e ∷ es) (x ∷ xs) h = ap suc (reads-length es xs h.1)

pub reads_none : (es : List Entry) (xs : Added) → Reads es xs → length es ≡ 0 → xs ≡ []
reads_none es xs h e = nil_from_length xs (sym (reads-length es xs h) ∙ e)

pub reads_nothing : (es : List Entry) → es ≡ [] → Reads es []
reads_nothing es e = subst (λ l. Reads l []) (sym e) tt

module _ {K V : Type 0} (cmp : K → K → Ordering) (least : K) where
  pub run-count : (s : Logged K V) (rs : List (Rec K V)) → (run cmp least s rs).count ≡ s.count + length rs
  run-count s [] = omega arith
  run-count s (r ∷ rs) = let t = run-count (append cmp least r s) rs in omega arith

pub drop-front : {A : Type 0} (xs ys : List A) → drop (length xs) (xs ++ ys) ≡ ys
drop-front [] ys = refl
drop-front (x ∷ xs) ys = drop-front xs ys

module _ (says : Says) (r : Ranked says) where
  pub made-count : (added : Added) → (made says r added).count ≡ length added
  made-count added = omega (arith, run-count (keyed says) empty_key (start (keyed says) empty_key) (records_from 1 added), records-length 1 added)

  pub made-within : (added : Added) (p : ℕ) → (made says r added).newest p ≤ (made says r added).count
  made-within added = within-run (keyed says) empty_key (start (keyed says) empty_key) (records_from 1 added) (λ p. omega arith)
