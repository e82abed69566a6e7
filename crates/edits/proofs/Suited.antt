-- The test of a record on a content is the tree's on the image.
use Rattle.std.proofs.Common.{◌≡◌, ℕ, zero, suc, Bool, false, cond, not, ◌&&◌, eqb, ltb, leb, List, Some, None, Option, sym, refl, ap, ◌∙◌, ap₂, arith}
use Rattle.order.specs.Fences.{Bound, is_below}
use Rattle.order.specs.Lawful.{Says}
use Rattle.page.specs.Content.{costs}
use Rattle.page.specs.Content as page
use Rattle.page.specs.Content.Entry.{leaf, branch}
use Rattle.page_edit.specs.Edits.{placed, has}
use Rattle.tree.specs.Rows.{set, find}
use Rattle.tree.specs.Tree.{Image, upper, upper_of}
use Rattle.tree.specs.Halves.{some, total}
use Rattle.tree.specs.Log.Change.{Format, Put, Remove, Foster, Adopt, Grow}
use Rattle.tree.specs.Suits.{below, in_bounds, is_foster, divides_page, adopts}
use Rattle.images.specs.Keys.{Key, Value, keyed, pair_cost, kid_cost}
use Rattle.images.specs.Images.{bound_of, foster_of, leaves, branches, entries_of, content_of}
use Rattle.images.specs.Laws.{Ranked}
use Rattle.edits.specs.Suits.{holds_key, have_room, divides, fosters}
use Rattle.edits.specs.Agree.{SuitsIsTheTrees}
use Rattle.edits.proofs.Entries.{eq-told, lt-told, le-told}
use Rattle.edits.proofs.Contents.{leaves-placed, branches-placed, leaves_have, branches_have, leaves-divide, branches-divide, leaves-cost, branches-cost}

not-leaf : (l : ℕ) → eqb (suc l) 0 ≡ false
not-leaf l = grind arith

both_false : (t a b : Bool) → t ≡ false → (t && a) ≡ (t && b)
both_false t a b e = ap (λ (s : Bool). s && a) e ∙ sym (ap (λ (s : Bool). s && b) e)

upper_is : (high : Option Key) (f : Option (Key × ℕ)) → page.upper_of (bound_of high) (foster_of f) ≡ bound_of (upper_of f high)
unfolding page.upper_of
upper_is high None = refl
upper_is high (Some f) = refl

below_is : (says : Says) (k : Key) (u : Option Key) → below (keyed says) k u ≡ is_below says k.bytes (bound_of u)
below_is says k None = refl
below_is says k (Some u) = lt-told (says k.bytes u.bytes)

fosters-is : (says : Says) (k : Key) (c : ℕ) (f : Option (Key × ℕ)) → is_foster (keyed says) k c f ≡ fosters says k.bytes c (foster_of f)
unfolding fosters
fosters-is says k c None = refl
fosters-is says k c (Some f) = ap (λ (b : Bool). b && eqb c f.1) (eq-told (says k.bytes f.0.bytes))

some_is : (f : Option (Key × ℕ)) → some f ≡ some (foster_of f)
some_is None = refl
some_is (Some f) = refl

module _ (says : Says) (q m : ℕ) (x : Image Key Value) where
  holds-is : (k : Key) → in_bounds (keyed says) k x.frame ≡ holds_key says k.bytes (content_of q m x)
  unfolding content_of page.upper
  holds-is k =
      ap₂ (λ (a b : Bool). a && b) (le-told (says x.frame.low.bytes k.bytes))
      (below_is says k (upper x.frame) ∙ ap (λ (u : Bound). is_below says k.bytes u) (sym (upper_is x.frame.high x.frame.foster)))

  divides_at : (d : Key) (l : ℕ) → divides_page (keyed says) pair_cost kid_cost d l x ≡ divides says d.bytes (entries_of l x)
  divides_at d zero = sym (leaves-divide says d x.pairs)
  divides_at d (suc l) = sym (branches-divide says d x.frame.kids)

  removes-at : (k : Key) (l : ℕ) → (eqb l 0 && some (find (keyed says) k x.pairs)) ≡ (eqb l 0 && has says k.bytes (entries_of l x))
  removes-at k zero = sym (leaves_have says k x.pairs)
  removes-at k (suc l) = both_false (eqb (suc l) 0) _ _ (not-leaf l)

  module _ (r : Ranked says) where
    pairs_room : (k : Key) (v : Value) (es : List (Key × Value))
        → leb (total pair_cost (set (keyed says) k v es)) 436 ≡ have_room (placed says (leaf k.bytes v.bytes) (leaves es))
    pairs_room k v es = ap (λ n. leb n 436) (sym (leaves-cost (set (keyed says) k v es)) ∙ ap costs (leaves-placed says r k v es))

    kids_room : (k : Key) (c : ℕ) (es : List (Key × ℕ))
        → leb (total kid_cost (set (keyed says) k c es)) 436 ≡ have_room (placed says (branch k.bytes c) (branches es))
    kids_room k c es = ap (λ n. leb n 436) (sym (branches-cost (set (keyed says) k c es)) ∙ ap costs (branches-placed says r k c es))

    -- a test of the range, and the same on the content
    puts-at : (k : Key) (v : Value) (a b : Bool) → a ≡ b → (l : ℕ)
        → (eqb l 0 && (a && leb (total pair_cost (set (keyed says) k v x.pairs)) 436))
        ≡ (eqb l 0 && (b && have_room (placed says (leaf k.bytes v.bytes) (entries_of l x))))
    puts-at k v a b e zero = ap₂ (λ (y z : Bool). y && z) e (pairs_room k v x.pairs)
    puts-at k v a b e (suc l) = both_false (eqb (suc l) 0) _ _ (not-leaf l)

    adopts-at : (k : Key) (c : ℕ) (b : Bool) → in_bounds (keyed says) k x.frame ≡ b → (l : ℕ)
        → adopts (keyed says) pair_cost kid_cost k c l x
        ≡ (not (eqb l 0) && (b && (not (has says k.bytes (entries_of l x)) && have_room (placed says (branch k.bytes c) (entries_of l x)))))
    adopts-at k c b e zero = refl
    adopts-at k c b e (suc l) =
        ap₂ (λ (y z : Bool). y && z) e
        (ap₂ (λ (y z : Bool). not y && z) (sym (branches_have says k x.frame.kids)) (kids_room k c x.frame.kids))
        ∙ sym (ap (λ (t : Bool). not t && (b && (not (has says k.bytes (branches x.frame.kids)) && have_room (placed says (branch k.bytes c) (branches x.frame.kids))))) (not-leaf l))

pub suits_is_the_trees : SuitsIsTheTrees
unfolding content_of
suits_is_the_trees says r Format p q m x = refl
suits_is_the_trees says r (Put j k v) p q m x = puts-at says q m x r k v _ _ (holds-is says q m x k) x.frame.level
suits_is_the_trees says r (Remove j k) p q m x = removes-at says q m x k x.frame.level
suits_is_the_trees says r (Foster j o d) p q m x =
    ap₂ (λ (y z : Bool). y && z) (holds-is says q m x d) (divides_at says q m x d x.frame.level)
suits_is_the_trees says r (Adopt j o k c) p q m x =
    ap₂ (λ (y z : Bool). cond (eqb p o) y z) (fosters-is says k c x.frame.foster) (adopts-at says q m x r k c _ (holds-is says q m x k) x.frame.level)
suits_is_the_trees says r (Grow o) p q m x = ap (λ (y : Bool). y && ltb x.frame.level 255) (some_is x.frame.foster)
