-- The contents: what is left is the level, which says whether a page's entries are leaves or branches.
use Rattle.std.proofs.Common.{◌≡◌, ℕ, zero, suc, List, [], ◌∷◌, Some, None, Option, sym, refl, subst, arith}
use Rattle.order.specs.Lawful.{Says}
use Rattle.page.specs.Content.{entry_key, entry_at, cost, costs}
use Rattle.page.specs.Content.Entry.{leaf, branch}
use Rattle.page_edit.specs.Edits as edit
use Rattle.page_edit.specs.Edits.{placed, below, has, first_half, formatted, with_entries, lower_half, upper_half, after_adoption, grown_root, grown_child}
use Rattle.tree.specs.Rows.{find, upto, from, set, without, Ascends}
use Rattle.tree.specs.Tree.{Image, edge, upper, putting, removing, gaining_image, lower_image, upper_image, ceding_image}
use Rattle.tree.specs.Halves.{some, total, divider, divides_row}
use Rattle.tree.specs.Suits.{Form}
use Rattle.images.specs.Keys.{Key, Value, empty_key, keyed, pair_cost, kid_cost}
use Rattle.images.specs.Images.{bound_of, foster_of, leaves, branches, entries_of, content_of}
use Rattle.images.specs.Laws.{Ranked}
use Rattle.edits.specs.Suits.{divides}
use Rattle.edits.specs.Agree.{PutIsTheTrees, RemoveIsTheTrees, AdoptingIsTheTrees, HasIsTheTrees, HalvesAreTheTrees, AdoptionIsTheTrees, GrowthIsTheTrees, FormatIsTheTrees, CostsAreTheTrees, Halved, DividersAreTheTrees}
use Rattle.edits.proofs.Entries.{leaf_of, branch_of, leaves_are, branches_are, placed-is, without_is, below_is, from_is, has-is, divides-is, costs_are, divider-is, After}

leaf-key : (e : Key × Value) → entry_key (leaf_of e) ≡ e.0.bytes
unfolding entry_key leaf_of
leaf-key e = refl

branch-key : (e : Key × ℕ) → entry_key (branch_of e) ≡ e.0.bytes
unfolding entry_key branch_of
branch-key e = refl

leaf-cost : (e : Key × Value) → cost (leaf_of e) ≡ pair_cost e
unfolding cost leaf_of
leaf-cost e = refl

branch-cost : (e : Key × ℕ) → cost (branch_of e) ≡ kid_cost e
unfolding cost branch_of
branch-cost e = refl

module _ (says : Says) (r : Ranked says) where
  pub leaves-placed : (k : Key) (v : Value) (es : List (Key × Value)) → leaves (set (keyed says) k v es) ≡ placed says (leaf k.bytes v.bytes) (leaves es)
  unfolding leaf_of
  leaves-placed k v es =
      subst (λ f. f (set (keyed says) k v es) ≡ placed says (leaf k.bytes v.bytes) (f es)) leaves_are (placed-is leaf_of leaf-key says r k v es)

  pub branches-placed : (k : Key) (c : ℕ) (es : List (Key × ℕ)) → branches (set (keyed says) k c es) ≡ placed says (branch k.bytes c) (branches es)
  unfolding branch_of
  branches-placed k c es =
      subst (λ f. f (set (keyed says) k c es) ≡ placed says (branch k.bytes c) (f es)) branches_are (placed-is branch_of branch-key says r k c es)

  leaves-without : (k : Key) (a b : ℕ) (es : List (Key × Value)) → Ascends r.rank a es b
      → leaves (without (keyed says) k es) ≡ edit.without says k.bytes (leaves es)
  leaves-without k a b es n =
      subst (λ f. f (without (keyed says) k es) ≡ edit.without says k.bytes (f es)) leaves_are (without_is leaf_of leaf-key says r k a b es n)

  -- either kind of page, below a key and from it on
  lower-entries : (d : Key) (q : ℕ) (x : Image Key Value) → Form r.rank r.top x → (l : ℕ)
      → entries_of l (lower_image (keyed says) empty_key d q x) ≡ below says d.bytes (entries_of l x)
  lower-entries d q x h zero =
      subst (λ f. f (upto (keyed says) d x.pairs) ≡ below says d.bytes (f x.pairs)) leaves_are
      (below_is leaf_of leaf-key says r d (r.rank x.frame.low) (edge r.rank r.top (upper x.frame)) x.pairs h.pairs_ascend)
  lower-entries d q x h (suc l) =
      subst (λ f. f (upto (keyed says) d x.frame.kids) ≡ below says d.bytes (f x.frame.kids)) branches_are
      (below_is branch_of branch-key says r d (r.rank x.frame.low) (edge r.rank r.top (upper x.frame)) x.frame.kids h.kids_ascend)

  upper-entries : (d : Key) (x : Image Key Value) → Form r.rank r.top x → (l : ℕ)
      → entries_of l (upper_image (keyed says) empty_key d x) ≡ edit.from says d.bytes (entries_of l x)
  upper-entries d x h zero =
      subst (λ f. f (from (keyed says) d x.pairs) ≡ edit.from says d.bytes (f x.pairs)) leaves_are
      (from_is leaf_of leaf-key says r d (r.rank x.frame.low) (edge r.rank r.top (upper x.frame)) x.pairs h.pairs_ascend)
  upper-entries d x h (suc l) =
      subst (λ f. f (from (keyed says) d x.frame.kids) ≡ edit.from says d.bytes (f x.frame.kids)) branches_are
      (from_is branch_of branch-key says r d (r.rank x.frame.low) (edge r.rank r.top (upper x.frame)) x.frame.kids h.kids_ascend)

pub leaves_have : (says : Says) (k : Key) (es : List (Key × Value)) → has says k.bytes (leaves es) ≡ some (find (keyed says) k es)
leaves_have says k es = subst (λ f. has says k.bytes (f es) ≡ some (find (keyed says) k es)) leaves_are (has-is leaf_of leaf-key says k es)

pub branches_have : (says : Says) (k : Key) (es : List (Key × ℕ)) → has says k.bytes (branches es) ≡ some (find (keyed says) k es)
branches_have says k es = subst (λ f. has says k.bytes (f es) ≡ some (find (keyed says) k es)) branches_are (has-is branch_of branch-key says k es)

pub leaves-divide : (says : Says) (k : Key) (es : List (Key × Value)) → divides says k.bytes (leaves es) ≡ divides_row (keyed says) k es
leaves-divide says k es =
    subst (λ f. divides says k.bytes (f es) ≡ divides_row (keyed says) k es) leaves_are (divides-is leaf_of leaf-key says k es)

pub branches-divide : (says : Says) (k : Key) (es : List (Key × ℕ)) → divides says k.bytes (branches es) ≡ divides_row (keyed says) k es
branches-divide says k es =
    subst (λ f. divides says k.bytes (f es) ≡ divides_row (keyed says) k es) branches_are (divides-is branch_of branch-key says k es)

pub leaves-cost : (es : List (Key × Value)) → costs (leaves es) ≡ total pair_cost es
leaves-cost es = subst (λ f. costs (f es) ≡ total pair_cost es) leaves_are (costs_are leaf_of leaf-key pair_cost leaf-cost es)

pub branches-cost : (es : List (Key × ℕ)) → costs (branches es) ≡ total kid_cost es
branches-cost es = subst (λ f. costs (f es) ≡ total kid_cost es) branches_are (costs_are branch_of branch-key kid_cost branch-cost es)

leaves-halved : (es : List (Key × Value)) → After (leaves es) (first_half (leaves es)) (divider pair_cost es)
leaves-halved es = subst (λ f. After (f es) (first_half (f es)) (divider pair_cost es)) leaves_are (divider-is leaf_of leaf-key pair_cost leaf-cost es)

branches-halved : (es : List (Key × ℕ)) → After (branches es) (first_half (branches es)) (divider kid_cost es)
branches-halved es = subst (λ f. After (f es) (first_half (f es)) (divider kid_cost es)) branches_are (divider-is branch_of branch-key kid_cost branch-cost es)

-- The theorems.

pub put_is_the_trees : PutIsTheTrees
unfolding content_of with_entries
put_is_the_trees says r p m n k v x e = λ i. record {
  number = p;
  lsn = n;
  level = x.frame.level;
  low = x.frame.low.bytes;
  high = bound_of x.frame.high;
  foster = foster_of x.frame.foster;
  entries = go x.frame.level e i;
}
  where
    go : (l : ℕ) → l ≡ 0 → entries_of l (putting (keyed says) empty_key k v x) ≡ placed says (leaf k.bytes v.bytes) (entries_of l x)
    go zero z = leaves-placed says r k v x.pairs
    go (suc l) z = absurd (omega arith)

pub remove_is_the_trees : RemoveIsTheTrees
unfolding content_of with_entries
remove_is_the_trees says r p m n k x e h = λ i. record {
  number = p;
  lsn = n;
  level = x.frame.level;
  low = x.frame.low.bytes;
  high = bound_of x.frame.high;
  foster = foster_of x.frame.foster;
  entries = go x.frame.level e i;
}
  where
    go : (l : ℕ) → l ≡ 0 → entries_of l (removing (keyed says) empty_key k x) ≡ edit.without says k.bytes (entries_of l x)
    go zero z = leaves-without says r k (r.rank x.frame.low) (edge r.rank r.top (upper x.frame)) x.pairs h.pairs_ascend
    go (suc l) z = absurd (omega arith)

pub adopting_is_the_trees : AdoptingIsTheTrees
unfolding content_of with_entries
adopting_is_the_trees says r p m n k c x l e = λ i. record {
  number = p;
  lsn = n;
  level = x.frame.level;
  low = x.frame.low.bytes;
  high = bound_of x.frame.high;
  foster = foster_of x.frame.foster;
  entries = go x.frame.level e i;
}
  where
    go : (j : ℕ) → j ≡ suc l → entries_of j (gaining_image (keyed says) empty_key k c x) ≡ placed says (branch k.bytes c) (entries_of j x)
    go zero z = absurd (omega arith)
    go (suc j) z = branches-placed says r k c x.frame.kids

pub has_is_the_trees : HasIsTheTrees
unfolding content_of
has_is_the_trees says p m k x = (leaf-has x.frame.level, λ l. branch-has l x.frame.level)
  where
    leaf-has : (j : ℕ) → j ≡ 0 → has says k.bytes (entries_of j x) ≡ some (find (keyed says) k x.pairs)
    leaf-has zero z = leaves_have says k x.pairs
    leaf-has (suc j) z = absurd (omega arith)

    branch-has : (l j : ℕ) → j ≡ suc l → has says k.bytes (entries_of j x) ≡ some (find (keyed says) k x.frame.kids)
    branch-has l zero z = absurd (omega arith)
    branch-has l (suc j) z = branches_have says k x.frame.kids

pub halves_are_the_trees : HalvesAreTheTrees
unfolding content_of lower_half upper_half
halves_are_the_trees says r p q m n d x h = (
  (λ i. record {
    number = p;
    lsn = n;
    level = x.frame.level;
    low = x.frame.low.bytes;
    high = bound_of x.frame.high;
    foster = Some (record { key = d.bytes; child = q });
    entries = lower-entries says r d q x h x.frame.level i;
  }),
  (λ i. record {
    number = q;
    lsn = n;
    level = x.frame.level;
    low = d.bytes;
    high = bound_of x.frame.high;
    foster = foster_of x.frame.foster;
    entries = upper-entries says r d x h x.frame.level i;
  }),
)

pub adoption_is_the_trees : AdoptionIsTheTrees
unfolding content_of after_adoption
adoption_is_the_trees says p m n k x = λ i. record {
  number = p;
  lsn = n;
  level = x.frame.level;
  low = x.frame.low.bytes;
  high = Some k.bytes;
  foster = None;
  entries = same x.frame.level i;
}
  where
    same : (l : ℕ) → entries_of l (ceding_image (keyed says) empty_key k x) ≡ entries_of l x
    same zero = refl
    same (suc l) = refl

pub growth_is_the_trees : GrowthIsTheTrees
unfolding content_of grown_root grown_child branches
growth_is_the_trees says q m n x = (
  (λ low high i. record {
    number = 0;
    lsn = n;
    level = suc x.frame.level;
    low = (sym low i).bytes;
    high = bound_of (sym high i);
    foster = None;
    entries = branch [] q ∷ [];
  }),
  refl,
)

pub format_is_the_trees : FormatIsTheTrees
unfolding content_of formatted leaves
format_is_the_trees says n = refl

pub costs_are_the_trees : CostsAreTheTrees
unfolding content_of
costs_are_the_trees p n x = (leaf-costs x.frame.level, λ l. branch-costs l x.frame.level)
  where
    leaf-costs : (j : ℕ) → j ≡ 0 → costs (entries_of j x) ≡ total pair_cost x.pairs
    leaf-costs zero z = leaves-cost x.pairs
    leaf-costs (suc j) z = absurd (omega arith)

    branch-costs : (l j : ℕ) → j ≡ suc l → costs (entries_of j x) ≡ total kid_cost x.frame.kids
    branch-costs l zero z = absurd (omega arith)
    branch-costs l (suc j) z = branches-cost x.frame.kids

halved : (p n : ℕ) (x : Image Key Value) (d : Option Key) → After (entries_of x.frame.level x) (first_half (entries_of x.frame.level x)) d
    → Halved (content_of p n x) d
unfolding content_of entry_at
halved p n x d h = record { key = h.key; none = h.none }

pub dividers_are_the_trees : DividersAreTheTrees
dividers_are_the_trees p n x = (
  (λ e. halved p n x (divider pair_cost x.pairs) (leaf-halved x.frame.level e)),
  (λ l e. halved p n x (divider kid_cost x.frame.kids) (branch-halved l x.frame.level e)),
)
  where
    leaf-halved : (j : ℕ) → j ≡ 0 → After (entries_of j x) (first_half (entries_of j x)) (divider pair_cost x.pairs)
    leaf-halved zero z = leaves-halved x.pairs
    leaf-halved (suc j) z = absurd (omega arith)

    branch-halved : (l j : ℕ) → j ≡ suc l → After (entries_of j x) (first_half (entries_of j x)) (divider kid_cost x.frame.kids)
    branch-halved l zero z = absurd (omega arith)
    branch-halved l (suc j) z = branches-halved x.frame.kids
