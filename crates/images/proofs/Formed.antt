-- A shaped image's content has the form of a page, and the image is read from that content.
use Rattle.std.proofs.Common.{◌≡◌, ℕ, zero, suc, ◌^◌, ◌<◌, ◌≤◌, true, eqb, List, [], ◌∷◌, length, Some, None, Option, sym, refl, ap, arith}
use Rattle.std.proofs.lemmas.Bool.{and_from, le-leb, ne_eqb, not_from_false}
use Rattle.ranks.specs.Lists.{All}
use Rattle.page.specs.Content.{foster_child, cost, costs}
use Rattle.page.specs.Form.{is_child, is_entry, are_entries, are_enough, is_short, is_foster, is_form}
use Rattle.page.specs.Laws.{AllKinded, Fits}
use Rattle.tree.specs.Tree.{Image}
use Rattle.tree.specs.Halves.{total}
use Rattle.tree.specs.Suits.{first_of}
use Rattle.images.specs.Keys.{Key, Value, pair_cost, kid_cost}
use Rattle.images.specs.Images.{bound_of, foster_of, leaves, branches, entries_of, content_of, bound_in, foster_in, pairs_in, kids_in, entries_in, image_in}
use Rattle.images.specs.Laws.{Child, Shaped}
use Rattle.images.proofs.Strings.{key_length, value_length, opt-some, fence_back, key_back, value_back}

child-passes : (p c : ℕ) → Child p c → is_child p c ≡ true
unfolding is_child
child-passes p c h =
    and_from _ _ (not_from_false (eqb c 0) (ne_eqb c 0 h.inner)) (not_from_false (eqb c p) (ne_eqb c p h.other))

leaves_pass : (p : ℕ) (es : List (Key × Value)) → All (λ (e : Key × Value). 0 < length e.0.bytes) es → are_entries p (leaves es) ≡ true
unfolding leaves are_entries is_entry
leaves_pass p [] h = refl
leaves_pass p (e ∷ es) h =
    and_from _ _
    (and_from _ _ (le-leb 1 (length e.0.bytes) h.0)
    (and_from _ _ (le-leb (length e.0.bytes) 16 (key_length e.0)) (le-leb (length e.1.bytes) 64 (value_length e.1))))
    (leaves_pass p es h.1)

branches_pass : (p : ℕ) (es : List (Key × ℕ)) → All (λ (e : Key × ℕ). Child p e.1) es → are_entries p (branches es) ≡ true
unfolding branches are_entries is_entry
branches_pass p [] h = refl
branches_pass p (e ∷ es) h =
    and_from _ _ (and_from _ _ (le-leb (length e.0.bytes) 16 (key_length e.0)) (child-passes p e.1 h.0)) (branches_pass p es h.1)

pub leaves-cost : (es : List (Key × Value)) → costs (leaves es) ≡ total pair_cost es
unfolding leaves costs cost
leaves-cost [] = refl
leaves-cost (e ∷ es) = let t = leaves-cost es in omega arith

pub branches-cost : (es : List (Key × ℕ)) → costs (branches es) ≡ total kid_cost es
unfolding branches costs cost
branches-cost [] = refl
branches-cost (e ∷ es) = let t = branches-cost es in omega arith

pub leaves-kinded : (es : List (Key × Value)) → AllKinded 0 (leaves es)
unfolding leaves
leaves-kinded [] = tt
leaves-kinded (e ∷ es) = (tt, leaves-kinded es)

branches-kinded : (p l : ℕ) (es : List (Key × ℕ)) → All (λ (e : Key × ℕ). Child p e.1) es → AllKinded (suc l) (branches es)
unfolding branches
branches-kinded p l [] h = tt
branches-kinded p l (e ∷ es) h = (h.0.word, branches-kinded p l es h.1)

leaf-enough : (es : List (Key × Value)) → are_enough 0 (leaves es) ≡ true
unfolding leaves are_enough
leaf-enough [] = refl
leaf-enough (e ∷ es) = refl

branch-enough : (l : ℕ) (k : Key) (es : List (Key × ℕ)) → first_of es ≡ Some k → are_enough (suc l) (branches es) ≡ true
unfolding branches are_enough
branch-enough l k [] h = let z : ◌≡◌ {A = ℕ} 0 1 = cc in absurd (omega arith)
branch-enough l k (e ∷ es) h = refl

bound-short : (h : Option Key) → is_short (bound_of h) ≡ true
unfolding is_short
bound-short None = refl
bound-short (Some k) = le-leb (length k.bytes) 16 (key_length k)

foster-passes : (p : ℕ) (f : Option (Key × ℕ)) → ((g : Key × ℕ) → f ≡ Some g → Child p g.1) → is_foster p (foster_of f) ≡ true
unfolding is_foster
foster-passes p None h = refl
foster-passes p (Some f) h = and_from _ _ (le-leb (length f.0.bytes) 16 (key_length f.0)) (child-passes p f.1 (h f refl))

foster-fits : (p : ℕ) (f : Option (Key × ℕ)) → ((g : Key × ℕ) → f ≡ Some g → Child p g.1) → foster_child (foster_of f) < 2 ^ 32
unfolding foster_child
foster-fits p None h = omega arith
foster-fits p (Some f) h = (h f refl).word

pub bound_back : (h : Option Key) → bound_in (bound_of h) ≡ Some h
unfolding bound_in
bound_back None = refl
bound_back (Some k) = opt-some _ k _ _ (fence_back k) refl

pub foster_back : (f : Option (Key × ℕ)) → foster_in (foster_of f) ≡ Some f
unfolding foster_in
foster_back None = refl
foster_back (Some f) = opt-some _ f.0 _ _ (fence_back f.0) refl

pub pairs_back : (es : List (Key × Value)) → All (λ (e : Key × Value). 0 < length e.0.bytes) es → pairs_in (leaves es) ≡ Some es
unfolding pairs_in leaves
pairs_back [] h = refl
pairs_back (e ∷ es) h =
    opt-some _ e.0 _ _ (key_back e.0 h.0) (opt-some _ e.1 _ _ (value_back e.1) (opt-some _ es _ _ (pairs_back es h.1) refl))

pub kids_back : (es : List (Key × ℕ)) → kids_in (branches es) ≡ Some es
unfolding kids_in branches
kids_back [] = refl
kids_back (e ∷ es) = opt-some _ e.0 _ _ (fence_back e.0) (opt-some _ es _ _ (kids_back es) refl)

module _ (rank : Key → ℕ) (top p : ℕ) (x : Image Key Value) (h : Shaped rank top p x) where
  enough : (l : ℕ) → x.frame.level ≡ l → are_enough l (entries_of l x) ≡ true
  enough zero e = leaf-enough x.pairs
  enough (suc l) e = branch-enough l x.frame.low x.frame.kids (h.form.first_is l e)

  entries_pass : (l : ℕ) → are_entries p (entries_of l x) ≡ true
  entries_pass zero = leaves_pass p x.pairs h.named
  entries_pass (suc l) = branches_pass p x.frame.kids h.kids

  entries_fit : (l : ℕ) → costs (entries_of l x) ≤ 436
  entries_fit zero = let t = leaves-cost x.pairs in let r = h.pairs_room in omega arith
  entries_fit (suc l) = let t = branches-cost x.frame.kids in let r = h.kids_room in omega arith

  entries-kinded : (l : ℕ) → AllKinded l (entries_of l x)
  entries-kinded zero = leaves-kinded x.pairs
  entries-kinded (suc l) = branches-kinded p l x.frame.kids h.kids

  pub has-form : (n : ℕ) → is_form (content_of p n x) ≡ true
  unfolding is_form content_of
  has-form n =
      and_from _ _
      (and_from _ _ (le-leb (length x.frame.low.bytes) 16 (key_length x.frame.low))
      (and_from _ _ (bound-short x.frame.high) (foster-passes p x.frame.foster h.fosters)))
      (and_from _ _ (enough x.frame.level refl)
      (and_from _ _ (entries_pass x.frame.level) (le-leb (costs (entries_of x.frame.level x)) 436 (entries_fit x.frame.level))))

  pub has-fields : (n : ℕ) → p < 2 ^ 32 → n < 2 ^ 32 → Fits (content_of p n x)
  unfolding content_of
  has-fields n hp hn = record {
    number = hp;
    lsn = hn;
    foster = foster-fits p x.frame.foster h.fosters;
    kinded = entries-kinded x.frame.level;
  }

  entries_back : (l : ℕ) → x.frame.level ≡ l → entries_in l (entries_of l x) ≡ Some (x.frame.kids, x.pairs)
  unfolding entries_in
  entries_back zero e =
      opt-some _ x.pairs _ _ (pairs_back x.pairs h.named)
      (ap {B = Option (List (Key × ℕ) × List (Key × Value))} (λ (y : List (Key × ℕ)). Some (y, x.pairs)) (sym (h.leaf_kids e)))
  entries_back (suc l) e =
      opt-some _ x.frame.kids _ _ (kids_back x.frame.kids)
      (ap {B = Option (List (Key × ℕ) × List (Key × Value))} (λ (y : List (Key × Value)). Some (x.frame.kids, y)) (sym (h.branch_pairs l e)))

  pub image_back : (n : ℕ) → image_in (content_of p n x) ≡ Some x
  unfolding image_in content_of
  image_back n =
      opt-some _ x.frame.low _ _ (fence_back x.frame.low)
      (opt-some _ x.frame.high _ _ (bound_back x.frame.high)
      (opt-some _ x.frame.foster _ _ (foster_back x.frame.foster)
      (opt-some _ (x.frame.kids, x.pairs) _ _ (entries_back x.frame.level refl) refl)))
