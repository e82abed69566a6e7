-- What the tree's plans append is apt for the log.
use Rattle.std.proofs.Common.{◌≡◌, ℕ, ◌<◌, ◌≤◌, true, leb, List, [], ◌∷◌, Some, None, Option, sym, ap, ◌∙◌, subst, arith}
use Rattle.std.proofs.lemmas.Bool.{cond_both}
use Rattle.order.specs.Lawful.{Says}
use Rattle.tree.specs.Rows.{by, set, find}
use Rattle.tree.specs.Tree.{Holds}
use Rattle.tree.specs.Log.{Change, Logged}
use Rattle.tree.specs.Log.Change.{Put, Remove}
use Rattle.tree.specs.Halves.{total, divider, Cheap}
use Rattle.tree.specs.Plan.{changed, planned_put, put_divided, planned_tend, MayAll, Priced}
use Rattle.tree.specs.Suits.{suits}
use Rattle.tree.proofs.Fit.{FitAll, Roomy, put-fits, remove-fits, tend_fits}
use Rattle.tree.proofs.Plan.{put-kept, tend_kept}
use Rattle.tree.proofs.Runs.{Each}
use Rattle.neat.specs.Neat.{NamesKey}
use Rattle.images.specs.Keys.{Key, Value, empty_key, keyed, pair_cost, kid_cost}
use Rattle.images.specs.Laws.{Ranked}
use Rattle.images.proofs.Strings.{key_length, value_length}
use Rattle.media.proofs.Media.{Room, Standing, AptChange}
use Rattle.media.proofs.Told.{kid_cheap}

cheap_all : {K A : Type 0} (cost : K × A → ℕ) (m : ℕ) → ((k : K) (a : A) → cost (k, a) ≤ m) → (es : List (K × A)) → Cheap cost m es
cheap_all cost m f [] = tt
cheap_all cost m f (e ∷ es) = (f e.0 e.1, cheap_all cost m f es)

pub pair_cheap : (k : Key) (v : Value) → pair_cost (k, v) ≤ 84
pair_cheap k v = omega (arith, key_length k, value_length v)

module _ (says : Says) (r : Ranked says) where
  -- changes that are apt one after another
  abbrev pub AptAll : Logged Key Value → List (Change Key Value) → Type 0
  AptAll s [] = Unit {0}
  AptAll s (c ∷ cs) = AptChange says r s c × AptAll (changed (keyed says) empty_key s c) cs

  abbrev pub Named : Change Key Value → Type 0
  Named c = NamesKey r.rank r.top empty_key c

  from-may : (s : Logged Key Value) (cs : List (Change Key Value)) → MayAll r.rank r.top empty_key s cs
      → FitAll r.rank r.top empty_key r.ranking pair_cost kid_cost kid_cheap s cs → Each Named cs → AptAll s cs
  from-may s [] may fit names = tt
  from-may s (c ∷ cs) may fit names = (
    record {
      may = may.0;
      suit = λ p q n e. subst (λ o. suits o pair_cost kid_cost c p (s.page q) ≡ true) (sym r.told) (fit.0 p q n e);
      names = names.0;
    },
    subst (λ o. AptAll (changed o empty_key s c) cs) (sym r.told) (from-may (changed (by r.rank) empty_key s c) cs may.1 fit.1 names.1),
  )

  module _ (s : Logged Key Value) (stands : Standing says r s) (room : (p : ℕ) → Room (s.page p)) where
    priced : Priced pair_cost kid_cost s
    priced = record { pairs = λ p. cheap_all pair_cost 84 pair_cheap (s.page p).pairs; kids = λ p. cheap_all kid_cost 23 kid_cheap (s.page p).frame.kids }

    roomy : Roomy r.rank r.top empty_key r.ranking pair_cost kid_cost kid_cheap s
    roomy p = record { pairs = (room p).pairs; kids = (room p).kids }

    put-named : (p : ℕ) (k : Key) (v : Value) → r.rank empty_key < r.rank k → Each Named (planned_put (by r.rank) pair_cost kid_cost s p k v)
    put-named p k v n =
        cond_both (leb (total pair_cost (set (by r.rank) k v (s.page p).pairs)) 436) (Put p k v ∷ [])
        (put_divided (by r.rank) pair_cost kid_cost p s.born k v (divider pair_cost (s.page p).pairs)) (Each Named) (λ _. (n, tt)) (λ _. go (divider pair_cost (s.page p).pairs))
      where
        go : (o : Option Key) → Each Named (put_divided (by r.rank) pair_cost kid_cost p s.born k v o)
        go None = (n, tt)
        go (Some d) = (tt, (n, tt))

    -- a put at its leaf
    pub put-apt : (p : ℕ) (k : Key) (v : Value) → r.rank empty_key < r.rank k → p < s.born → (s.page p).frame.level ≡ 0 → Holds r.rank r.top (s.page p).frame k
        → AptAll s (planned_put (keyed says) pair_cost kid_cost s p k v)
    put-apt p k v n b l h = subst (λ o. AptAll s (planned_put o pair_cost kid_cost s p k v)) (sym r.told)
        (from-may s (planned_put (by r.rank) pair_cost kid_cost s p k v)
        (put-kept r.rank r.top empty_key r.ranking pair_cost kid_cost kid_cheap s priced stands.sound p k v (pair_cheap k v) b l h)
        (put-fits r.rank r.top empty_key r.ranking pair_cost kid_cost kid_cheap s priced stands.sound roomy p k v (pair_cheap k v) b l h)
        (put-named p k v n))

    -- a remove at its leaf, of a key that is there
    pub remove-apt : (p : ℕ) (k : Key) (u : Value) → r.rank empty_key < r.rank k → p < s.born → (s.page p).frame.level ≡ 0 → Holds r.rank r.top (s.page p).frame k
        → find (keyed says) k (s.page p).pairs ≡ Some u → AptAll s (Remove p k ∷ [])
    remove-apt p k u n b l h e = from-may s (Remove p k ∷ [])
        (record { is_born = b; leaf = l; holds = h }, tt)
        (remove-fits r.rank r.top empty_key r.ranking pair_cost kid_cost kid_cheap s priced stands.sound roomy p k u l
        (ap (λ o. find o k (s.page p).pairs) (sym r.told) ∙ e))
        (n, tt)

    -- what a tend plans
    pub tend_apt : (k : Key) → Each Named (planned_tend (keyed says) pair_cost kid_cost s k) → AptAll s (planned_tend (keyed says) pair_cost kid_cost s k)
    tend_apt k n = subst (λ o. Each Named (planned_tend o pair_cost kid_cost s k) → AptAll s (planned_tend o pair_cost kid_cost s k)) (sym r.told)
        (from-may s (planned_tend (by r.rank) pair_cost kid_cost s k)
        (tend_kept r.rank r.top empty_key r.ranking pair_cost kid_cost kid_cheap s priced stands.sound k)
        (tend_fits r.rank r.top empty_key r.ranking pair_cost kid_cost kid_cheap s priced stands.sound roomy k)) n
