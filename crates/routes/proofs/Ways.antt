-- A key's way, page by page, answers what the way over the pages' meanings comes to.
use Rattle.std.proofs.Common.{◌≡◌, ℕ, zero, suc, ◌<◌, Bool, true, false, cond, ltb, ◌⊎◌, List, [], ◌∷◌, Some, None, Ok, Err, Option, sym, refl, ap, ◌∙◌, subst, inl, inr, arith}
use Rattle.std.proofs.lemmas.Bool.{ltb-true}
use Rattle.ranks.specs.Lists.{All}
use Rattle.order.specs.Lawful.{Says}
use Rattle.tree.specs.Tree.{Image, Holds, frames, Way}
use Rattle.tree.specs.Log.{tree}
use Rattle.tree.specs.Walk.{Fetched, Visit, visit, visits, Due, Walked, onto, check, onward_due, walk_on, walk_checked, walk_fetched, walk, due_root}
use Rattle.tree.specs.Walk.Fetched.{Page, Failed}
use Rattle.tree.specs.Walk.Walked.{Met, Stopped}
use Rattle.tree.specs.Worlds.{goes_to, FirstLost, LostOnWay}
use Rattle.images.specs.Keys.{Key, Value, empty_key, keyed, pair_cost, kid_cost}
use Rattle.images.specs.Laws.{Ranked}
use Rattle.model.specs.declared.refusal.Refusal.TheVariants.{LostRecord}
use Rattle.model.specs.Worlds.{World, born, done}
use Rattle.model.specs.Plans.{Plan, after}
use Rattle.model.specs.Fetches.{fetching}
use Rattle.model.specs.Ways.{Route, route, met, onwards, compared, arrived, going, way}
use Rattle.model.specs.Runs.{Added, meaning}
use Rattle.media.proofs.Media.{made, Media, Opened, Apt}
use Rattle.routes.proofs.Told.{told, fetched_as, routed}
use Rattle.routes.proofs.Comes.{way-comes}
use Rattle.routes.proofs.Kept.{page_meant, Kept, EndsSo, ends_so, then_so, refused_so}
use Rattle.routes.proofs.Fetched.{fetched_so}

module _ (says : Says) (r : Ranked says) (added : Added) (k : Key) (m : ℕ → Fetched Key Value) where
  -- a world in which the store is open and every born page means what m says
  record Stays (w : World) : Type 0 where
    media : Media says r added w
    opened : Opened says r added w
    means : (q : ℕ) → q < (made says r added).born → page_meant says added w q ≡ m q

  abbrev So : World → Plan Route → Walked Key Value → Type 0
  So w p z = EndsSo says r added w p (routed z)

  -- a way of at most so many pages
  abbrev Right : (World → ℕ → Due Key → Plan Route) → (ℕ → Due Key → Walked Key Value) → Type 0
  Right go way = (w : World) → Stays w → (p : ℕ) (d : Due Key) → So w (go w p d) (way p d)

  stays_on : (w : World) (p : Plan (Image Key Value)) → Stays w → Kept says r added w p.actions → Stays (done p.actions w)
  stays_on w p s a = record { media = a.media; opened = a.opened; means = λ q b. a.same q b ∙ s.means q b }

  onto_so : (w : World) → Stays w → (p : Plan Route) (v : Visit Key Value) (z : Walked Key Value) → So w p z → So w (after w p (met v)) (onto v z)
  onto_so w s p v (Met vs l) a = then_so says r w p (met v) (route vs l) (Ok (route (v ∷ vs) l)) a (ends_so says r a.1.media a.1.opened _)
  onto_so w s p v (Stopped f) a = refused_so says r w p (met v) (told f) a

  module _ (go : World → ℕ → Due Key → Plan Route) (onward : ℕ → Due Key → Walked Key Value) (ih : Right go onward) where
    onwards_so : (w : World) → Stays w → (p : ℕ) (x : Image Key Value) (o : Option (ℕ × Due Key))
        → So w (onwards go (visit p x) w o) (walk_on (keyed says) onward p x o)
    onwards_so w s p x None = ends_so says r s.media s.opened _
    onwards_so w s p x (Some q) = onto_so w s (go w q.0 q.1) (visit p x) (onward q.0 q.1) (ih w s q.0 q.1)

    compared_so : (w : World) → Stays w → (p : ℕ) (x : Image Key Value) (c : ℕ)
        → So w (compared says go k (visit p x) w c) (walk_checked (keyed says) onward k p x c)
    compared_so w s p x zero = onwards_so w s p x (onward_due (keyed says) k x.frame x.frame.foster)
    compared_so w s p x (suc c) = ends_so says r s.media s.opened _

    fetched_on : (w : World) → Stays w → (p : ℕ) (d : Due Key) (y : Fetched Key Value) → EndsSo says r added w (fetching says w p) (fetched_as y)
        → So w (after w (fetching says w p) (arrived says go k p d)) (walk_fetched (keyed says) onward k p d y)
    fetched_on w s p d (Page x) a = then_so says r w (fetching says w p) (arrived says go k p d) x _ a
        (compared_so (done (fetching says w p).actions w) (stays_on w (fetching says w p) s a.1) p x (check (keyed says) d x.frame))
    fetched_on w s p d (Failed f) a = refused_so says r w (fetching says w p) (arrived says go k p d) (told f) a

    born-on : (w : World) → Stays w → (p : ℕ) (d : Due Key) → p < (made says r added).born
        → So w (after w (fetching says w p) (arrived says go k p d)) (walk_fetched (keyed says) onward k p d (m p))
    born-on w s p d b = fetched_on w s p d (m p) (subst (λ (y : Fetched Key Value). EndsSo says r added w (fetching says w p) (fetched_as y)) (s.means p b)
        (fetched_so says r added w s.media s.opened p b))

  either_so : (w : World) (a b : Bool) → a ≡ b → (p q : Plan Route) (y z : Walked Key Value) → (b ≡ true → So w p y) → So w q z
      → So w (cond a p q) (cond b y z)
  either_so w true true e p q y z f g = f refl
  either_so w false false e p q y z f g = g
  either_so w true false e p q y z f g = let z : ◌≡◌ {A = ℕ} 0 1 = cc in absurd (omega arith)
  either_so w false true e p q y z f g = let z : ◌≡◌ {A = ℕ} 0 1 = cc in absurd (omega arith)

  going_so : (n : ℕ) → Right (going says k n) (walk (keyed says) m (made says r added).born k n)
  unfolding going
  going_so zero w s p d = ends_so says r s.media s.opened _
  going_so (suc n) w s p d = either_so w (ltb p (born w)) (ltb p (made says r added).born) (ap (ltb p) s.opened.born_is) _ _ _ _
      (λ t. born-on (going says k n) (walk (keyed says) m (made says r added).born k n) (going_so n) w s p d (ltb-true p (made says r added).born t))
      (ends_so says r s.media s.opened _)

module _ (says : Says) (r : Ranked says) (added : Added) where
  -- the way of a key answers what it comes to over the pages' meanings
  pub way_so : (w : World) → Media says r added w → Opened says r added w → (k : Key)
      → EndsSo says r added w (way says w k) (routed (goes_to (keyed says) empty_key pair_cost kid_cost (meaning says added w) k))
  unfolding way
  way_so w m o k =
      let n = (made says r added).born in
      let t = going_so says r added k (page_meant says added w) (suc n) w (record { media = m; opened = o; means = λ q b. refl }) 0 (due_root empty_key) in
      subst (λ (i : ℕ). EndsSo says r added w (going says k (suc i) w 0 (due_root empty_key)) (routed (goes_to (keyed says) empty_key pair_cost kid_cost (meaning says added w) k)))
      (sym o.born_is) t

  pub way-means : (w : World) → Media says r added w → Opened says r added w → (k : Key)
      → ((way says w k).answer ≡ routed (goes_to (keyed says) empty_key pair_cost kid_cost (meaning says added w) k))
      × Apt says r added w (way says w k).actions [] added (done (way says w k).actions w)
      × Opened says r added (done (way says w k).actions w)
      × Media says r added (done (way says w k).actions w)
      × ((q : ℕ) → q < (made says r added).born → page_meant says added (done (way says w k).actions w) q ≡ page_meant says added w q)
  way-means w m o k =
      let t = way_so w m o k in
      let a = t.1 in
      (t.0, a.apt, a.opened, a.media, a.same)

  -- a key's leaf, and the way to it
  pub record Arrived (k : Key) : Type 0 where
    pub pages : List ℕ
    pub leaf : ℕ
    pub way : Way (keyed says) (frames (tree (made says r added))) k 0 pages leaf
    pub leaf_born : leaf < (made says r added).born
    pub is_leaf : ((made says r added).page leaf).frame.level ≡ 0
    pub holds : Holds r.rank r.top ((made says r added).page leaf).frame k
    pub all_born : All (λ p. p < (made says r added).born) pages

  -- the way comes to the key's leaf, or tells the first page on it that cannot be had
  pub way-told : (w : World) → Media says r added w → Opened says r added w → (k : Key)
      → ((a : Arrived k)
      × ((way says w k).answer ≡ Ok (route (visits (made says r added).page a.pages) (visit a.leaf ((made says r added).page a.leaf))))
      × (LostOnWay (keyed says) empty_key pair_cost kid_cost (meaning says added w) k → ⊥))
      ⊎ ((p : ℕ) × (n : ℕ) × ((way says w k).answer ≡ Err (LostRecord p n))
      × FirstLost (keyed says) empty_key pair_cost kid_cost (meaning says added w) k p n)
  way-told w m o k = let t = (way_so w m o k).0 in elim (way-comes says r added w m o k) [
    | inl a ↦ inl (
      record { pages = a.pages; leaf = a.leaf; way = a.way; leaf_born = a.leaf_born; is_leaf = a.is_leaf; holds = a.holds; all_born = a.all_born },
      t ∙ ap routed a.comes_to,
      a.none_is_lost,
    )
    | inr a ↦ inr (a.0, a.1, t ∙ ap routed a.2, a.3)
  ]
