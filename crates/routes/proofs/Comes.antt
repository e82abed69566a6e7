-- What a page and a key's way come to over the records as they were added, for an order that compares ranks.
use Rattle.std.proofs.Common.{◌≡◌, ℕ, zero, suc, ◌+◌, ◌<◌, cond, ◌⊎◌, List, [], ◌∷◌, get_or, Some, None, Option, sym, refl, ap, ◌∙◌, subst, inl, inr, arith}
use Prim.Native.Nat.{Ordering}
use Rattle.ranks.specs.Lists.{All}
use Rattle.order.specs.Lawful.{Says}
use Rattle.tree.specs.Rows.{by}
use Rattle.tree.specs.Tree.{Ranking, Sound, Holds, frames, Way}
use Rattle.tree.specs.Log.{Rec, start, tree, at, Linked}
use Rattle.tree.specs.Suits.{suits}
use Rattle.tree.specs.Walk.{visit, visits}
use Rattle.tree.specs.Walk.Fault.{Gone}
use Rattle.tree.specs.Walk.Fetched.{Page, Failed}
use Rattle.tree.specs.Walk.Walked.{Met, Stopped}
use Rattle.tree.specs.Worlds.{World, read, logged, fetch, goes_to, Fails, OutOfReach, FirstLost, LostOnWay}
use Rattle.tree.proofs.Runs.{StandsWell}
use Rattle.tree.proofs.Good.{Good}
use Rattle.tree.proofs.Good as good
use Rattle.images.specs.Keys.{Key, Value, empty_key, keyed, pair_cost, kid_cost}
use Rattle.images.specs.Records.{entry_rec, chain_rec}
use Rattle.images.specs.Laws.{Ranked}
use Rattle.wal.specs.Journal.{Entry, entry, lost}
use Rattle.model.specs.Worlds as model
use Rattle.model.specs.Fetches.{rec_at}
use Rattle.model.specs.Runs.{Added, Reads, is_lost, records_from, meaning}
use Rattle.media.proofs.Media.{Room, made, Standing, Media, Opened}
use Rattle.media.proofs.Told.{kid_cheap}

-- the tree's facts over any order; they are needed of one that compares ranks
module _ (rank : Key → ℕ) (top : ℕ) (ranked : Ranking rank top empty_key) (w : World Key Value) where
  record Facts (cmp : Key → Key → Ordering) : Type 0 where
    link : Linked cmp empty_key (suits cmp pair_cost kid_cost) (start cmp empty_key) w.recs
    sound : Sound rank top empty_key (tree (logged cmp empty_key w))
    positive : (p : ℕ) → p < (logged cmp empty_key w).born → 0 < (logged cmp empty_key w).newest p
    room : (p : ℕ) → Room ((logged cmp empty_key w).page p)
    intact : (p : ℕ) → (w.pages p ≡ Some (record { lsn = (logged cmp empty_key w).newest p; image = (logged cmp empty_key w).page p }))
        ⊎ Fails ((logged cmp empty_key w).newest p) (w.pages p)

  well : Facts (by rank) → StandsWell rank top empty_key ranked (logged (by rank) empty_key w)
  well f = record { sound = f.sound; positive = f.positive }

  all_good : Facts (by rank) → Good rank top empty_key ranked pair_cost kid_cost kid_cheap w
  all_good f = record {
    link = f.link;
    well = inr (well f);
    room = λ p. record { pairs = (f.room p).pairs; kids = (f.room p).kids };
    intact = f.intact;
  }

  -- a page is come by as its image, unless it is harmed and a record of its chain is lost
  abbrev Comes : (Key → Key → Ordering) → ℕ → Type 0
  Comes cmp p = ((fetch cmp empty_key pair_cost kid_cost w p ≡ Page ((logged cmp empty_key w).page p)) × ((n : ℕ) → OutOfReach cmp empty_key pair_cost kid_cost w p n → ⊥))
      ⊎ ((n : ℕ) × (fetch cmp empty_key pair_cost kid_cost w p ≡ Failed (Gone p n)) × OutOfReach cmp empty_key pair_cost kid_cost w p n)

  comes-any : (cmp : Key → Key → Ordering) → cmp ≡ by rank → Facts cmp → (p : ℕ) → p < (logged cmp empty_key w).born → Comes cmp p
  comes-any cmp e = subst (λ (c : Key → Key → Ordering). Facts c → (p : ℕ) → p < (logged c empty_key w).born → Comes c p) (sym e)
      (λ f. good.comes rank top empty_key ranked pair_cost kid_cost kid_cheap w (all_good f) (well f))

  -- a way that no lost record stops
  pub record Reaches (cmp : Key → Key → Ordering) (k : Key) : Type 0 where
    pub pages : List ℕ
    pub leaf : ℕ
    pub way : Way cmp (frames (tree (logged cmp empty_key w))) k 0 pages leaf
    pub leaf_born : leaf < (logged cmp empty_key w).born
    pub is_leaf : ((logged cmp empty_key w).page leaf).frame.level ≡ 0
    pub holds : Holds rank top ((logged cmp empty_key w).page leaf).frame k
    pub all_born : All (λ p. p < (logged cmp empty_key w).born) pages
    pub comes_to : goes_to cmp empty_key pair_cost kid_cost w k ≡ Met (visits (logged cmp empty_key w).page pages) (visit leaf ((logged cmp empty_key w).page leaf))
    pub none_is_lost : LostOnWay cmp empty_key pair_cost kid_cost w k → ⊥

  abbrev pub Ends : (Key → Key → Ordering) → Key → Type 0
  Ends cmp k = Reaches cmp k
      ⊎ ((p : ℕ) × (n : ℕ) × (goes_to cmp empty_key pair_cost kid_cost w k ≡ Stopped (Gone p n)) × FirstLost cmp empty_key pair_cost kid_cost w k p n)

  ends_ranked : Facts (by rank) → (k : Key) → Ends (by rank) k
  ends_ranked f k = elim (good.way-ends rank top empty_key ranked pair_cost kid_cost kid_cheap w (all_good f) (well f) k) [
    | inl a ↦ inl (record {
      pages = a.pages;
      leaf = a.leaf;
      way = a.way;
      leaf_born = a.leaf_born;
      is_leaf = a.is_leaf;
      holds = a.holds;
      all_born = a.all_born;
      comes_to = a.comes_to;
      none_is_lost = a.none_is_lost;
    })
    | inr a ↦ inr a
  ]

  ends-any : (cmp : Key → Key → Ordering) → cmp ≡ by rank → Facts cmp → (k : Key) → Ends cmp k
  ends-any cmp e = subst (λ (c : Key → Key → Ordering). Facts c → (k : Key) → Ends c k) (sym e) ends_ranked

-- the row reads as what was added, but for what is lost
reads-row : (es : List Entry) (bs : Added) → Reads es bs → (m i n : ℕ) → n ≡ m + i
    → cond (is_lost (get_or es i lost)) None (at (records_from m bs) (suc i)) ≡ entry_rec n (get_or es i lost)
unfolding records_from entry_rec
reads-row [] [] h m i n e = refl
reads-row [] (b ∷ bs) h m i n e = absurd h
reads-row (x ∷ es) [] h m i n e = absurd h
reads-row (x ∷ es) (b ∷ bs) h m zero n e = go x h.0
  where
    go : (y : Entry) → (y ≡ lost) ⊎ (y ≡ entry b) → cond (is_lost y) None (Some (chain_rec m b)) ≡ entry_rec n y
    go lost g = refl
    go (entry c) (inl g) = let z : ◌≡◌ {A = ℕ} 0 1 = cc in absurd (omega arith)
    go (entry c) (inr g) =
        let a : c ≡ b = cc in
        let q : n ≡ m = omega arith in
        ap {B = Option (Rec Key Value)} (λ (t : Rec Key Value). Some t) (ap (λ (j : ℕ). chain_rec j b) (sym q) ∙ ap (chain_rec n) (sym a))
reads-row (x ∷ es) (b ∷ bs) h m (suc i) n e = reads-row es bs h.1 (suc m) i n (omega arith)

module _ (says : Says) (r : Ranked says) where
  pub reads_as : (added : Added) (w : model.World) → Media says r added w → (n : ℕ) → read (meaning says added w) n ≡ rec_at w.journal n
  unfolding entry_rec
  reads_as added w m n = go n w.journal.records m.reads
    where
      go : (i : ℕ) (es : List Entry) → Reads es added
          → cond (is_lost (get_or (lost ∷ es) i lost)) None (at (records_from 1 added) i) ≡ entry_rec i (get_or (lost ∷ es) i lost)
      go zero es h = refl
      go (suc i) es h = reads-row es added h 1 i (suc i) (omega arith)

  -- an open store's log is not empty, so its tree stands
  pub stands_well : (added : Added) (w : model.World) → Media says r added w → Opened says r added w → Standing says r (made says r added)
  stands_well added w m o = elim m.well [ inl e ↦ absurd (o.some e) | inr a ↦ a ]

  facts : (added : Added) (w : model.World) → Media says r added w → Standing says r (made says r added)
      → Facts r.rank r.top r.ranking (meaning says added w) (keyed says)
  facts added w m s = record { link = m.link; sound = s.sound; positive = s.positive; room = m.room; intact = m.intact }

  -- a born page is come by as its image, or a record of its chain is lost
  pub comes : (added : Added) (w : model.World) → Media says r added w → Opened says r added w → (p : ℕ) → p < (made says r added).born
      → ((fetch (keyed says) empty_key pair_cost kid_cost (meaning says added w) p ≡ Page ((made says r added).page p))
      × ((n : ℕ) → OutOfReach (keyed says) empty_key pair_cost kid_cost (meaning says added w) p n → ⊥))
      ⊎ ((n : ℕ) × (fetch (keyed says) empty_key pair_cost kid_cost (meaning says added w) p ≡ Failed (Gone p n))
      × OutOfReach (keyed says) empty_key pair_cost kid_cost (meaning says added w) p n)
  comes added w m o = comes-any r.rank r.top r.ranking (meaning says added w) (keyed says) r.told (facts added w m (stands_well added w m o))

  -- a key's way ends at its leaf, or at the first page that cannot be had
  pub way-comes : (added : Added) (w : model.World) → Media says r added w → Opened says r added w → (k : Key)
      → Ends r.rank r.top r.ranking (meaning says added w) (keyed says) k
  way-comes added w m o = ends-any r.rank r.top r.ranking (meaning says added w) (keyed says) r.told (facts added w m (stands_well added w m o))
