-- What a put, and a remove, do at the leaf that their key's way has come to.
use Rattle.std.proofs.Common.{◌≡◌, ℕ, ◌+◌, ◌<◌, ◌≤◌, Bool, true, false, cond, eqb, ltb, leb, ◌⊎◌, List, [], ◌∷◌, length, Some, None, Ok, Err, Option, sym, refl, ap, ◌∙◌, subst, inl, inr, arith}
use Rattle.std.proofs.lemmas.Bool.{cases_Bool, cond-true, cond-false, cond_both, leb-true, ltb-true, eq-eqb, ne_eqb, cases_eq}
use Rattle.order.specs.Lawful.{Says}
use Rattle.tree.specs.Rows.{set, find, is_less}
use Rattle.tree.specs.Tree.{Image, Holds}
use Rattle.tree.specs.Log.{Change, Logged, Source, make, births}
use Rattle.tree.specs.Log.Change.{Put, Remove, Foster}
use Rattle.tree.specs.Log.Source.{Out, Earlier}
use Rattle.tree.specs.Halves.{total, divider}
use Rattle.tree.specs.Plan.{changed, put_divided}
use Rattle.tree.specs.Walk.{Visit, visit}
use Rattle.tree.proofs.Runs.{Each, Putting, Removing, is_put, is_remove, any}
use Rattle.images.specs.Keys.{Key, Value, empty_key, keyed, pair_cost, kid_cost}
use Rattle.images.specs.Laws.{Ranked}
use Rattle.model.specs.declared.refusal.Refusal.TheVariants.{LogFull, NoPage, Absent}
use Rattle.model.specs.Worlds.{World, usable, born, next_position}
use Rattle.model.specs.Plans.{ends}
use Rattle.model.specs.Ways.{route}
use Rattle.model.specs.Changes.{changing, rooming, paging, roomed, one_change, half_of, put_in_half, divide_roomed, divide_paged, divided_put, putting, remove_found, removing}
use Rattle.model.specs.Runs.{Added}
use Rattle.media.proofs.Media.{Media, Opened, Standing, AptChange, made}
use Rattle.media.proofs.Plays.{apt-media}
use Rattle.media.proofs.Rows.{reads-length}
use Rattle.plans.proofs.Sources.{OldIs, put-old, remove-old, foster-old}
use Rattle.plans.proofs.Changing.{changing-apt}
use Rattle.plans.proofs.Apts.{AptAll, put-apt, remove-apt}
use Rattle.plans.proofs.Does.{Does, refuses, both_do, at_once, refused_at_once, does-as}

pub rooms : (w : World) (need : ℕ) → w.journal.on ≡ true
    → ((rooming w need ≡ ends (Ok need)) × (length w.journal.records + need ≤ w.journal.capacity)) ⊎ (rooming w need ≡ ends (Err LogFull))
unfolding rooming
rooms w need on = elim (cases_Bool (leb (length w.journal.records + need) w.journal.capacity)) [
  | inl t ↦ inl (cond-true w.journal.on _ _ on ∙ cond-true (leb (length w.journal.records + need) w.journal.capacity) _ _ t, leb-true (length w.journal.records + need) w.journal.capacity t)
  | inr t ↦ inr (cond-true w.journal.on _ _ on ∙ cond-false (leb (length w.journal.records + need) w.journal.capacity) _ _ t)
]

pub pages-left : (w : World) → ((paging w ≡ ends (Ok (born w))) × (born w < usable w)) ⊎ (paging w ≡ ends (Err NoPage))
unfolding paging
pages-left w = elim (cases_Bool (ltb (born w) (usable w))) [
  | inl t ↦ inl (cond-true (ltb (born w) (usable w)) _ _ t, ltb-true (born w) (usable w) t)
  | inr t ↦ inr (cond-false (ltb (born w) (usable w)) _ _ t)
]

module _ (says : Says) (r : Ranked says) where
  changing-answers : (w : World) (c : Change Key Value) (old : ℕ → Image Key Value) → (changing says w c old).answer ≡ Ok (next_position w)
  unfolding changing
  changing-answers w c old = refl

  module _ (added : Added) (w : World) (media : Media says r added w) (o : Opened says r added w) where
    abbrev s : Logged Key Value
    s = made says r added

    long : length w.journal.records ≡ length added
    long = reads-length w.journal.records added media.reads

    pub one-does : (c : Change Key Value) → AptChange says r s c → (old : ℕ → Image Key Value) → OldIs s c old → births c s.born ≤ usable w
        → Does says r added w (one_change says w c old) (λ n cs. cs ≡ c ∷ [])
    unfolding one_change
    one-does c apt old was fit = elim (rooms w 1 o.journal_on) [
      | inl e ↦ at_once says r added w (rooming w 1) (roomed says c old) (λ n cs. cs ≡ c ∷ []) 1 e.0
          (let h = changing-apt says r added w media o.disk_on o.journal_on o.born_is o.newest_is c apt old was (omega (arith, long, e.1)) (media.is_sized o.some) fit in
          record { cs = c ∷ []; last = h.0; end = h.1; apt = h.2; opened = h.3; told = inl (next_position w, changing-answers w c old, refl) })
      | inr e ↦ refused_at_once says r added w (rooming w 1) (roomed says c old) (λ n cs. cs ≡ c ∷ []) LogFull e o
    ]

    abbrev pub Puts : Key → Value → ℕ → List (Change Key Value) → Type 0
    Puts k v n cs = Each (Putting k v) cs × (any is_put cs ≡ true)

    module _ (p : ℕ) (k : Key) (v : Value) where
      whole : AptAll says r s (Put p k v ∷ []) → Does says r added w (one_change says w (Put p k v) (λ _. s.page p)) (Puts k v)
      whole apt = does-as says r added w _ (λ n cs. cs ≡ Put p k v ∷ []) (Puts k v) (λ n cs e. subst (Puts k v n) (sym e) (((refl, refl), tt), refl))
          (one-does (Put p k v) apt.0 (λ _. s.page p) (put-old s p k v) media.enough)

      -- which image the half of a divided page has
      half_is : (d : Key) (q : ℕ) → (q ≡ p) ⊎ (q ≡ s.born)
          → make (keyed says) empty_key (Foster p s.born d) q (s.page p) ≡ (changed (keyed says) empty_key s (Foster p s.born d)).page q
      half_is d q h = elim (cases_eq q s.born) [
        | inl e ↦ let t = eq-eqb q s.born e in cc
        | inr e ↦ elim h [
          | inl i ↦ let t = ne_eqb q s.born e in let u = eq-eqb q p i in cc
          | inr i ↦ absurd (e i)
        ]
      ]

      module _ (d : Key) (n : ℕ) (n-is : n ≡ s.born) where
        abbrev q : ℕ
        q = half_of says k d p n

        halves : (q ≡ p) ⊎ (q ≡ s.born)
        halves = cond_both (is_less (keyed says k d)) p n (λ m. (m ≡ p) ⊎ (m ≡ s.born)) (λ _. inl refl) (λ _. inr n-is)

        divided : AptAll says r s (Foster p n d ∷ Put q k v ∷ []) → length w.journal.records + 2 ≤ w.journal.capacity → s.born < usable w
            → Does says r added w (divide_roomed says k v d p n (s.page p) 2 w) (Puts k v)
        divided apt room left =
            let f : Change Key Value = Foster p n d in
            let h = changing-apt says r added w media o.disk_on o.journal_on o.born_is o.newest_is f apt.0 (λ _. s.page p) (foster-old s p n d)
            (omega (arith, long)) (media.is_sized o.some) (omega arith) in
            let mid = h.0 in
            let u = h.1 in
            let m = apt-media says r media h.2 in
            let i : made says r mid ≡ changed (keyed says) empty_key s f = h.4 in
            let old : ℕ → Image Key Value = λ _. make (keyed says) empty_key f q (s.page p) in
            let was : OldIs (made says r mid) (Put q k v) old = λ a b c e.
            cond_both (eqb a q) _ Out (λ (y : Source). y ≡ Earlier b c → old a ≡ (made says r mid).page b)
            (λ _ j. let x : q ≡ b = cc in
            subst (λ t. make (keyed says) empty_key (Foster p t d) q (s.page p) ≡ (changed (keyed says) empty_key s (Foster p t d)).page q) (sym n-is) (half_is d q halves)
            ∙ sym (ap (λ y. y.page q) i) ∙ ap (made says r mid).page x)
            (λ _ j. let z : ◌≡◌ {A = ℕ} 0 1 = cc in absurd (omega arith)) e in
            let g = changing-apt says r mid u m h.3.disk_on h.3.journal_on h.3.born_is h.3.newest_is (Put q k v)
            (subst (λ t. AptChange says r t (Put q k v)) (sym i) apt.1.0) old was (omega (arith, long, h.5, h.6)) h.8 m.enough in
            both_do says r added w (changing says w f (λ _. s.page p)) (put_in_half says k v d p n (s.page p)) (Puts k v) (next_position w)
            (changing-answers w f (λ _. s.page p)) (f ∷ []) mid u h.2 (Put q k v ∷ []) g.0 g.1 g.2 g.3 (next_position u)
            (changing-answers u (Put q k v) old) ((tt, ((refl, refl), tt)), refl)

        paged : AptAll says r s (Foster p n d ∷ Put q k v ∷ []) → s.born < usable w → Does says r added w (divide_paged says k v d p (s.page p) n w) (Puts k v)
        paged apt left = elim (rooms w 2 o.journal_on) [
          | inl e ↦ at_once says r added w (rooming w 2) (divide_roomed says k v d p n (s.page p)) (Puts k v) 2 e.0 (divided apt e.1 left)
          | inr e ↦ refused_at_once says r added w (rooming w 2) (divide_roomed says k v d p n (s.page p)) (Puts k v) LogFull e o
        ]

      dividing : (t : Option Key) → AptAll says r s (put_divided (keyed says) pair_cost kid_cost p s.born k v t)
          → Does says r added w (divided_put says k v (visit p (s.page p)) w t) (Puts k v)
      dividing None apt = whole apt
      dividing (Some d) apt = elim (pages-left w) [
        | inl e ↦ at_once says r added w (paging w) (divide_paged says k v d p (s.page p)) (Puts k v) (born w) e.0
            (paged d (born w) o.born_is
            (subst (λ n. AptAll says r s (Foster p n d ∷ Put (half_of says k d p n) k v ∷ [])) (sym o.born_is) apt) (omega (arith, e.1, o.born_is)))
        | inr e ↦ refused_at_once says r added w (paging w) (divide_paged says k v d p (s.page p)) (Puts k v) NoPage e o
      ]

      pub put-does : Standing says r s → r.rank empty_key < r.rank k → p < s.born → (s.page p).frame.level ≡ 0 → Holds r.rank r.top (s.page p).frame k
          → (vs : List (Visit Key Value)) → Does says r added w (putting says k v (route vs (visit p (s.page p))) w) (Puts k v)
      unfolding putting
      put-does stands named is_born leaf holds vs =
          let apt = put-apt says r s stands media.room p k v named is_born leaf holds in
          go (leb (total pair_cost (set (keyed says) k v (s.page p).pairs)) 436) apt
        where
          go : (b : Bool) → AptAll says r s (cond b (Put p k v ∷ []) (put_divided (keyed says) pair_cost kid_cost p s.born k v (divider pair_cost (s.page p).pairs)))
              → Does says r added w (cond b (one_change says w (Put p k v) (λ _. s.page p)) (divided_put says k v (visit p (s.page p)) w (divider pair_cost (s.page p).pairs))) (Puts k v)
          go true apt = whole apt
          go false apt = dividing (divider pair_cost (s.page p).pairs) apt

    abbrev pub Removes : Key → ℕ → List (Change Key Value) → Type 0
    Removes k n cs = Each (Removing k) cs × (any is_remove cs ≡ true)

    pub remove-does : Standing says r s → (p : ℕ) (k : Key) → r.rank empty_key < r.rank k → p < s.born → (s.page p).frame.level ≡ 0
        → Holds r.rank r.top (s.page p).frame k → (vs : List (Visit Key Value))
        → Does says r added w (removing says k (route vs (visit p (s.page p))) w) (Removes k)
    unfolding removing
    remove-does stands p k named is_born leaf holds vs = go (find (keyed says) k (s.page p).pairs) refl
      where
        go : (f : Option Value) → find (keyed says) k (s.page p).pairs ≡ f → Does says r added w (remove_found says k (visit p (s.page p)) w f) (Removes k)
        go None e = refuses says r added w (Removes k) Absent o
        go (Some u) e =
            let apt = remove-apt says r s stands media.room p k u named is_born leaf holds e in
            does-as says r added w _ (λ n cs. cs ≡ Remove p k ∷ []) (Removes k) (λ n cs i. subst (Removes k n) (sym i) ((refl, tt), refl))
            (one-does (Remove p k) apt.0 (λ _. s.page p) (remove-old s p k) media.enough)
