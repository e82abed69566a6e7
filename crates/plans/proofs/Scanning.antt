-- Opening a run's log: its index, or a refusal where a record is lost.
use Rattle.std.proofs.Common.{◌≡◌, ℕ, suc, ◌≤◌, true, not, ◌&&◌, eqb, ltb, ◌⊎◌, List, [], ◌∷◌, length, Some, None, Ok, Err, Option, Result, sym, refl, ap, ◌∙◌, subst, ap₂, inl, inr, arith}
use Rattle.std.proofs.lemmas.Bool.{cond_both, cond-true, and_from, lt-ltb, eq-eqb}
use Rattle.order.specs.Lawful.{Says}
use Rattle.ranks.specs.Lists.{In}
use Rattle.wal.specs.Journal.{Entry, entry, lost}
use Rattle.tree.specs.Log.{Change, Rec, births, Logged, append, run, start}
use Rattle.tree.specs.Log.Change.{Format, Put, Remove, Foster, Adopt, Grow}
use Rattle.tree.specs.Plan.{linked}
use Rattle.images.specs.Keys.{Key, Value, empty_key, keyed}
use Rattle.images.specs.Records.{decode_rec, chain_rec}
use Rattle.images.specs.Laws.{Ranked}
use Rattle.images.proofs.Recorded.{records_read_back}
use Rattle.model.specs.Worlds.{World, newest, raised, usable}
use Rattle.model.specs.Changes.{changed_pages}
use Rattle.model.specs.Opening.{follows, entry_in, taken, scanning, scanned}
use Rattle.model.specs.Runs.{Added, Reads, records_from}
use Rattle.media.proofs.Growth.{Taken, Grown}
use Rattle.media.proofs.Media.{Written, made, Media}
use Rattle.media.proofs.Rows.{reads_none}
use Rattle.media.proofs.Noted.{apart}
use Rattle.plans.proofs.Index.{index-after}

-- an index of a state's pages
pub record Indexes (ix : List ℕ) (s : Logged Key Value) : Type 0 where
  pub born_is : length ix ≡ s.born
  pub newest_is : (p : ℕ) → newest ix p ≡ s.newest p

-- a change that is taken follows, with its pages' newest positions
linked-follows : (u : ℕ) (ix : List ℕ) (s : Logged Key Value) → Indexes ix s → (c : Change Key Value) → Taken s.born c → births c s.born ≤ u
    → follows u ix (linked s c).prev (linked s c).prev_other c ≡ true
linked-follows u ix s i Format t b =
    and_from (eqb (length ix) 0) (ltb (length ix) u) (eq-eqb (length ix) 0 (omega (arith, i.born_is))) (lt-ltb (length ix) u (omega (arith, i.born_is)))
linked-follows u ix s i (Put p k v) t b =
    and_from (ltb p (length ix)) (eqb (s.newest p) (newest ix p)) (lt-ltb p (length ix) (omega (arith, i.born_is))) (eq-eqb (s.newest p) (newest ix p) (sym (i.newest_is p)))
linked-follows u ix s i (Remove p k) t b =
    and_from (ltb p (length ix)) (eqb (s.newest p) (newest ix p)) (lt-ltb p (length ix) (omega (arith, i.born_is))) (eq-eqb (s.newest p) (newest ix p) (sym (i.newest_is p)))
linked-follows u ix s i (Foster p o d) t b =
    and_from (ltb p (length ix) && eqb (s.newest p) (newest ix p)) (eqb o (length ix) && ltb (length ix) u)
    (and_from (ltb p (length ix)) (eqb (s.newest p) (newest ix p)) (lt-ltb p (length ix) (omega (arith, i.born_is, t.0))) (eq-eqb (s.newest p) (newest ix p) (sym (i.newest_is p))))
    (and_from (eqb o (length ix)) (ltb (length ix) u) (eq-eqb o (length ix) (omega (arith, i.born_is, t.1))) (lt-ltb (length ix) u (omega (arith, i.born_is))))
linked-follows u ix s i (Adopt p o k c) t b =
    and_from (ltb p (length ix) && (ltb o (length ix) && ltb c (length ix)))
    ((not (eqb p o) && (not (eqb p c) && not (eqb o c))) && (eqb (s.newest p) (newest ix p) && eqb (s.newest o) (newest ix o)))
    (and_from (ltb p (length ix)) (ltb o (length ix) && ltb c (length ix)) (lt-ltb p (length ix) (omega (arith, i.born_is, t.0)))
    (and_from (ltb o (length ix)) (ltb c (length ix)) (lt-ltb o (length ix) (omega (arith, i.born_is, t.1))) (lt-ltb c (length ix) (omega (arith, i.born_is, t.2)))))
    (and_from (not (eqb p o) && (not (eqb p c) && not (eqb o c))) (eqb (s.newest p) (newest ix p) && eqb (s.newest o) (newest ix o))
    (and_from (not (eqb p o)) (not (eqb p c) && not (eqb o c)) (apart p o t.3) (and_from (not (eqb p c)) (not (eqb o c)) (apart p c t.4) (apart o c t.5)))
    (and_from (eqb (s.newest p) (newest ix p)) (eqb (s.newest o) (newest ix o)) (eq-eqb (s.newest p) (newest ix p) (sym (i.newest_is p))) (eq-eqb (s.newest o) (newest ix o) (sym (i.newest_is o)))))
linked-follows u ix s i (Grow o) t b =
    and_from (ltb 0 (length ix) && eqb (s.newest 0) (newest ix 0)) (eqb o (length ix) && ltb (length ix) u)
    (and_from (ltb 0 (length ix)) (eqb (s.newest 0) (newest ix 0)) (lt-ltb 0 (length ix) (omega (arith, i.born_is, t.0))) (eq-eqb (s.newest 0) (newest ix 0) (sym (i.newest_is 0))))
    (and_from (eqb o (length ix)) (ltb (length ix) u) (eq-eqb o (length ix) (omega (arith, i.born_is, t.1))) (lt-ltb (length ix) u (omega (arith, i.born_is))))

taken-on : (u n : ℕ) (ix : List ℕ) (o : Option (Rec Key Value)) (x : Rec Key Value) (go : List ℕ → Result (List ℕ) ℕ) → o ≡ Some x
    → follows u ix x.prev x.prev_other x.change ≡ true → taken u n ix o go ≡ go (raised n (changed_pages x.change) ix)
taken-on u n ix o x go e f = ap (λ y. taken u n ix y go) e
    ∙ cond-true (follows u ix x.prev x.prev_other x.change) (go (raised n (changed_pages x.change) ix)) (Err n) f

-- A row with a lost record is refused, whatever else it has.

taken-gap : (u n : ℕ) (ix : List ℕ) (o : Option (Rec Key Value)) (go : List ℕ → Result (List ℕ) ℕ) → ((jx : List ℕ) → (m : ℕ) × (go jx ≡ Err m))
    → (m : ℕ) × (taken u n ix o go ≡ Err m)
taken-gap u n ix None go h = (n, refl)
taken-gap u n ix (Some x) go h =
    cond_both (follows u ix x.prev x.prev_other x.change) (go (raised n (changed_pages x.change) ix)) (Err n) (λ y. (m : ℕ) × (y ≡ Err m))
    (λ _. h (raised n (changed_pages x.change) ix)) (λ _. (n, refl))

gap-on : (u n : ℕ) (es : List Entry) (ix : List ℕ) → In lost es → (m : ℕ) × (scanning u n es ix ≡ Err m)
unfolding scanning entry_in
gap-on u n [] ix h = absurd h
gap-on u n (e ∷ es) ix (inl h) = (n, ap (λ y. taken u n ix (entry_in n y) (scanning u (suc n) es)) (sym h))
gap-on u n (e ∷ es) ix (inr h) = taken-gap u n ix (entry_in n e) (scanning u (suc n) es) (λ jx. gap-on u (suc n) es jx h)

pub scan_lost : (u : ℕ) (es : List Entry) → In lost es → (n : ℕ) × (scanned u es ≡ Err n)
unfolding scanned
scan_lost u [] h = absurd h
scan_lost u (e ∷ es) h = gap-on u 1 (e ∷ es) [] h

pub scan_empty : (u : ℕ) → scanned u [] ≡ Err 1
unfolding scanned
scan_empty u = refl

module _ (says : Says) where
  one_more : (n : ℕ) (ix : List ℕ) (s : Logged Key Value) (x : Rec Key Value) → n ≡ suc s.count → x ≡ linked s x.change → Taken s.born x.change
      → Indexes ix s → Indexes (raised n (changed_pages x.change) ix) (append (keyed says) empty_key x s)
  one_more n ix s x at e t i =
      let h = index-after says s x.change ix t i.born_is i.newest_is in
      let g : Indexes (raised (suc s.count) (changed_pages x.change) ix) (append (keyed says) empty_key (linked s x.change) s) = record { born_is = h.0; newest_is = h.1 } in
      subst (λ m. Indexes (raised m (changed_pages x.change) ix) (append (keyed says) empty_key x s)) (sym at)
      (subst (λ y. Indexes (raised (suc s.count) (changed_pages x.change) ix) (append (keyed says) empty_key y s)) (sym e) g)

  pub record Scans (res : Result (List ℕ) ℕ) (s : Logged Key Value) : Type 0 where
    pub index : List ℕ
    pub gives : res ≡ Ok index
    pub indexes : Indexes index s

  scan_on : (u n : ℕ) (es : List Entry) (added : Added) (s : Logged Key Value) (ix : List ℕ) → Reads es added → (In lost es → ⊥) → Written n added
      → n ≡ suc s.count → Grown says u s (records_from n added) → Indexes ix s
      → Scans (scanning u n es ix) (run (keyed says) empty_key s (records_from n added))
  unfolding scanning records_from entry_in
  scan_on u n [] [] s ix reads none written at grown i = record { index = ix; gives = refl; indexes = i }
  scan_on u n [] (b ∷ bs) s ix reads none written at grown i = absurd reads
  scan_on u n (e ∷ es) [] s ix reads none written at grown i = absurd reads
  scan_on u n (e ∷ es) (b ∷ bs) s ix reads none written at grown i =
      let x : Rec Key Value = chain_rec n b in
      let t : follows u ix x.prev x.prev_other x.change ≡ true =
      ap₂ (λ (a c : ℕ). follows u ix a c x.change) (ap (λ y. y.prev) grown.0) (ap (λ y. y.prev_other) grown.0)
      ∙ linked-follows u ix s i x.change grown.1 grown.2 in
      let ih = scan_on u (suc n) es bs (append (keyed says) empty_key x s) (raised n (changed_pages x.change) ix) reads.1 (λ l. none (inr l)) written.1 (ap suc at) grown.3
      (one_more n ix s x at grown.0 grown.1 i) in
      record { index = ih.index; gives = taken-on u n ix (entry_in n e) x (scanning u (suc n) es) (go reads.0) t ∙ ih.gives; indexes = ih.indexes }
    where
      go : (e ≡ lost) ⊎ (e ≡ entry b) → entry_in n e ≡ Some (chain_rec n b)
      go (inl l) = absurd (none (inl (sym l)))
      go (inr l) = ap (entry_in n) l ∙ ap (decode_rec n) (sym written.0.0) ∙ records_read_back n (chain_rec n b) written.0.1

module _ (says : Says) (r : Ranked says) where
  -- a log with no record lost gives its index
  pub scan_told : (added : Added) (w : World) → Media says r added w → (added ≡ [] → ⊥) → (In lost w.journal.records → ⊥)
      → (ix : List ℕ) × (scanned (usable w) w.journal.records ≡ Ok ix) × (length ix ≡ (made says r added).born)
      × ((p : ℕ) → newest ix p ≡ (made says r added).newest p)
  unfolding scanned
  scan_told added w media some none = go w.journal.records media.reads none
    where
      begun : Indexes [] (start {V = Value} (keyed says) empty_key)
      begun = record { born_is = refl; newest_is = λ p. refl }

      go : (es : List Entry) → Reads es added → (In lost es → ⊥) → (ix : List ℕ) × (scanned (usable w) es ≡ Ok ix) × (length ix ≡ (made says r added).born)
          × ((p : ℕ) → newest ix p ≡ (made says r added).newest p)
      go [] reads all = absurd (some (reads_none [] added reads refl))
      go (e ∷ es) reads all =
          let h = scan_on says (usable w) 1 (e ∷ es) added (start (keyed says) empty_key) [] reads all media.written refl media.grown begun in
          (h.index, h.gives, h.indexes.born_is, h.indexes.newest_is)

  pub scan_gap : (added : Added) (w : World) → Media says r added w → In lost w.journal.records
      → (n : ℕ) × (scanned (usable w) w.journal.records ≡ Err n)
  scan_gap added w media h = scan_lost (usable w) w.journal.records h
