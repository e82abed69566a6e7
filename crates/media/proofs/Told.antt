-- What a change makes, by the order of keys itself instead of their ranks.
use Rattle.std.proofs.Common.{◌≡◌, ℕ, ◌≤◌, true, [], ◌∷◌, sym, refl, subst, arith}
use Prim.Native.Nat.{Ordering}
use Rattle.order.specs.Lawful.{Says}
use Rattle.neat.specs.Neat.{Tidy}
use Rattle.neat.proofs.Tidy.{format-tidy, changed-tidy}
use Rattle.tree.specs.Rows.{by}
use Rattle.tree.specs.Tree.{Sound}
use Rattle.tree.specs.Log.{Change, Source, Logged, start, tree, source, made, Linked}
use Rattle.tree.specs.Log.Change.{Format, Put, Remove, Foster, Adopt, Grow}
use Rattle.tree.specs.Log.Source.{Out, Fresh, Earlier}
use Rattle.tree.specs.Suits.{suits}
use Rattle.tree.specs.Plan.{linked, changed}
use Rattle.tree.proofs.Kept.{kept-sound}
use Rattle.tree.proofs.Fit.{changes-well}
use Rattle.images.specs.Keys.{Key, Value, empty_key, keyed, pair_cost, kid_cost}
use Rattle.images.specs.Laws.{Ranked}
use Rattle.images.proofs.Strings.{key_length}
use Rattle.media.proofs.Media.{Room, Standing, AptChange}

pub kid_cheap : (k : Key) (c : ℕ) → kid_cost (k, c) ≤ 23
kid_cheap k c = omega (arith, key_length k)

module _ (says : Says) (r : Ranked says) where
  abbrev pub cmp : Key → Key → Ordering
  cmp = keyed says

  -- what a change that may be made to a log leaves of it
  pub record Step (s : Logged Key Value) (c : Change Key Value) : Type 0 where
    pub link : Linked cmp empty_key (suits cmp pair_cost kid_cost) s (linked s c ∷ [])
    pub standing : Standing says r (changed cmp empty_key s c)
    pub tidy : Tidy r.rank r.top empty_key (changed cmp empty_key s c)
    pub room : (p : ℕ) → Room ((changed cmp empty_key s c).page p)

  -- to a log that has records
  pub step-on : (s : Logged Key Value) (c : Change Key Value) → AptChange says r s c → Standing says r s
      → Tidy r.rank r.top empty_key s → ((p : ℕ) → Room (s.page p)) → Step s c
  step-on s c apt well tidy room =
      let suit : (p q n : ℕ) → source (linked s c) p ≡ Earlier q n → suits (by r.rank) pair_cost kid_cost c p (s.page q) ≡ true =
      subst (λ o. (p q n : ℕ) → source (linked s c) p ≡ Earlier q n → suits o pair_cost kid_cost c p (s.page q) ≡ true) r.told apt.suit in
      let w = changes-well r.rank r.top empty_key r.ranking pair_cost kid_cost kid_cheap s (c ∷ []) (apt.may, tt) (suit, tt)
      (record { sound = well.sound; positive = well.positive }) (λ p. record { pairs = (room p).pairs; kids = (room p).kids }) in
      record {
        link = subst (λ o. Linked o empty_key (suits o pair_cost kid_cost) s (linked s c ∷ [])) (sym r.told) w.0;
        standing = record {
          sound = subst (λ o. Sound r.rank r.top empty_key (tree (changed o empty_key s c))) (sym r.told) w.1.sound;
          positive = w.1.positive;
        };
        tidy = subst (λ o. Tidy r.rank r.top empty_key (changed o empty_key s c)) (sym r.told)
            (changed-tidy r.rank r.top empty_key s tidy well.sound c apt.may apt.names);
        room = subst (λ o. (p : ℕ) → Room ((changed o empty_key s c).page p)) (sym r.told)
            (λ p. record { pairs = (w.2 p).pairs; kids = (w.2 p).kids });
      }

  abbrev pub new : Logged Key Value
  new = start cmp empty_key

  -- the first record
  pub step-first : Step new Format
  step-first = record {
    link = ((λ p q n e. absurd (grind arith)), tt);
    standing = record {
      sound = subst (λ o. Sound {V = Value} r.rank r.top empty_key (tree (changed o empty_key (start o empty_key) Format))) (sym r.told)
          (kept-sound r.rank r.top empty_key r.ranking (linked (start (by r.rank) empty_key) Format) [] (refl, tt) refl);
      positive = λ p b. grind arith;
    };
    tidy = subst (λ o. Tidy {V = Value} r.rank r.top empty_key (changed o empty_key (start o empty_key) Format)) (sym r.told)
        (format-tidy r.rank r.top empty_key);
    room = λ p. go p (source (linked new Format) p);
  }
    where
      go : (p : ℕ) (o : Source) → Room (made cmp empty_key Format p new.page o)
      go p Out = record { pairs = omega arith; kids = omega arith }
      go p Fresh = record { pairs = omega arith; kids = omega arith }
      go p (Earlier q n) = record { pairs = omega arith; kids = omega arith }

  -- nothing but a format may be made to an empty log
  pub first-formats : (c : Change Key Value) → AptChange says r new c → c ≡ Format
  first-formats Format apt = refl
  first-formats (Put p k v) apt = absurd (omega (arith, apt.may.is_born))
  first-formats (Remove p k) apt = absurd (omega (arith, apt.may.is_born))
  first-formats (Foster p o d) apt = absurd (omega (arith, apt.may.1.is_born))
  first-formats (Adopt p o k c) apt = absurd (omega (arith, apt.may.is_born))
  first-formats (Grow o) apt = let t = apt.suit 0 0 0 refl in let z : ◌≡◌ {A = ℕ} 0 1 = cc in absurd (omega arith)
