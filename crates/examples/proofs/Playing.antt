-- Runs built step by step: calls that the power outlasts, calls that it cuts off, harm and loss.
use Rattle.std.proofs.Common.{◌≡◌, ℕ, zero, suc, ◌<◌, Bool, true, false, not, ◌&&◌, ◌⊎◌, List, [], ◌∷◌, ◌++◌, map, get_or, set, replicate, Some, None, Err, Option, Result, sym, refl, ap, ◌∙◌, subst, ap₂, inl, inr, arith, length-set}
use mathlib.Core.Path.{subst₃}
use Rattle.std.proofs.lemmas.Bool.{and_parts, true≢false}
use Rattle.order.specs.Orders.{by_byte}
use Rattle.device.specs.Disk.{Page, unreadable}
use Rattle.device.specs.Writes as page
use Rattle.wal.specs.Journal.{Entry, entry, lost}
use Rattle.wal.specs.Appends as log
use Rattle.tree.specs.Worlds.{Stored, Fails}
use Rattle.images.specs.Images.{stored_page}
use Rattle.model.specs.declared.refusal.Refusal.{Refusal}
use Rattle.model.specs.declared.refusal.Refusal.TheVariants.{PowerFailed}
use Rattle.model.specs.Worlds.{World, Action, acted, did, done, powered}
use Rattle.model.specs.Plans.{Plays}
use Rattle.model.specs.declared.state.State.{State}
use Rattle.model.specs.Calls.{Call, Reply, state_after, Served}
use Rattle.model.specs.Runs.{History, Added, event, new_records, bytes_in, is_lost, Reads, meant, Harm, Run}
use Rattle.model.specs.Runs.Run.{calls}
use Rattle.examples.specs.Telling.{Store, planned, does, cut_off_world, cut, harmed, losing}

-- every action is still powered when it is done
unfoldable pub lasting : List Action → World → Bool
lasting [] w = true
lasting (a ∷ xs) w = let e = did a w in powered a e && lasting xs e

-- the first n actions are, and the one behind them is left without power
unfoldable pub cutting : ℕ → log.Fate → page.Fate → List Action → World → Bool
cutting zero a f [] w = false
cutting (suc n) a f [] w = false
cutting zero a f (x ∷ xs) w = not (powered x (acted a f x w))
cutting (suc n) a f (x ∷ xs) w = let e = did x w in powered x e && cutting n a f xs e

not-true : (b : Bool) → not b ≡ true → b ≡ false
not-true true e = sym e
not-true false e = refl

pub plays-all : {X : Type 0} (xs : List Action) (x : Result X Refusal) (w : World) → lasting xs w ≡ true → Plays xs x w x (done xs w)
unfolding lasting
plays-all [] x w e = (refl, refl)
plays-all (a ∷ xs) x w e =
    let t = and_parts (powered a (did a w)) (lasting xs (did a w)) e in
    inr (t.0, plays-all xs x (did a w) t.1)

pub plays-cut : {X : Type 0} (n : ℕ) (a : log.Fate) (f : page.Fate) (xs : List Action) (x : Result X Refusal) (w : World) → cutting n a f xs w ≡ true
    → Plays xs x w (Err PowerFailed) (cut_off_world n a f w xs)
unfolding cutting cut_off_world
plays-cut zero a f [] x w e = absurd (true≢false (sym e))
plays-cut (suc n) a f [] x w e = absurd (true≢false (sym e))
plays-cut zero a f (y ∷ xs) x w e =
    inl (record { in_append = a; in_write = f; leaves = refl; off = not-true (powered y (acted a f y w)) e; answers = refl })
plays-cut (suc n) a f (y ∷ xs) x w e =
    let t = and_parts (powered y (did y w)) (cutting n a f xs (did y w)) e in
    inr (t.0, plays-cut n a f xs x (did y w) t.1)

-- one call that the power outlasts
pub serves : (s : Store) (c : Call) → lasting (planned s c).actions s.world ≡ true
    → Served by_byte s.state c s.world (planned s c).answer (does s c).state (does s c).world
unfolding planned does
serves s c e = record { played = record { plays = plays-all (planned s c).actions (planned s c).answer s.world e }; state = refl }

-- what a call answers, and whether the power outlasts it
unfoldable pub answered : Store → Call → Result Reply Refusal × Bool
answered s c = let p = planned s c in (p.answer, lasting p.actions s.world)

pub serves-as : (s : Store) (c : Call) (a : State) (r : Result Reply Refusal) (b : State) → s.state ≡ a → answered s c ≡ (r, true) → state_after a c r ≡ b
    → Served by_byte a c s.world r b (does s c).world
unfolding does answered
serves-as s c a r b i e k =
    let j : (planned s c).answer ≡ r = ap (λ (t : Result Reply Refusal × Bool). t.0) e in
    subst₃ (λ x y z. Served by_byte x c s.world y z (does s c).world) i j (ap₂ (λ x y. state_after x c y) i j ∙ k)
    (serves s c (ap (λ (t : Result Reply Refusal × Bool). t.1) e))

-- one that it cuts off
pub serves-cut : (n : ℕ) (a : log.Fate) (f : page.Fate) (s : Store) (c : Call) → cutting n a f (planned s c).actions s.world ≡ true
    → Served by_byte s.state c s.world (Err PowerFailed) (cut n a f s c).state (cut n a f s c).world
unfolding planned cut
serves-cut n a f s c e = record { played = record { plays = plays-cut n a f (planned s c).actions (planned s c).answer s.world e }; state = refl }

-- calls one after another: the store after them, its history, and its records
unfoldable pub asked : Store → List Call → Store
asked s [] = s
asked s (c ∷ cs) = asked (does s c) cs

unfoldable pub heard : Store → List Call → History → History
heard s [] h = h
heard s (c ∷ cs) h = let t = does s c in heard t cs (event c (planned s c).answer s.world t.world ∷ h)

unfoldable pub gained : Store → List Call → Added → Added
gained s [] a = a
gained s (c ∷ cs) a = let t = does s c in gained t cs (a ++ map bytes_in (new_records s.world t.world))

unfoldable pub outlasts : Store → List Call → Bool
outlasts s [] = true
outlasts s (c ∷ cs) = lasting (planned s c).actions s.world && outlasts (does s c) cs

pub runs_on : (s : Store) (cs : List Call) (h : History) (a : Added) → Run by_byte h a s.state s.world → outlasts s cs ≡ true
    → Run by_byte (heard s cs h) (gained s cs a) (asked s cs).state (asked s cs).world
unfolding asked heard gained outlasts
runs_on s [] h a r e = r
runs_on s (c ∷ cs) h a r e =
    let t = and_parts (lasting (planned s c).actions s.world) (outlasts (does s c) cs) e in
    runs_on (does s c) cs (event c (planned s c).answer s.world (does s c).world ∷ h) (a ++ map bytes_in (new_records s.world (does s c).world))
    (calls r (serves s c t.0)) t.1

-- a page that reads as of an earlier position
abbrev pub lsn_of : {K V : Type 0} → Option (Stored K V) → ℕ
lsn_of None = 0
lsn_of (Some x) = x.lsn

pub old_fails : {K V : Type 0} (n : ℕ) (q : Option (Stored K V)) → lsn_of q < n → Fails n q
old_fails n q l x e m = let i : lsn_of q ≡ x.lsn = ap lsn_of e in omega arith

set_at : {A : Type 0} (xs : List A) (p j : ℕ) (q d : A) → (get_or (set xs p q) j d ≡ get_or xs j d) ⊎ ((j ≡ p) × (get_or (set xs p q) j d ≡ q))
set_at [] p j q d = inl refl
set_at (x ∷ xs) zero zero q d = inr (refl, refl)
set_at (x ∷ xs) zero (suc j) q d = inl refl
set_at (x ∷ xs) (suc p) zero q d = inl refl
set_at (x ∷ xs) (suc p) (suc j) q d = elim (set_at xs p j q d) [ inl e ↦ inl e | inr e ↦ inr (ap suc e.0, e.1) ]

module _ (a : Added) (s : Store) where
  -- a page becomes anything that fails
  pub harm_page : (p : ℕ) (q : Page) → Fails ((meant by_byte a s.world).newest p) (stored_page by_byte p q)
      → s.world.disk.on ≡ true → Reads s.world.journal.records a → Harm by_byte a s.world (harmed s p q).world
  unfolding harmed
  harm_page p q fails on reads = record {
    index = refl;
    count = length-set s.world.disk.pages p q;
    disk_power = sym on;
    pages = λ j. elim (set_at s.world.disk.pages p j q unreadable) [
      | inl e ↦ inl e
      | inr e ↦ inr (subst (λ k. Fails ((meant by_byte a s.world).newest k) (stored_page by_byte k (get_or (set s.world.disk.pages p q) j unreadable))) (sym e.0)
          (subst (λ y. Fails ((meant by_byte a s.world).newest p) (stored_page by_byte p y)) (sym e.1) fails))
    ];
    capacity = refl;
    journal_power = refl;
    records = reads;
  }

-- a record is lost
reads-lost : (es : List Entry) (a : Added) (n : ℕ) → Reads es a → Reads (set es n lost) a
reads-lost [] [] n r = r
reads-lost [] (b ∷ a) n r = r
reads-lost (e ∷ es) [] n r = absurd r
reads-lost (e ∷ es) (b ∷ a) zero r = (inl refl, r.1)
reads-lost (e ∷ es) (b ∷ a) (suc n) r = (r.0, reads-lost es a n r.1)

module _ (a : Added) (s : Store) (n : ℕ) where
  pub harm_record : s.world.journal.on ≡ true → Reads s.world.journal.records a → Harm by_byte a s.world (losing s n).world
  unfolding losing
  harm_record on reads = record {
    index = refl;
    count = refl;
    disk_power = refl;
    pages = λ j. inl refl;
    capacity = refl;
    journal_power = sym on;
    records = reads-lost s.world.journal.records a n reads;
  }

-- a row of which nothing is lost reads as its bytes
unfoldable pub none_lost : List Entry → Bool
none_lost [] = true
none_lost (e ∷ es) = not (is_lost e) && none_lost es

pub reads_all : (es : List Entry) → none_lost es ≡ true → Reads es (map bytes_in es)
unfolding none_lost
reads_all [] e = tt
reads_all (entry b ∷ es) e = (inr refl, reads_all es e)
reads_all (lost ∷ es) e = absurd (true≢false (sym e))

-- a row of one page, and nothing behind it
pub all_same : (P : Page → Type 0) (n p : ℕ) (q : Page) → P q → P unreadable → P (get_or (replicate n q) p unreadable)
all_same P zero p q i j = j
all_same P (suc n) zero q i j = i
all_same P (suc n) (suc p) q i j = all_same P n p q i j
