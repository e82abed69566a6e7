-- A lawful order compares ranks: how many keys are less. Assumes nothing.
use Rattle.std.proofs.Common.{◌≡◌, ℕ, suc, ◌<◌, ◌≤◌, true, List, [], length, Ordering, Less, Equal, Greater, refl, ap, ◌∙◌, inl, inr, arith}
use mathlib.Core.Path.{fun_ext}
use mathlib.Core.Bool.{Bool-set}
use mathlib.Core.HLevel.{is_prop→PathP}
use Rattle.std.specs.Ordering.{is_lt}
use Rattle.std.proofs.lemmas.Bool.{cases_lt}
use Rattle.std.proofs.lemmas.Bool.Decides.{nat_tests}
use Rattle.order.specs.Orders.{by_number}
use Rattle.order.specs.Lawful.{Says, Lawful}
use Rattle.ranks.specs.Ranks.{is_short, Key, empty_key, Told}
use Rattle.ranks.proofs.Tally.{tally, tally-lt, tally_most, all_more}
use Rattle.ranks.proofs.Strings.{all-keys, in_all, all_short, key_length}

is-less : (o : Ordering) → is_lt o ≡ true → o ≡ Less
is-less Less e = refl
is-less Equal e = cc
is-less Greater e = cc

same_key : (j k : Key) → j.bytes ≡ k.bytes → j ≡ k
same_key j k e = λ i. record {
  bytes = e i;
  short = is_prop→PathP (λ m. is_short 256 16 (e m) ≡ true) (λ m. Bool-set (is_short 256 16 (e m)) true) j.short k.short i;
}

module _ (says : Says) (law : Lawful says) where
  rank : List ℕ → ℕ
  rank s = tally (λ t. is_lt (says t s)) all-keys

  rank_lt : (j k : Key) → says j.bytes k.bytes ≡ Less → rank j.bytes < rank k.bytes
  unfolding rank
  rank_lt j k h =
      let s = j.bytes in
      let t = k.bytes in
      let ls = key_length s j.short in
      let lt = key_length t k.short in
      tally-lt (λ u. is_lt (says u s)) (λ u. is_lt (says u t)) s all-keys
      (all_more (λ u hu e. ap is_lt (law.chain u s t (key_length u hu) ls lt (is-less (says u s) e) h)) all-keys all_short)
      (ap is_lt (law.itself s ls)) (ap is_lt h) (in_all s j.short)

  compares : (j k : Key) → says j.bytes k.bytes ≡ by_number (rank j.bytes) (rank k.bytes)
  compares j k = go (says j.bytes k.bytes) refl
    where
      lj : length j.bytes ≤ 16
      lj = key_length j.bytes j.short

      lk : length k.bytes ≤ 16
      lk = key_length k.bytes k.short

      go : (o : Ordering) → says j.bytes k.bytes ≡ o → o ≡ by_number (rank j.bytes) (rank k.bytes)
      go Less e = let h = rank_lt j k e in grind (arith, nat_tests)
      go Equal e = let h = ap rank (law.same j.bytes k.bytes lj lk e) in grind (arith, nat_tests)
      go Greater e = let h = rank_lt k j ((law.turned k.bytes j.bytes lk lj).1 e) in grind (arith, nat_tests)

  one_rank : (j k : Key) → rank j.bytes ≡ rank k.bytes → j ≡ k
  one_rank j k e = same_key j k (law.same j.bytes k.bytes (key_length j.bytes j.short) (key_length k.bytes k.short) (compares j k ∙ level))
    where
      level : by_number (rank j.bytes) (rank k.bytes) ≡ Equal
      level = grind (arith, nat_tests)

  from_empty : (k : Key) → rank [] ≤ rank k.bytes
  from_empty k = elim (cases_lt (rank k.bytes) (rank [])) [
    | inl h ↦ absurd (law.least k.bytes (key_length k.bytes k.short) (compares k empty_key ∙ under h))
    | inr h ↦ h
  ]
    where
      under : rank k.bytes < rank [] → by_number (rank k.bytes) (rank []) ≡ Less
      under h = grind (arith, nat_tests)

  few : (s : List ℕ) → rank s < suc (length all-keys)
  unfolding rank
  few s = omega (arith, tally_most (λ t. is_lt (says t s)) all-keys)

  pub ranks : Told says
  ranks = record {
    rank = λ k. rank k.bytes;
    top = suc (length all-keys);
    ranking = record { one = one_rank; below_top = λ k. few k.bytes; from_least = from_empty };
    told = fun_ext (λ j. fun_ext (λ k. compares j k));
  }
