-- A lawful order compares ranks as the tree does.
use Rattle.std.proofs.Common.{◌≡◌, ℕ, ap, ◌∙◌, arith}
use mathlib.Core.Path.{fun_ext}
use Prim.Native.Nat.{compare}
use Rattle.std.proofs.lemmas.Bool.Decides.{nat_tests}
use Rattle.order.specs.Orders.{by_number}
use Rattle.ranks.proofs.Ranked.{ranks}
use Rattle.images.specs.Keys.{number}
use Rattle.images.specs.Laws.{OrdersRankKeys}

numbered : (a b : ℕ) → number (by_number a b) ≡ compare a b
numbered a b = grind (arith, nat_tests)

pub orders_rank_keys : OrdersRankKeys
orders_rank_keys says law =
    let t = ranks says law in
    record {
      rank = t.rank;
      top = t.top;
      ranking = t.ranking;
      told = fun_ext (λ j. fun_ext (λ k. ap number (λ i. t.told i j k) ∙ numbered (t.rank j) (t.rank k)));
    }
