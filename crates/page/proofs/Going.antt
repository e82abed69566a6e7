-- The steps of the way through the entries.
use Rattle.std.proofs.Common.{◌≡◌, ℕ, suc, ◌+◌, ◌-◌, ◌*◌, ◌<◌, ◌≤◌, Bool, true, false, ◌&&◌, eqb, List, get_or, drop, sym, ap, ◌∙◌, ap₂, arith}
use native.Mathlib.Nat.{sub-zero}
use Rattle.std.proofs.lemmas.Bool.{ne_eqb}
use Rattle.field.specs.Fields.{half, word}
use Rattle.order.specs.Fences.{Bound, is_below}
use Rattle.order.specs.Lawful.{Says}
use Rattle.page.specs.Content.{entry_key, upper}
use Rattle.page.specs.Image.{entry_of, parse_page}
use Rattle.page.specs.Walk.{ends_at, is_next, walks, walks_all}

module _ (says : Says) (b : List ℕ) (own level : ℕ) (bound : Bound) (n i : ℕ) (end : ℕ) (previous : List ℕ) where
  key : ℕ → List ℕ
  key at = entry_key (entry_of level (drop at b))

  abbrev here : Bool
  here = walks says b own level bound (n - i) (eqb i 0) (72 + 2 * i) end previous

  module _ (more : i < n) (at : ℕ) (at-is : at ≡ half b (72 + 2 * i)) where
    step : here ≡ (ends_at b own level at end && (is_next (eqb i 0) level (says previous (key at)) && walks says b own level bound (n - (i + 1)) false (72 + 2 * i + 2) at (key at)))
    unfolding walks key
    step =
        let e : n - i ≡ suc (n - (i + 1)) = omega arith in
        ap (λ (k : ℕ). walks says b own level bound k (eqb i 0) (72 + 2 * i) end previous) e
        ∙ ap (λ (a : ℕ). ends_at b own level a end && (is_next (eqb i 0) level (says previous (entry_key (entry_of level (drop a b)))) && walks says b own level bound (n - (i + 1)) false (72 + 2 * i + 2) a (entry_key (entry_of level (drop a b))))) (sym at-is)

    pub go_unfit : (r : Bool) → r ≡ ends_at b own level at end → r ≡ false → false ≡ here
    go_unfit r e f =
        ap (λ (x : Bool). x && (is_next (eqb i 0) level (says previous (key at)) && walks says b own level bound (n - (i + 1)) false (72 + 2 * i + 2) at (key at))) (sym f ∙ e) ∙ sym step

    module _ (r : Bool) (r-is : r ≡ ends_at b own level at end) (fit : r ≡ true) (k : List ℕ) (k-is : k ≡ entry_key (entry_of level (drop at b))) where
      stepped : here ≡ (is_next (eqb i 0) level (says previous k) && walks says b own level bound (n - (i + 1)) false (72 + 2 * i + 2) at k)
      unfolding key
      stepped =
          step ∙ ap (λ (x : Bool). x && (is_next (eqb i 0) level (says previous (key at)) && walks says b own level bound (n - (i + 1)) false (72 + 2 * i + 2) at (key at))) (sym r-is ∙ fit)
          ∙ ap (λ (y : List ℕ). is_next (eqb i 0) level (says previous y) && walks says b own level bound (n - (i + 1)) false (72 + 2 * i + 2) at y) (sym k-is)

      pub go_unmet : (m : Bool) → m ≡ is_next (eqb i 0) level (says previous k) → m ≡ false → false ≡ here
      go_unmet m e f = ap (λ (x : Bool). x && walks says b own level bound (n - (i + 1)) false (72 + 2 * i + 2) at k) (sym f ∙ e) ∙ sym stepped

      pub go_on : (m : Bool) → m ≡ is_next (eqb i 0) level (says previous k) → m ≡ true
          → walks says b own level bound (n - (i + 1)) (eqb (i + 1) 0) (72 + 2 * (i + 1)) at k ≡ here
      go_on m e f =
          let z : eqb (i + 1) 0 ≡ false = ne_eqb (i + 1) 0 (λ q. omega arith) in
          let s : 72 + 2 * (i + 1) ≡ 72 + 2 * i + 2 = omega arith in
          ap₂ {C = Bool} (λ (x : Bool) (y : ℕ). walks says b own level bound (n - (i + 1)) x y at k) z s
          ∙ ap (λ (x : Bool). x && walks says b own level bound (n - (i + 1)) false (72 + 2 * i + 2) at k) (sym f ∙ e) ∙ sym stepped

  pub go-end : n ≤ i → (start : ℕ) → start ≡ half b 16 → (upper : Bound) → upper ≡ bound → (r : Bool) → r ≡ is_below says previous upper → (eqb end start && r) ≡ here
  unfolding walks
  go-end h start start_is upper upper_is r r-is =
      let e : 0 ≡ n - i = omega arith in
      let t : (eqb end start && r) ≡ (eqb end (half b 16) && is_below says previous bound) = cc in
      t ∙ ap (λ (k : ℕ). walks says b own level bound k (eqb i 0) (72 + 2 * i) end previous) e

pub go-start : (says : Says) (b : List ℕ) (own : ℕ) (low : List ℕ) → own ≡ word b 0 → low ≡ (parse_page b).low
    → walks says b own (get_or b 8 0) (upper (parse_page b)) (half b 10 - 0) true 72 508 low ≡ walks_all says b
unfolding walks_all parse_page
go-start says b own low own_is low-is =
    let n = sub-zero (half b 10) in
    cc
