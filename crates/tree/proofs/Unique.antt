-- A key's way and a page's chain are one, and what a chain's lost records come to.
use Rattle.std.proofs.Common.{◌≡◌, ℕ, Bool, true, false, cond, ◌⊎◌, List, [], ◌∷◌, ◌++◌, Some, None, Option, sym, refl, ap, ◌∙◌, inl, inr, arith}
use Prim.Native.Nat.{Ordering}
use Rattle.tree.specs.Tree.{Frame, Image, onward, Way}
use Rattle.tree.specs.Tree.Way.{ends, goes}
use Rattle.tree.specs.Log.{Change, Rec, source, Chain, or_lost, verdict}
use Rattle.tree.specs.Log.Chain.{first, later}
use Rattle.tree.specs.Log.Built.{Done, Lost}
use Rattle.ranks.specs.Lists.{In, All}
use Rattle.tree.proofs.Upd.{none-some}
use Rattle.std.proofs.lemmas.Bool.{cases_Bool}

module _ {K : Type 0} (cmp : K → K → Ordering) (frame : ℕ → Frame K) (k : K) where
  pub way-one : {p q : ℕ} {ps : List ℕ} → Way cmp frame k p ps q → {p' q' : ℕ} {ps' : List ℕ} → Way cmp frame k p' ps' q' → p ≡ p' → ps ≡ ps'
  way-one (ends e) (ends e') h = ap (λ n. n ∷ []) h
  way-one (ends {p = p} e) (goes {p = p'} {q = r} e' w') h = absurd (none-some r (let t = ap (λ n. onward cmp (frame n) k) h in sym e ∙ t ∙ e'))
  way-one (goes {q = r} e w) (ends {p = p'} e') h = absurd (none-some r (let t = ap (λ n. onward cmp (frame n) k) h in sym e' ∙ sym t ∙ e))
  way-one (goes {p = p} {q = r} {ps = ps} e w) (goes {p = p'} {q = r'} {ps = ps'} e' w') h =
      let t = ap (λ n. onward cmp (frame n) k) h in
      let u : r ≡ r' = cc in
      let i = way-one w w' u in
      cc

  pub leaf-one : {p q : ℕ} {ps : List ℕ} → Way cmp frame k p ps q → {p' q' : ℕ} {ps' : List ℕ} → Way cmp frame k p' ps' q' → p ≡ p' → q ≡ q'
  leaf-one (ends e) (ends e') h = h
  leaf-one (ends {p = p} e) (goes {p = p'} {q = r} e' w') h = absurd (none-some r (let t = ap (λ n. onward cmp (frame n) k) h in sym e ∙ t ∙ e'))
  leaf-one (goes {q = r} e w) (ends {p = p'} e') h = absurd (none-some r (let t = ap (λ n. onward cmp (frame n) k) h in sym e' ∙ sym t ∙ e))
  leaf-one (goes {p = p} {q = r} {ps = ps} e w) (goes {p = p'} {q = r'} {ps = ps'} e' w') h =
      let t = ap (λ n. onward cmp (frame n) k) h in
      let u : r ≡ r' = cc in
      leaf-one w w' u

module _ {K V : Type 0} (cmp : K → K → Ordering) (least : K) (suits : Change K V → ℕ → Image K V → Bool) (slot : ℕ → Option (Rec K V)) where
  pub chain-one : {p n : ℕ} {ns : List ℕ} {x : Image K V} → Chain cmp least suits slot p n ns x → {q m : ℕ} {ms : List ℕ} {y : Image K V} → Chain cmp least suits slot q m ms y
      → p ≡ q → n ≡ m → ns ≡ ms
  chain-one (first e h) (first e' h') i j = ap (λ n. n ∷ []) j
  chain-one (first {p = p} {n = n} {r = r} e h) (later {p = p'} {n = n'} {q = q} {m = m} {r = r'} e' h' l o c) i j =
      let t = ap slot j in
      let u : r ≡ r' = cc in
      let s : source r p ≡ source r' p' = ap (source r) i ∙ ap (λ x. source x p') u in
      let z : ◌≡◌ {A = ℕ} 0 1 = cc in absurd (omega arith)
  chain-one (later {p = p'} {n = n'} {q = q} {m = m} {r = r'} e' h' l o c) (first {p = p} {n = n} {r = r} e h) i j =
      let t = ap slot j in
      let u : r ≡ r' = cc in
      let s : source r' p' ≡ source r p = ap (source r') i ∙ ap (λ x. source x p) (sym u) in
      let z : ◌≡◌ {A = ℕ} 0 1 = cc in absurd (omega arith)
  chain-one (later {p = p} {n = n} {q = q} {m = m} {r = r} {ns = ns} e h l o c) (later {p = p'} {n = n'} {q = q'} {m = m'} {r = r'} {ns = ns'} e' h' l' o' c') i j =
      let t = ap slot j in
      let u : r ≡ r' = cc in
      let s : source r p ≡ source r' p' = ap (source r) i ∙ ap (λ x. source x p') u in
      let a : q ≡ q' = cc in
      let b : m ≡ m' = cc in
      let w = chain-one c c' a b in
      cc

  -- reading the chain meets its newest lost record, or none
  module _ (lost : ℕ → Bool) where
    abbrev pub seen : ℕ → Option (Rec K V)
    seen n = cond (lost n) None (slot n)

    abbrev pub Whole : List ℕ → Image K V → Type 0
    Whole ns y = (verdict seen ns y ≡ Done y) × ((m : ℕ) → In m ns → lost m ≡ true → ⊥)

    abbrev pub Broken : List ℕ → Image K V → Type 0
    Broken ns y = (m : ℕ) × (newer : List ℕ) × (older : List ℕ) × (verdict seen ns y ≡ Lost m) × (ns ≡ newer ++ (m ∷ older)) × (lost m ≡ true) × All (λ n. lost n ≡ false) newer

    both : (b : Bool) → b ≡ true → b ≡ false → ⊥
    both b s t = let z : ◌≡◌ {A = ℕ} 0 1 = cc in omega arith

    one_more : (n : ℕ) (r : Rec K V) (ns : List ℕ) (y : Image K V) → slot n ≡ Some r → Whole ns y ⊎ Broken ns y → Whole (n ∷ ns) y ⊎ Broken (n ∷ ns) y
    one_more n r ns y e h = elim (cases_Bool (lost n)) [
      | inl t ↦ inr (n, [], ns, let u : seen n ≡ None = cc in ap (λ o. or_lost o n (verdict seen ns y)) u, refl, t, tt)
      | inr t ↦
          let u : seen n ≡ Some r = cc in
          let v = ap (λ o. or_lost o n (verdict seen ns y)) u in
          elim h [
            | inl a ↦ inl (
              v ∙ a.0,
              λ m i l. elim i [
                | inl i' ↦ both (lost m) l (ap lost i' ∙ t)
                | inr i' ↦ a.1 m i' l
              ],
            )
            | inr a ↦ inr (a.0, n ∷ a.1, a.2, v ∙ a.3, ap (λ xs. n ∷ xs) a.4, a.5, (t, a.6))
          ]
    ]

    pub seen-chain : {p n : ℕ} {ns : List ℕ} {x : Image K V} → Chain cmp least suits slot p n ns x → (y : Image K V) → Whole ns y ⊎ Broken ns y
    seen-chain (first {n = n} {r = r} e h) y = one_more n r [] y e (inl (refl, λ m i l. i))
    seen-chain (later {n = n} {r = r} {ns = ns} e h l o c) y = one_more n r ns y e (seen-chain c y)
