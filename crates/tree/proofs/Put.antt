use Rattle.std.proofs.Common.{◌≡◌, ℕ, ◌<◌, eqb, Some, None, sym, refl, ◌∙◌, subst, arith}
use mathlib.Core.Path.{fun_ext}
use Rattle.tree.specs.Rows.{find, set, without, Ascends, by}
use Rattle.tree.specs.Tree.{Image, State, Shape, Sound, upper, edge, Holds, put, remove, putting, removing, MayPut}
use Rattle.tree.proofs.Rows.{find-set, find-set-other, set-ascends, find-without, find-without-other, without-ascends}
use Rattle.tree.proofs.Upd.{upd_cases, upd-keeps}
use Rattle.std.proofs.lemmas.Bool.{cond_both, eqb-true, eqb-false}

module _ {K V : Type 0} (rank : K → ℕ) (top : ℕ) (least : K) (s : State K V) (sound : Sound rank top least s)
    (p : ℕ) (k : K) (may : MayPut rank top s p k) where
  -- no other leaf has the key
  alone : (q : ℕ) → (q ≡ p → ⊥) → q < s.born → (j : K) → (s.page q).frame.level ≡ 0 → Holds rank top (s.page q).frame j
      → rank j ≡ rank k → ⊥
  alone q n b j l h e =
      n (sound.shape.apart q b p may.is_born j (l ∙ sym may.leaf) h (omega arith, omega arith))

  pub put-stays : (v : V) → Sound rank top least (put (by rank) least p k v s)
  put-stays v = record {
    shape = subst (Shape rank top least s.born) (fun_ext (λ q. sym (upd-keeps s.page p y (λ z. z.frame) refl q))) sound.shape;
    pairs_ascend = upd_cases s.page p y
        (λ q z. q < s.born → Ascends rank (rank z.frame.low) z.pairs (edge rank top (upper z.frame)))
        (λ b. set-ascends rank _ _ k v (s.page p).pairs (sound.pairs_ascend p b) may.holds.0 may.holds.1)
        (λ q n b. sound.pairs_ascend q b);
    leaves = upd_cases s.page p y
        (λ q z. q < s.born → (j : K) → z.frame.level ≡ 0 → Holds rank top z.frame j → find (by rank) j z.pairs ≡ (put (by rank) least p k v s).stands j)
        (λ b j l h. cond_both (eqb (rank j) (rank k)) (Some v) (s.stands j) (λ w. find (by rank) j (set (by rank) k v (s.page p).pairs) ≡ w)
        (λ t. find-set rank j k v (s.page p).pairs (eqb-true (rank j) (rank k) t))
        (λ t. find-set-other rank j k v (s.page p).pairs (eqb-false (rank j) (rank k) t) ∙ sound.leaves p b j l h))
        (λ q n b j l h. cond_both (eqb (rank j) (rank k)) (Some v) (s.stands j) (λ w. find (by rank) j (s.page q).pairs ≡ w)
        (λ t. absurd (alone q n b j l h (eqb-true (rank j) (rank k) t)))
        (λ t. sound.leaves q b j l h));
  }
    where
      y : Image K V
      y = putting (by rank) least k v (s.page p)

  pub remove-stays : Sound rank top least (remove (by rank) least p k s)
  remove-stays = record {
    shape = subst (Shape rank top least s.born) (fun_ext (λ q. sym (upd-keeps s.page p y (λ z. z.frame) refl q))) sound.shape;
    pairs_ascend = upd_cases s.page p y
        (λ q z. q < s.born → Ascends rank (rank z.frame.low) z.pairs (edge rank top (upper z.frame)))
        (λ b. without-ascends rank _ _ k (s.page p).pairs (sound.pairs_ascend p b))
        (λ q n b. sound.pairs_ascend q b);
    leaves = upd_cases s.page p y
        (λ q z. q < s.born → (j : K) → z.frame.level ≡ 0 → Holds rank top z.frame j → find (by rank) j z.pairs ≡ (remove (by rank) least p k s).stands j)
        (λ b j l h. cond_both (eqb (rank j) (rank k)) None (s.stands j) (λ w. find (by rank) j (without (by rank) k (s.page p).pairs) ≡ w)
        (λ t. find-without rank j k (s.page p).pairs (eqb-true (rank j) (rank k) t))
        (λ t. find-without-other rank j k (s.page p).pairs (eqb-false (rank j) (rank k) t) ∙ sound.leaves p b j l h))
        (λ q n b j l h. cond_both (eqb (rank j) (rank k)) None (s.stands j) (λ w. find (by rank) j (s.page q).pairs ≡ w)
        (λ t. absurd (alone q n b j l h (eqb-true (rank j) (rank k) t)))
        (λ t. sound.leaves q b j l h));
  }
    where
      y : Image K V
      y = removing (by rank) least k (s.page p)
