use Rattle.std.proofs.Common.{◌≡◌, ℕ, true, false, cond, eqb, Some, None, Option, sym, refl, subst, arith}
use Rattle.tree.specs.Tree.{upd}
use Rattle.std.proofs.lemmas.Bool.Decides.{nat_tests}
use Rattle.std.proofs.lemmas.Bool.{cond_both, eqb-true, eqb-false}

module _ {A : Type 0} (g : ℕ → A) (p : ℕ) (x : A) where
  pub upd-here : upd g p x p ≡ x
  unfolding upd
  upd-here = grind (arith, nat_tests)

  pub upd_there : (q : ℕ) → (q ≡ p → ⊥) → upd g p x q ≡ g q
  unfolding upd
  upd_there q n = grind (arith, nat_tests)

  pub upd_cases : (C : ℕ → A → Type 0) → C p x → ((q : ℕ) → (q ≡ p → ⊥) → C q (g q)) → (q : ℕ) → C q (upd g p x q)
  unfolding upd
  upd_cases C h o q = cond_both (eqb q p) x (g q) (C q) (λ t. subst (λ r. C r x) (sym (eqb-true q p t)) h) (λ t. o q (eqb-false q p t))

  pub upd-keeps : {B : Type 0} (f : A → B) → f x ≡ f (g p) → (q : ℕ) → f (upd g p x q) ≡ f (g q)
  unfolding upd
  upd-keeps f e q = upd_cases (λ r y. f y ≡ f (g r)) e (λ r n. refl) q

pub upd-map : {A B : Type 0} (f : A → B) (g : ℕ → A) (p : ℕ) (x : A) (q : ℕ) → f (upd g p x q) ≡ upd (λ r. f (g r)) p (f x) q
unfolding upd
upd-map f g p x q = elim (eqb q p) as (λ b. f (cond b x (g q)) ≡ cond b (f x) (f (g q))) [ true ↦ refl | false ↦ refl ]

pub none-some : {A : Type 0} (a : A) → ◌≡◌ {A = Option A} None (Some a) → ⊥
none-some a e = let t : ◌≡◌ {A = ℕ} 0 1 = cc in omega arith
