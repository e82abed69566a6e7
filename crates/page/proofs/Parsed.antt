-- What is read from bytes, whether they are a page or not, and what is known of bytes that are one.
use Rattle.std.proofs.Common.{◌≡◌, ℕ, zero, suc, ◌+◌, ◌≤◌, Bool, true, cond, not, eqb, leb, List, [], ◌∷◌, length, get_or, drop, Some, None, Option, sym, refl, ap, ◌∙◌, inl, inr}
use Rattle.std.specs.Str.{bytes_eq}
use Rattle.std.proofs.lemmas.Slice.Eq.{bytes_eq-Decides}
use Rattle.std.proofs.lemmas.Bool.{and_parts, and_from, eq-eqb, ne_eqb, le-leb, cases_eq}
use Rattle.field.specs.Fields.{half}
use Rattle.order.specs.Lawful.{Says}
use Rattle.seal.specs.Laws.{Bytes}
use Rattle.page.specs.Content.{Foster, foster_key, foster_child}
use Rattle.page.specs.Image.{after, entry_of, entries_at, foster_of, parse_page, encode_page}
use Rattle.page.specs.Form.{is_child, is_foster, is_form, is_ordered, is_laid, is_sound}
use Rattle.page.specs.Laws.{Kinded, AllKinded, Fits}
use Rattle.page.proofs.Standing.{any_word, bytes_drop}
use Rattle.page.proofs.Pages.{Fit, Formed, formed, fit}

bytes_after : (d : List ℕ) → Bytes d → Bytes (after d)
unfolding after
bytes_after [] bs = bs
bytes_after (n ∷ g) bs = bytes_drop g n (bytes_drop (n ∷ g) 1 bs)

kinded-one : (level : ℕ) (d : List ℕ) → Bytes d → Kinded level (entry_of level d)
unfolding entry_of
kinded-one zero d bs = tt
kinded-one (suc l) d bs = any_word (after d) (bytes_after d bs) 0

kinded-all : (n level : ℕ) (b : List ℕ) (slot : ℕ) → Bytes b → AllKinded level (entries_at n level b slot)
unfolding entries_at
kinded-all zero level b slot bs = tt
kinded-all (suc n) level b slot bs = (kinded-one level (drop (half b slot) b) (bytes_drop b (half b slot) bs), kinded-all n level b (slot + 2) bs)

entries-length : (n level : ℕ) (b : List ℕ) (slot : ℕ) → length (entries_at n level b slot) ≡ n
unfolding entries_at
entries-length zero level b slot = refl
entries-length (suc n) level b slot = ap suc (entries-length n level b (slot + 2))

pub entries-count : (b : List ℕ) → length (parse_page b).entries ≡ half b 10
unfolding parse_page
entries-count b = entries-length (half b 10) (get_or b 8 0) b 72

-- the foster child
module _ (k : List ℕ) (c : ℕ) where
  pub foster-none : c ≡ 0 → foster_of k c ≡ None
  unfolding foster_of
  foster-none e = ap {B = Option Foster} (λ (t : Bool). cond t None (Some (record { key = k; child = c }))) (eq-eqb c 0 e)

  pub foster-some : (c ≡ 0 → ⊥) → foster_of k c ≡ Some (record { key = k; child = c })
  unfolding foster_of
  foster-some n = ap {B = Option Foster} (λ (t : Bool). cond t None (Some (record { key = k; child = c }))) (ne_eqb c 0 n)

  pub foster-child : foster_child (foster_of k c) ≡ c
  unfolding foster_child
  foster-child = elim (cases_eq c 0) [ inl e ↦ ap foster_child (foster-none e) ∙ sym e | inr n ↦ ap foster_child (foster-some n) ]

  pub foster-key : (c ≡ 0 → k ≡ []) → foster_key (foster_of k c) ≡ k
  unfolding foster_key
  foster-key z = elim (cases_eq c 0) [ inl e ↦ ap foster_key (foster-none e) ∙ sym (z e) | inr n ↦ ap foster_key (foster-some n) ]

  pub foster_good : (own : ℕ) (t : Bool) → length k ≤ 16 → cond (eqb c 0) t (not (eqb c own)) ≡ true → is_foster own (foster_of k c) ≡ true
  unfolding is_foster is_child
  foster_good own t l h = elim (cases_eq c 0) [
    | inl e ↦ ap (is_foster own) (foster-none e)
    | inr n ↦
        let zero-not = ne_eqb c 0 n in
        let own-not : not (eqb c own) ≡ true = sym (ap {B = Bool} (λ (s : Bool). cond s t (not (eqb c own))) zero-not) ∙ h in
        ap (is_foster own) (foster-some n) ∙ and_from _ _ (le-leb (length k) 16 l) (and_from _ _ (ap not zero-not) own-not)
  ]

-- and from a page's form
pub foster-apart : (own : ℕ) (k : List ℕ) (c : ℕ) → (c ≡ 0 → ⊥) → is_foster own (foster_of k c) ≡ true → not (eqb c own) ≡ true
unfolding is_foster is_child
foster-apart own k c n h =
    (and_parts (not (eqb c 0)) _ (and_parts (leb (length k) 16) _ (ap (is_foster own) (sym (foster-some k c n)) ∙ h)).1).1

pub sound-parts : (says : Says) (b : List ℕ) → is_sound says b ≡ true → (is_laid b ≡ true) × (is_ordered says (parse_page b) ≡ true)
unfolding is_sound
sound-parts says b sound = and_parts (is_laid b) (is_ordered says (parse_page b)) sound

pub form_of : (b : List ℕ) → is_laid b ≡ true → is_form (parse_page b) ≡ true
unfolding is_laid
form_of b laid = (and_parts (is_form (parse_page b)) (bytes_eq (encode_page (parse_page b)) b) laid).0

module _ (b : List ℕ) (bs : Bytes b) (laid : is_laid b ≡ true) where
  tests : (is_form (parse_page b) ≡ true) × (bytes_eq (encode_page (parse_page b)) b ≡ true)
  unfolding is_laid
  tests = and_parts (is_form (parse_page b)) (bytes_eq (encode_page (parse_page b)) b) laid

  pub image-is : encode_page (parse_page b) ≡ b
  image-is = (bytes_eq-Decides (encode_page (parse_page b)) b).0 tests.1

  pub form-is : Formed (parse_page b)
  form-is = formed (parse_page b) tests.0

  fits : Fits (parse_page b)
  unfolding parse_page
  fits = record {
    number = any_word b bs 0;
    lsn = any_word b bs 4;
    foster = rw foster-child (any_word b bs 12);
    kinded = kinded-all (half b 10) (get_or b 8 0) b 72 bs;
  }

  pub fit_is : Fit (parse_page b)
  fit_is = fit (parse_page b) fits tests.0
