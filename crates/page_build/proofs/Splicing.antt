-- Where an entry of a spliced row comes from.
use Rattle.std.proofs.Common.{◌≡◌, ℕ, ◌+◌, ◌-◌, ◌<◌, ◌≤◌, min, List, [], ◌∷◌, ◌++◌, length, get_or, take, drop, sym, refl, ap, ◌∙◌, arith, length-append, length-drop}
use native.Mathlib.Nat.{min-le_left, min-le_right}
use Rattle.std.proofs.lemmas.List.{length-take, get_or_append_left, get_or-append_right, get_or-take, get_or-drop}
use Rattle.page.specs.Content.{Entry}
use Rattle.page_build.specs.Spliced.{spliced}

pub spliced-length : (es middle : List Entry) (keep resume : ℕ)
    → length (spliced es keep middle resume) ≡ min keep (length es) + (length middle + (length es - resume))
unfolding spliced
spliced-length es middle keep resume =
    length-append (take keep es) (middle ++ drop resume es)
    ∙ (let a = length-take keep es in let b = length-append middle (drop resume es) in let c = length-drop resume es in omega arith)

module _ (es middle : List Entry) (keep resume i : ℕ) (d : Entry) where
  pub from_front : i < min keep (length es) → get_or (spliced es keep middle resume) i d ≡ get_or es i d
  unfolding spliced
  from_front h =
      let l = length-take keep es in
      let k = min-le_left keep (length es) in
      let w : i < length (take keep es) = omega arith in
      let u : i < keep = omega arith in
      get_or_append_left (take keep es) (middle ++ drop resume es) d i w ∙ get_or-take keep es i d u

  behind : min keep (length es) ≤ i → get_or (spliced es keep middle resume) i d ≡ get_or (middle ++ drop resume es) (i - min keep (length es)) d
  unfolding spliced
  behind h = get_or-append_right (take keep es) (middle ++ drop resume es) (min keep (length es)) i d (length-take keep es) h

  pub from_back : min keep (length es) + length middle ≤ i
      → get_or (spliced es keep middle resume) i d ≡ get_or es (resume + (i - min keep (length es) - length middle)) d
  from_back h =
      behind (omega arith)
      ∙ get_or-append_right middle (drop resume es) (length middle) (i - min keep (length es)) d refl (omega arith)
      ∙ get_or-drop resume es (i - min keep (length es) - length middle) d

  pub from-middle : min keep (length es) ≤ i → i < min keep (length es) + length middle
      → get_or (spliced es keep middle resume) i d ≡ get_or middle (i - min keep (length es)) d
  from-middle h l = behind h ∙ get_or_append_left middle (drop resume es) d (i - min keep (length es)) (omega arith)

-- the same by the numbers that the code has
pub count-is : (es middle : List Entry) (keep resume n kept rest m : ℕ) → n ≡ length es → kept ≡ min keep n → rest ≡ n - resume → length middle ≡ m
    → kept + (m + rest) ≡ length (spliced es keep middle resume)
count-is es middle keep resume n kept rest m en ek er em =
    let l = spliced-length es middle keep resume in
    let k : kept ≡ min keep (length es) = ek ∙ ap (min keep) en in
    omega arith

pub within-front : (es : List Entry) (keep n kept i : ℕ) → n ≡ length es → kept ≡ min keep n → i < kept → i < length es
within-front es keep n kept i en ek h = let r = min-le_right keep n in omega arith

pub within_back : (es middle : List Entry) (keep resume n kept i m : ℕ) → n ≡ length es → kept ≡ min keep n → length middle ≡ m
    → kept + m ≤ i → i < length (spliced es keep middle resume) → resume + (i - kept - m) < length es
within_back es middle keep resume n kept i m en ek em h l =
    let s = spliced-length es middle keep resume in
    let k : kept ≡ min keep (length es) = ek ∙ ap (min keep) en in
    omega arith

pub front-is : (es middle : List Entry) (keep resume n kept i : ℕ) (d : Entry) → n ≡ length es → kept ≡ min keep n → i < kept
    → get_or es i d ≡ get_or (spliced es keep middle resume) i d
front-is es middle keep resume n kept i d en ek h =
    let k : kept ≡ min keep (length es) = ek ∙ ap (min keep) en in
    sym (from_front es middle keep resume i d (omega arith))

pub back_is : (es middle : List Entry) (keep resume n kept i m : ℕ) (d : Entry) → n ≡ length es → kept ≡ min keep n → length middle ≡ m
    → kept + m ≤ i → get_or es (resume + (i - kept - m)) d ≡ get_or (spliced es keep middle resume) i d
back_is es middle keep resume n kept i m d en ek em h =
    let k : kept ≡ min keep (length es) = ek ∙ ap (min keep) en in
    let j : resume + (i - kept - m) ≡ resume + (i - min keep (length es) - length middle) = omega arith in
    ap (λ (x : ℕ). get_or es x d) j ∙ sym (from_back es middle keep resume i d (omega arith))

pub middle-is : (es : List Entry) (e : Entry) (keep resume n kept i : ℕ) (d : Entry) → n ≡ length es → kept ≡ min keep n → i ≡ kept
    → e ≡ get_or (spliced es keep (e ∷ []) resume) i d
middle-is es e keep resume n kept i d en ek h =
    let k : kept ≡ min keep (length es) = ek ∙ ap (min keep) en in
    let z : i - min keep (length es) ≡ 0 = omega arith in
    sym (from-middle es (e ∷ []) keep resume i d (omega arith) (omega arith) ∙ ap (λ (x : ℕ). get_or (e ∷ []) x d) z)
