-- What stands by the calls of a history is what stands by the log.
use Rattle.std.proofs.Common.{◌≡◌, ℕ, Bool, true, false, cond, ◌&&◌, ◌⊎◌, List, [], Some, None, Err, Option, Result, sym, refl, ap, ◌∙◌, inl, inr, arith}
use Prim.Native.Nat.{compare}
use Rattle.std.proofs.Math.Dec.{compare_is_eq}
use Rattle.std.specs.Str.{bytes_eq}
use Rattle.std.proofs.lemmas.Slice.Eq.{bytes_eq-Decides}
use Rattle.std.proofs.lemmas.Bool.{cases_eq}
use Rattle.order.specs.Lawful.{Says}
use Rattle.wal.specs.Journal.{Entry}
use Rattle.tree.specs.Log.{Change}
use Rattle.tree.specs.Plan.{Begins}
use Rattle.tree.specs.Plan.Begins.{nothing, more}
use Rattle.tree.proofs.Runs.{standing_all, Putting, Removing, Quiet, Each, each-begins, quiet_stands, putting-stands, removing-stands, is_put, is_remove, any}
use Rattle.images.specs.Keys.{Key, Value, empty_key, keyed, key_of, value_of}
use Rattle.images.specs.Laws.{Ranked}
use Rattle.images.proofs.Strings.{same_key, key_of_bytes, value_of_bytes}
use Rattle.model.specs.declared.refusal.Refusal.{Refusal}
use Rattle.model.specs.declared.refusal.Refusal.TheVariants.{PowerFailed}
use Rattle.model.specs.Calls.{Call, Reply}
use Rattle.model.specs.Calls.Call.{Create, Open, Put, Remove, Get, Next, Tend}
use Rattle.model.specs.Promises.{stands, reaches, after_event}

abbrev pub value_bytes : Option Value → Option (List ℕ)
value_bytes None = None
value_bytes (Some v) = Some v.bytes

-- changes that a call may make, with its whole answer
abbrev pub Fitting : Call → Result Reply Refusal → List (Change Key Value) → Type 0
Fitting Create x cs = Each Quiet cs
Fitting Open x cs = Each Quiet cs
Fitting (Put key value work) x cs =
    ((k : Key) × (v : Value) × (key_of key ≡ Some k) × (value_of value ≡ Some v) × Each (Putting k v) cs × (stands x (any is_put cs) ≡ any is_put cs))
    ⊎ ((cs ≡ []) × (stands x false ≡ false))
Fitting (Remove key work) x cs =
    ((k : Key) × (key_of key ≡ Some k) × Each (Removing k) cs × (stands x (any is_remove cs) ≡ any is_remove cs)) ⊎ ((cs ≡ []) × (stands x false ≡ false))
Fitting (Get key room work) x cs = Each Quiet cs
Fitting (Next key key_room room work) x cs = Each Quiet cs
Fitting (Tend key work) x cs = Each Quiet cs

begins_nil : (cs ds : List (Change Key Value)) → Begins cs ds → ds ≡ [] → cs ≡ []
begins_nil cs ds nothing e = refl
begins_nil cs ds (more {c = c} {bs = bs} {cs = xs} b) e = let z : ◌≡◌ {A = ℕ} 0 1 = cc in absurd (omega arith)

-- a call that was cut off, whose first changes reached the log
pub fitting-cut : (c : Call) (x : Result Reply Refusal) (cs ds : List (Change Key Value)) → Begins ds cs → Fitting c x cs → Fitting c (Err PowerFailed) ds
fitting-cut Create x cs ds b f = each-begins Quiet b f
fitting-cut Open x cs ds b f = each-begins Quiet b f
fitting-cut (Put key value work) x cs ds b (inl f) = inl (f.0, f.1, f.2, f.3, each-begins (Putting f.0 f.1) b f.4, refl)
fitting-cut (Put key value work) x cs ds b (inr f) = inr (begins_nil ds cs b f.0, refl)
fitting-cut (Remove key work) x cs ds b (inl f) = inl (f.0, f.1, each-begins (Removing f.0) b f.2, refl)
fitting-cut (Remove key work) x cs ds b (inr f) = inr (begins_nil ds cs b f.0, refl)
fitting-cut (Get key room work) x cs ds b f = each-begins Quiet b f
fitting-cut (Next key key_room room work) x cs ds b f = each-begins Quiet b f
fitting-cut (Tend key work) x cs ds b f = each-begins Quiet b f

module _ (says : Says) (r : Ranked says) where
  -- two keys are equal in the order exactly if their bytes are the same
  same_test : (j k : Key) → compare_is_eq (keyed says j k) ≡ bytes_eq k.bytes j.bytes
  same_test j k =
      let t = ap (λ c. compare_is_eq (c j k)) r.told in
      let d = bytes_eq-Decides k.bytes j.bytes in
      elim (cases_eq (r.rank j) (r.rank k)) [
        | inl e ↦
            let i : k.bytes ≡ j.bytes = ap (λ x. x.bytes) (sym (r.ranking.one j k e)) in
            let a : compare_is_eq (compare (r.rank j) (r.rank k)) ≡ true = grind arith in
            t ∙ a ∙ sym (d.1 i)
        | inr n ↦
            let a : compare_is_eq (compare (r.rank j) (r.rank k)) ≡ false = grind arith in
            t ∙ a ∙ sym (go d (bytes_eq k.bytes j.bytes) refl n)
      ]
    where
      go : ((bytes_eq k.bytes j.bytes ≡ true) → k.bytes ≡ j.bytes) × (k.bytes ≡ j.bytes → bytes_eq k.bytes j.bytes ≡ true)
          → (b : Bool) → bytes_eq k.bytes j.bytes ≡ b → (r.rank j ≡ r.rank k → ⊥) → bytes_eq k.bytes j.bytes ≡ false
      go d false e n = e
      go d true e n = absurd (n (ap r.rank (same_key j k (sym (d.0 e)))))

  -- the values that stand after a call's changes
  pub event-stands : (c : Call) (x : Result Reply Refusal) (cs : List (Change Key Value)) (es : List Entry) → Fitting c x cs
      → reaches 2 es ≡ any is_put cs → reaches 3 es ≡ any is_remove cs → (f : Key → Option Value) (j : Key) (was : Option (List ℕ)) → value_bytes (f j) ≡ was
      → value_bytes (standing_all (keyed says) empty_key cs f j) ≡ after_event c x es j.bytes was
  event-stands Create x cs es fit a b f j was e = ap value_bytes (quiet_stands (keyed says) empty_key cs f fit j) ∙ e
  event-stands Open x cs es fit a b f j was e = ap value_bytes (quiet_stands (keyed says) empty_key cs f fit j) ∙ e
  event-stands (Put key value work) x cs es (inl fit) a b f j was e =
      let k = fit.0 in
      let v = fit.1 in
      let own : stands x (reaches 2 es) ≡ any is_put cs = ap (stands x) a ∙ fit.5 in
      let p = putting-stands (keyed says) empty_key k v cs f fit.4 j in
      let kb = key_of_bytes key k fit.2 in
      let vb = value_of_bytes value v fit.3 in
      let t = same_test j k in
      ap value_bytes p ∙ go (any is_put cs) (compare_is_eq (keyed says j k)) (stands x (reaches 2 es)) own (t ∙ ap (λ z. bytes_eq z j.bytes) kb) (ap (λ z. Some z) vb)
    where
      go : (o q s : Bool) → s ≡ o → q ≡ bytes_eq key j.bytes → Some fit.1.bytes ≡ Some value
          → value_bytes (cond o (cond q (Some fit.1) (f j)) (f j)) ≡ cond (s && bytes_eq key j.bytes) (Some value) was
      go true true s m n i = let u : (s && bytes_eq key j.bytes) ≡ true = cc in i ∙ ap (λ z. cond z (Some value) was) (sym u)
      go true false s m n i = let u : (s && bytes_eq key j.bytes) ≡ false = cc in e ∙ ap (λ z. cond z (Some value) was) (sym u)
      go false q s m n i = let u : (s && bytes_eq key j.bytes) ≡ false = cc in e ∙ ap (λ z. cond z (Some value) was) (sym u)
  event-stands (Put key value work) x cs es (inr fit) a b f j was e =
      let n : any is_put cs ≡ false = ap (any is_put) fit.0 in
      let u : stands x (reaches 2 es) ≡ false = ap (stands x) (a ∙ n) ∙ fit.1 in
      ap (λ ds. value_bytes (standing_all (keyed says) empty_key ds f j)) fit.0 ∙ e ∙ ap (λ z. cond (z && bytes_eq key j.bytes) (Some value) was) (sym u)
  event-stands (Remove key work) x cs es (inl fit) a b f j was e =
      let k = fit.0 in
      let own : stands x (reaches 3 es) ≡ any is_remove cs = ap (stands x) b ∙ fit.3 in
      let p = removing-stands (keyed says) empty_key k cs f fit.2 j in
      let kb = key_of_bytes key k fit.1 in
      let t = same_test j k in
      ap value_bytes p ∙ go (any is_remove cs) (compare_is_eq (keyed says j k)) (stands x (reaches 3 es)) own (t ∙ ap (λ z. bytes_eq z j.bytes) kb)
    where
      go : (o q s : Bool) → s ≡ o → q ≡ bytes_eq key j.bytes
          → value_bytes (cond o (cond q None (f j)) (f j)) ≡ cond (s && bytes_eq key j.bytes) None was
      go true true s m n = let u : (s && bytes_eq key j.bytes) ≡ true = cc in ap (λ z. cond z None was) (sym u)
      go true false s m n = let u : (s && bytes_eq key j.bytes) ≡ false = cc in e ∙ ap (λ z. cond z None was) (sym u)
      go false q s m n = let u : (s && bytes_eq key j.bytes) ≡ false = cc in e ∙ ap (λ z. cond z None was) (sym u)
  event-stands (Remove key work) x cs es (inr fit) a b f j was e =
      let n : any is_remove cs ≡ false = ap (any is_remove) fit.0 in
      let u : stands x (reaches 3 es) ≡ false = ap (stands x) (b ∙ n) ∙ fit.1 in
      ap (λ ds. value_bytes (standing_all (keyed says) empty_key ds f j)) fit.0 ∙ e ∙ ap (λ z. cond (z && bytes_eq key j.bytes) None was) (sym u)
  event-stands (Get key room work) x cs es fit a b f j was e = ap value_bytes (quiet_stands (keyed says) empty_key cs f fit j) ∙ e
  event-stands (Next key key_room room work) x cs es fit a b f j was e = ap value_bytes (quiet_stands (keyed says) empty_key cs f fit j) ∙ e
  event-stands (Tend key work) x cs es fit a b f j was e = ap value_bytes (quiet_stands (keyed says) empty_key cs f fit j) ∙ e
