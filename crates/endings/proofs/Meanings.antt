-- What a page means in any world: the answer of fetching it. Its image is well formed, and mending a page changes no page's meaning.
use Rattle.std.proofs.Common.{◌≡◌, ℕ, suc, ◌<◌, Bool, true, false, cond, ◌⊎◌, List, length, get_or, set, Some, None, Ok, Err, Option, Result, sym, refl, ap, ◌∙◌, subst, inl, inr, arith}
use Prim.Native.Nat.{Ordering}
use Rattle.std.proofs.lemmas.Bool.{and_parts, cond_both, ltb-true, cases_eq}
use Rattle.std.proofs.lemmas.List.{get_or-set_same, get_or-set_other}
use Rattle.order.specs.Lawful.{Says}
use Rattle.device.specs.Disk.{Disk, Page, holds, unreadable, page_at, reaches, shown}
use Rattle.device.specs.Writes.{lasts, written}
use Rattle.device.specs.declared.errors.ReadError.TheVariants as read
use Rattle.tree.specs.Tree.{Image, edge, upper_of}
use Rattle.tree.specs.Log.{Built, rebuild}
use Rattle.tree.specs.Log.Built.{Done, Lost, Misfit}
use Rattle.tree.specs.Suits.{suits, Form}
use Rattle.tree.specs.Walk.{Formed}
use Rattle.tree.specs.Worlds.{passes}
use Rattle.tree.proofs.Form.{built_formed}
use Rattle.images.specs.Keys.{Key, Value, empty_key, keyed, pair_cost, kid_cost}
use Rattle.images.specs.Images.{encode_image, stored_page}
use Rattle.images.specs.Laws.{Ranked}
use Rattle.model.specs.declared.refusal.Refusal.{Refusal}
use Rattle.model.specs.declared.refusal.Refusal.TheVariants.{PowerFailed}
use Rattle.model.specs.Worlds.{World, world, newest, done}
use Rattle.model.specs.Plans.{Plan, ends}
use Rattle.model.specs.Fetches.{rec_at, image_at, mended, mending, checked, looked, fetching}
use Rattle.endings.proofs.Sturdy.{Sturdy, built_sturdy}
use Rattle.endings.proofs.Records.{record_plain}
use Rattle.endings.proofs.Passing.{passed-formed, reads_back}

-- the plan of fetching by what it depends on: the powers of device and log, the page, and what its chain gives
abbrev seen : ℕ → ℕ → Bool → Built Key Value → Option (Image Key Value) → Plan (Image Key Value)
seen p n j b (Some x) = ends (Ok x)
seen p n j b None = cond j (mended p n b) (ends (Err PowerFailed))

abbrev planned : Says → ℕ → ℕ → Bool → Page → Bool → Built Key Value → Plan (Image Key Value)
planned says p n d q j b = cond d (seen p n j b (passes n (stored_page says p q))) (ends (Err PowerFailed))

module _ (says : Says) (w : World) (p n : ℕ) where
  checked-is : (o : Option (Image Key Value)) → checked says w p n o ≡ seen p n w.journal.on (image_at says w.journal p n) o
  unfolding mending
  checked-is (Some x) = refl
  checked-is None = refl

  looked-is : (d : Bool) (q : Page) → looked says w p n (cond d (shown q) (Err read.Off)) ≡ planned says p n d q w.journal.on (image_at says w.journal p n)
  unfolding stored_page
  looked-is true (holds b) = checked-is (passes n (stored_page says p (holds b)))
  looked-is true unreadable = checked-is None
  looked-is false q = refl

module _ (says : Says) where
  abbrev plan : World → ℕ → Bool → Page → Plan (Image Key Value)
  plan w p d q = planned says p (newest w.index p) d q w.journal.on (image_at says w.journal p (newest w.index p))

  fetching-is : (w : World) (p : ℕ) → fetching says w p ≡ plan w p w.disk.on (page_at w.disk p)
  unfolding fetching
  fetching-is w p = looked-is says w p (newest w.index p) w.disk.on (page_at w.disk p)

-- what a write leaves of the pages
written-pages : (d : Disk) (p : ℕ) (bs : List ℕ) (P : ℕ → Page → Type 0) → ((q : ℕ) → P q (page_at d q)) → P p (holds bs) → (q : ℕ) → P q (page_at (written lasts d p bs) q)
written-pages d p bs P old new q = cond_both (reaches d p) _ d (λ (e : Disk). P q (page_at e q)) within (λ _. old q)
  where
    within : reaches d p ≡ true → P q (get_or (set d.pages p (holds bs)) q unreadable)
    within t = elim (cases_eq q p) [
      | inl i ↦ subst (λ z. P z (get_or (set d.pages p (holds bs)) z unreadable)) (sym i)
          (subst (P p) (sym (get_or-set_same d.pages p (holds bs) unreadable (ltb-true p (length d.pages) (and_parts d.on _ t).1))) new)
      | inr i ↦ subst (P q) (sym (get_or-set_other d.pages p q (holds bs) unreadable i)) (old q)
    ]

written_on : (d : Disk) (p : ℕ) (bs : List ℕ) → (written lasts d p bs).on ≡ d.on
written_on d p bs = cond_both (reaches d p) _ d (λ (e : Disk). e.on ≡ d.on) (λ t. sym (and_parts d.on _ t).0) (λ _. refl)

-- what is made again is sturdy, and well formed
built_is_sturdy : (says : Says) (w : World) (p n : ℕ) (x : Image Key Value) → image_at says w.journal p n ≡ Done x → Sturdy x
unfolding image_at
built_is_sturdy says w p n x e = built_sturdy (keyed says) (rec_at w.journal) (record_plain w.journal) (suc n) p n x e

form-formed : (says : Says) (r : Ranked says) (x : Image Key Value) → Form r.rank r.top x → Formed r.rank r.top x
form-formed says r x form = record {
  foster_above = λ f e. subst (λ (o : Option (Key × ℕ)). r.rank x.frame.low < edge r.rank r.top (upper_of o x.frame.high)) e form.spans;
  ascends = form.kids_ascend;
}

built-is-formed : (says : Says) (r : Ranked says) (w : World) (p n : ℕ) (x : Image Key Value) → image_at says w.journal p n ≡ Done x → Formed r.rank r.top x
unfolding image_at
built-is-formed says r w p n x e = form-formed says r x
    (built_formed r.rank r.top empty_key r.ranking pair_cost kid_cost (rec_at w.journal) (suc n) p n x
    (subst (λ (c : Key → Key → Ordering). rebuild c empty_key (suits c pair_cost kid_cost) (rec_at w.journal) (suc n) p n ≡ Done x) r.told e))

module _ (says : Says) where
  -- a page that cannot be read, or reads as x, answers x if that is what its chain gives
  answers : (p n : ℕ) (d : Bool) (q : Page) (j : Bool) (b : Built Key Value) (x : Image Key Value) → d ≡ true → j ≡ true → b ≡ Done x
      → (passes n (stored_page says p q) ≡ None) ⊎ (passes n (stored_page says p q) ≡ Some x) → (planned says p n d q j b).answer ≡ Ok x
  answers p n d q j b x hd hj hb h = (λ i. (planned says p n (hd i) q (hj i) (hb i)).answer) ∙ elim h [
    | inl e ↦ ap (λ o. (seen p n true (Done x) o).answer) e
    | inr e ↦ ap (λ o. (seen p n true (Done x) o).answer) e
  ]

  -- every page means the same, and the same pages are born
  pub record Same (w v : World) : Type 0 where
    pub index : v.index ≡ w.index
    pub means : (q : ℕ) → (fetching says v q).answer ≡ (fetching says w q).answer

  unchanged : (w : World) → Same w w
  unchanged w = record { index = refl; means = λ q. refl }

  stored_same : (w : World) (p : ℕ) (x : Image Key Value) → w.disk.on ≡ true → w.journal.on ≡ true
      → image_at says w.journal p (newest w.index p) ≡ Done x → passes (newest w.index p) (stored_page says p (page_at w.disk p)) ≡ None
      → Same w (world w.index (written lasts w.disk p (encode_image p (newest w.index p) x)) w.journal)
  stored_same w p x hd hj hb none = record { index = refl; means = means }
    where
      bs : List ℕ
      bs = encode_image p (newest w.index p) x

      v : World
      v = world w.index (written lasts w.disk p bs) w.journal

      new : (plan says w p w.disk.on (holds bs)).answer ≡ (plan says w p w.disk.on (page_at w.disk p)).answer
      new =
          answers p (newest w.index p) w.disk.on (holds bs) w.journal.on _ x hd hj hb
          (reads_back x (built_is_sturdy says w p (newest w.index p) x hb) says p (newest w.index p))
          ∙ sym (answers p (newest w.index p) w.disk.on (page_at w.disk p) w.journal.on _ x hd hj hb (inl none))

      means : (q : ℕ) → (fetching says v q).answer ≡ (fetching says w q).answer
      means q =
          ap (λ (P : Plan (Image Key Value)). P.answer) (fetching-is says v q)
          ∙ ap (λ (d : Bool). (plan says w q d (page_at v.disk q)).answer) (written_on w.disk p bs)
          ∙ written-pages w.disk p bs (λ i z. (plan says w i w.disk.on z).answer ≡ (plan says w i w.disk.on (page_at w.disk i)).answer) (λ i. refl) new q
          ∙ ap (λ (P : Plan (Image Key Value)). P.answer) (sym (fetching-is says w q))

  -- mending keeps meanings
  pub mending-keeps : (w : World) (p : ℕ) → Same w (done (fetching says w p).actions w)
  mending-keeps w p = subst (λ (P : Plan (Image Key Value)). Same w (done P.actions w)) (sym (fetching-is says w p)) (on w.disk.on refl)
    where
      n : ℕ
      n = newest w.index p

      b : Built Key Value
      b = image_at says w.journal p n

      made : w.disk.on ≡ true → passes n (stored_page says p (page_at w.disk p)) ≡ None → w.journal.on ≡ true
          → (c : Built Key Value) → b ≡ c → Same w (done (mended p n c).actions w)
      made hd none hj (Done x) e = stored_same w p x hd hj e none
      made hd none hj (Lost m) e = unchanged w
      made hd none hj (Misfit m) e = unchanged w

      logged : w.disk.on ≡ true → passes n (stored_page says p (page_at w.disk p)) ≡ None
          → (j : Bool) → w.journal.on ≡ j → Same w (done (seen p n j b None).actions w)
      logged hd none true hj = made hd none hj b refl
      logged hd none false hj = unchanged w

      looked-at : w.disk.on ≡ true → (o : Option (Image Key Value)) → passes n (stored_page says p (page_at w.disk p)) ≡ o
          → Same w (done (seen p n w.journal.on b o).actions w)
      looked-at hd (Some x) e = unchanged w
      looked-at hd None e = logged hd e w.journal.on refl

      on : (d : Bool) → w.disk.on ≡ d → Same w (done (plan says w p d (page_at w.disk p)).actions w)
      on true e = looked-at e (passes n (stored_page says p (page_at w.disk p))) refl
      on false e = unchanged w

-- a page that is fetched is well formed, whatever the world
same_ok : (y x : Image Key Value) → ◌≡◌ {A = Result (Image Key Value) Refusal} (Ok y) (Ok x) → y ≡ x
same_ok y x e = cc

not-ok : (ε : Refusal) (x : Image Key Value) → ◌≡◌ {A = Result (Image Key Value) Refusal} (Err ε) (Ok x) → ⊥
not-ok ε x e = let z : ◌≡◌ {A = ℕ} 0 1 = cc in omega arith

module _ (says : Says) (r : Ranked says) where
  pub fetched_formed : (w : World) (p : ℕ) (x : Image Key Value) → (fetching says w p).answer ≡ Ok x → Formed r.rank r.top x
  fetched_formed w p x e = on w.disk.on (sym (ap (λ (P : Plan (Image Key Value)). P.answer) (fetching-is says w p)) ∙ e)
    where
      n : ℕ
      n = newest w.index p

      b : Built Key Value
      b = image_at says w.journal p n

      made : (c : Built Key Value) → b ≡ c → (mended p n c).answer ≡ Ok x → Formed r.rank r.top x
      made (Done y) i e = subst (λ (z : Image Key Value). Formed r.rank r.top z) (same_ok y x e) (built-is-formed says r w p n y i)
      made (Lost m) i e = absurd (not-ok _ x e)
      made (Misfit m) i e = absurd (not-ok _ x e)

      logged : (j : Bool) → (seen p n j b None).answer ≡ Ok x → Formed r.rank r.top x
      logged true e = made b refl e
      logged false e = absurd (not-ok _ x e)

      looked-at : (o : Option (Image Key Value)) → passes n (stored_page says p (page_at w.disk p)) ≡ o → (seen p n w.journal.on b o).answer ≡ Ok x → Formed r.rank r.top x
      looked-at (Some y) i e = subst (λ (z : Image Key Value). Formed r.rank r.top z) (same_ok y x e) (passed-formed says r p n (page_at w.disk p) y i)
      looked-at None i e = logged w.journal.on e

      on : (d : Bool) → (plan says w p d (page_at w.disk p)).answer ≡ Ok x → Formed r.rank r.top x
      on true e = looked-at (passes n (stored_page says p (page_at w.disk p))) refl e
      on false e = absurd (not-ok _ x e)
