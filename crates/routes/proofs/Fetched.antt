-- Fetching a born page answers what the page means, and to mend it changes no page's meaning.
use Rattle.std.proofs.Common.{◌≡◌, ℕ, suc, ◌<◌, true, List, [], ◌∷◌, Some, None, Ok, Option, sym, refl, ap, ◌∙◌, subst, inl, inr, arith}
use mathlib.Core.Path.{fun_ext}
use Rattle.std.proofs.lemmas.Bool.{cond-true, eq-eqb}
use Rattle.order.specs.Lawful.{Says}
use Rattle.tree.specs.Tree.{Image}
use Rattle.tree.specs.Log.{Rec, Built, rebuild}
use Rattle.tree.specs.Log.Built.{Done, Lost, Misfit}
use Rattle.tree.specs.Suits.{suits}
use Rattle.tree.specs.Walk.Fetched.{Page}
use Rattle.tree.specs.Worlds.{Stored, passes, fetched_of, read}
use Rattle.images.specs.Keys.{Key, Value, empty_key, keyed, pair_cost, kid_cost}
use Rattle.images.specs.Images.{encode_image, stored_page}
use Rattle.images.specs.Laws.{Ranked}
use Rattle.device.specs.Disk as disk
use Rattle.device.specs.Disk.{holds, unreadable, page_at}
use Rattle.device.specs.Writes as page
use Rattle.wal.specs.Appends as log
use Rattle.model.specs.Worlds.{World, stores}
use Rattle.model.specs.Plans.{Plan, ends}
use Rattle.model.specs.Fetches.{image_at, mended, mending, checked, looked, fetching}
use Rattle.model.specs.Runs.{Added, meaning}
use Rattle.media.proofs.Media.{made, Media, Opened, rests, mends}
use Rattle.media.proofs.Keeps.{written-pages, written_on, read_back, store_media}
use Rattle.routes.proofs.Told.{fetched_as}
use Rattle.routes.proofs.Comes.{reads_as, comes}
use Rattle.routes.proofs.Kept.{page_meant, Kept, kept-none, EndsSo}

-- the plan by what was read of the page and what its chain gives
abbrev plan_of : ℕ → ℕ → Option (Image Key Value) → Built Key Value → Plan (Image Key Value)
plan_of p n (Some x) b = ends (Ok x)
plan_of p n None b = mended p n b

answers : (p n : ℕ) (o : Option (Image Key Value)) (b : Built Key Value) → (plan_of p n o b).answer ≡ fetched_as (fetched_of p o b)
answers p n (Some x) b = refl
answers p n None (Done x) = refl
answers p n None (Lost m) = refl
answers p n None (Misfit m) = refl

looks : (says : Says) (w : World) (p n : ℕ) (q : disk.Page) → looked says w p n (disk.shown q) ≡ checked says w p n (passes n (stored_page says p q))
unfolding stored_page
looks says w p n (holds b) = refl
looks says w p n unreadable = refl

mending-is : (says : Says) (w : World) (p n : ℕ) → w.journal.on ≡ true → mending says w p n ≡ mended p n (image_at says w.journal p n)
unfolding mending
mending-is says w p n h = cond-true w.journal.on _ _ h

checked-is : (says : Says) (w : World) (p n : ℕ) → w.journal.on ≡ true → (o : Option (Image Key Value))
    → checked says w p n o ≡ plan_of p n o (image_at says w.journal p n)
checked-is says w p n h (Some x) = refl
checked-is says w p n h None = mending-is says w p n h

module _ (says : Says) (r : Ranked says) (added : Added) where
  -- a chain as walking back meets it is that of the records as they were added
  image-is : (w : World) → Media says r added w → (p n : ℕ)
      → image_at says w.journal p n ≡ rebuild (keyed says) empty_key (suits (keyed says) pair_cost kid_cost) (read (meaning says added w)) (suc n) p n
  unfolding image_at
  image-is w m p n = ap (λ (f : ℕ → Option (Rec Key Value)). rebuild (keyed says) empty_key (suits (keyed says) pair_cost kid_cost) f (suc n) p n)
      (fun_ext (λ i. sym (reads_as says r added w m i)))

  abbrev Chained : World → ℕ → Built Key Value
  Chained w p = rebuild (keyed says) empty_key (suits (keyed says) pair_cost kid_cost) (read (meaning says added w)) (suc ((made says r added).newest p)) p ((made says r added).newest p)

  abbrev Passed : World → ℕ → Option (Image Key Value)
  Passed w p = passes ((made says r added).newest p) (stored_page says p (page_at w.disk p))

  fetching-is : (w : World) → Media says r added w → Opened says r added w → (p : ℕ)
      → fetching says w p ≡ plan_of p ((made says r added).newest p) (Passed w p) (Chained w p)
  unfolding fetching
  fetching-is w m o p =
      ap (λ (n : ℕ). looked says w p n (disk.reading w.disk p)) (o.newest_is p)
      ∙ ap (looked says w p ((made says r added).newest p)) (cond-true w.disk.on _ _ o.disk_on)
      ∙ looks says w p ((made says r added).newest p) (page_at w.disk p)
      ∙ checked-is says w p ((made says r added).newest p) o.journal_on (Passed w p)
      ∙ ap (plan_of p ((made says r added).newest p) (Passed w p)) (image-is w m p ((made says r added).newest p))

  -- the page is mended
  mended-kept : (w : World) → Media says r added w → Opened says r added w → (p : ℕ) → p < (made says r added).born
      → page_meant says added w p ≡ Page ((made says r added).page p)
      → Kept says r added w (stores p (encode_image p ((made says r added).newest p) ((made says r added).page p)) ∷ [])
  mended-kept w m o p b e = record {
    apt = mends b refl o.disk_on rests;
    opened = record {
      some = o.some;
      disk_on = written_on w.disk p bs o.disk_on;
      journal_on = o.journal_on;
      born_is = o.born_is;
      newest_is = o.newest_is;
    };
    media = store_media says r added w m p bs b refl log.lasts page.lasts;
    same = λ q h. written-pages w.disk p bs page.lasts
        (λ i x. fetched_of i (passes ((made says r added).newest i) (stored_page says i x)) (Chained w i) ≡ page_meant says added w i) (λ i. refl)
        (passing _ _ _ (Chained w p) (read_back says r added w m p b) ∙ sym e) q;
  }
    where
      bs : List ℕ
      bs = encode_image p ((made says r added).newest p) ((made says r added).page p)

      passing : (n : ℕ) (x : Image Key Value) (t : Option (Stored Key Value)) (c : Built Key Value) → t ≡ Some (record { lsn = n; image = x })
          → fetched_of p (passes n t) c ≡ Page x
      passing n x t c i = let u = eq-eqb n n refl in ap (λ z. fetched_of p (passes n z) c) i ∙ cc

  -- whatever was read of a page, and whatever its chain gives
  plan-kept : (w : World) → Media says r added w → Opened says r added w → (p : ℕ) → p < (made says r added).born
      → (o : Option (Image Key Value)) (c : Built Key Value) → page_meant says added w p ≡ fetched_of p o c
      → Kept says r added w (plan_of p ((made says r added).newest p) o c).actions
  plan-kept w m o p b (Some x) c e = kept-none says r m o
  plan-kept w m o p b None (Lost n) e = kept-none says r m o
  plan-kept w m o p b None (Misfit n) e = kept-none says r m o
  plan-kept w m o p b None (Done x) e = elim (comes says r added w m o p b) [
    | inl a ↦
        let f = a.0 in
        let i : x ≡ (made says r added).page p = cc in
        subst (λ (y : Image Key Value). Kept says r added w (stores p (encode_image p ((made says r added).newest p) y) ∷ [])) (sym i) (mended-kept w m o p b f)
    | inr a ↦ let f = a.1 in let z : ◌≡◌ {A = ℕ} 0 1 = cc in absurd (omega arith)
  ]

  pub fetched_so : (w : World) → Media says r added w → Opened says r added w → (p : ℕ) → p < (made says r added).born
      → EndsSo says r added w (fetching says w p) (fetched_as (page_meant says added w p))
  fetched_so w m o p b = subst (λ (x : Plan (Image Key Value)). EndsSo says r added w x (fetched_as (page_meant says added w p))) (sym (fetching-is w m o p))
      (answers p ((made says r added).newest p) (Passed w p) (Chained w p), plan-kept w m o p b (Passed w p) (Chained w p) refl)
