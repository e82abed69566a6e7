-- The header that the code writes, and the content that it makes with some entries.
use Rattle.std.specs.Prelude.{◌≡◌, ℕ, List, [], ◌∷◌, ◌++◌, Some, None, Option}
use Rattle.field.specs.Fields.{le2, field}
use Rattle.field.specs.Held.{Key, key_of}
use Rattle.order.specs.Fences.{Bound}
use Rattle.page.specs.Content.{Entry, Foster, Content, foster_key, foster_child}
use Rattle.page.specs.Image.{bound_field}
use Rattle.seal.specs.Seal.{le4}
use Rattle.page_build.specs.declared.header.Header.{Header}
use Rattle.page_build.specs.declared.header.Foster as code

abbrev pub bound_of : Option Key → Bound
bound_of None = None
bound_of (Some key) = Some (key_of key)

abbrev pub foster_of : Option code.Foster → Option Foster
foster_of None = None
foster_of (Some f) = Some (record { key = key_of f.key; child = f.child })

abbrev pub content_of : Header → List Entry → Content
content_of h entries = record {
  number = h.number;
  lsn = h.lsn;
  level = h.level;
  low = key_of h.low;
  high = bound_of h.high;
  foster = foster_of h.foster;
  entries = entries;
}

-- the first 72 bytes, with the number of entries and the heap's start
unfoldable pub head_of : Header → ℕ → ℕ → List ℕ
head_of h count start =
    le4 h.number ++ (le4 h.lsn ++ (h.level ∷ 0 ∷ (le2 count ++ (le4 (foster_child (foster_of h.foster)) ++ (le2 start ++ (0 ∷ 0 ∷
    (field 16 (key_of h.low) ++ (bound_field (bound_of h.high) ++ (field 16 (foster_key (foster_of h.foster)) ++ (0 ∷ []))))))))))

-- a header that is a page's own, but for the position
pub record Heads (h : Header) (lsn : ℕ) (p : Content) : Type 0 where
  pub number : h.number ≡ p.number
  pub position : h.lsn ≡ lsn
  pub level : h.level ≡ p.level
  pub low : key_of h.low ≡ p.low
  pub high : bound_of h.high ≡ p.high
  pub foster : foster_of h.foster ≡ p.foster
