-- What the store's own changes make of pages can be written: each image has what the layout of a page asks, and each change what that of
-- a record asks.
use Rattle.std.specs.Prelude.{◌≡◌, ℕ, suc, ◌<◌, List, [], Some}
use Rattle.ranks.specs.Lists.{All}
use Rattle.ranks.specs.Ranks.{Key, Ranking}
use Rattle.tree.specs.Rows.{by}
use Rattle.tree.specs.Tree.{Image, Sound}
use Rattle.tree.specs.Log.{Change, Logged, tree, start, May}
use Rattle.tree.specs.Log.Change.{Format, Put, Remove, Foster, Adopt, Grow}
use Rattle.tree.specs.Suits.{Form}
use Rattle.tree.specs.Plan.{changed}

-- a number that page p may point to
pub record Pointed (born p c : ℕ) : Type 0 where
  pub inner : c ≡ 0 → ⊥
  pub other : c ≡ p → ⊥
  pub is_born : c < born

module _ {K V : Type 0} (rank : K → ℕ) (top : ℕ) (least : K) where
  -- a leaf has pairs alone, none of them with the least key, and a branch has kids alone
  pub record Neat (x : Image K V) : Type 0 where
    pub leaf_kids : x.frame.level ≡ 0 → x.frame.kids ≡ []
    pub branch_pairs : (l : ℕ) → x.frame.level ≡ suc l → x.pairs ≡ []
    pub named : All (λ (e : K × V). rank least < rank e.0) x.pairs

  -- so are all pages of a log, and the tree has fewer levels above its leaves than pages
  pub record Tidy (s : Logged K V) : Type 0 where
    pub pages : (p : ℕ) → Neat (s.page p)
    pub level : 0 < s.born → (s.page 0).frame.level < s.born

  -- a put's key is not the least
  abbrev pub NamesKey : Change K V → Type 0
  NamesKey Format = Unit {0}
  NamesKey (Put p k v) = rank least < rank k
  NamesKey (Remove p k) = rank least < rank k
  NamesKey (Foster p o d) = Unit {0}
  NamesKey (Adopt p o k c) = Unit {0}
  NamesKey (Grow o) = Unit {0}

  -- what the layout of a page asks of page p's image
  pub record Writable (born p : ℕ) (x : Image K V) : Type 0 where
    pub neat : Neat x
    pub form : Form rank top x
    pub foster_above : (f : K × ℕ) → x.frame.foster ≡ Some f → rank x.frame.low < rank f.0
    pub fosters : (f : K × ℕ) → x.frame.foster ≡ Some f → Pointed born p f.1
    pub kids : All (λ (e : K × ℕ). Pointed born p e.1) x.frame.kids

  -- what the layout of a record, and the reading of it, ask of a change
  abbrev pub Recorded : ℕ → Change K V → Type 0
  Recorded born Format = Unit {0}
  Recorded born (Put p k v) = (p < born) × (rank least < rank k)
  Recorded born (Remove p k) = (p < born) × (rank least < rank k)
  Recorded born (Foster p o d) = (p < born) × (o ≡ born) × (rank least < rank d)
  Recorded born (Adopt p o k c) = (p < born) × Pointed born p o × Pointed born p c × Pointed born o c × (rank least < rank k)
  Recorded born (Grow o) = (o ≡ born) × (0 < born)

abbrev pub StartIsTidy : Type 0
StartIsTidy = (rank : Key → ℕ) (top : ℕ) (least : Key) → Tidy rank top least (start {V = List ℕ} (by rank) least)

-- a change that the store may make leaves the pages tidy
abbrev pub TidyStays : Type 0
TidyStays = (rank : Key → ℕ) (top : ℕ) (least : Key) (s : Logged Key (List ℕ)) → Tidy rank top least s → Sound rank top least (tree s)
    → (c : Change Key (List ℕ)) → May rank top least c s → NamesKey rank top least c → Tidy rank top least (changed (by rank) least s c)

-- page 0 of a new log, too
abbrev pub FormatIsTidy : Type 0
FormatIsTidy = (rank : Key → ℕ) (top : ℕ) (least : Key) → Tidy rank top least (changed {V = List ℕ} (by rank) least (start (by rank) least) Format)

abbrev pub PagesAreWritable : Type 0
PagesAreWritable = (rank : Key → ℕ) (top : ℕ) (least : Key) → Ranking rank top least → (s : Logged Key (List ℕ)) → Sound rank top least (tree s)
    → Tidy rank top least s → (p : ℕ) → p < s.born → Writable rank top least s.born p (s.page p)

abbrev pub ChangesAreRecorded : Type 0
ChangesAreRecorded = (rank : Key → ℕ) (top : ℕ) (least : Key) → Ranking rank top least → (s : Logged Key (List ℕ)) → Sound rank top least (tree s)
    → (c : Change Key (List ℕ)) → May rank top least c s → NamesKey rank top least c → Recorded rank top least s.born c
