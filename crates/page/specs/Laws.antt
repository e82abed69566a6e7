-- What holds of pages and their images, over the definitions alone.
use Rattle.std.specs.Prelude.{◌≡◌, ℕ, zero, suc, ◌^◌, ◌<◌, true, List, [], ◌∷◌, length, Some, slice_index}
use Rattle.order.specs.Fences.{is_held}
use Rattle.order.specs.Lawful.{Says, Lawful}
use Rattle.order.specs.Slots.{key_at, Ascending}
use Rattle.page.specs.Content.{Entry, Content, foster_child, keys_of, upper}
use Rattle.page.specs.Content.Entry.{leaf, branch}
use Rattle.page.specs.Image.{encode_page}
use Rattle.page.specs.Form.{is_form, is_ordered, is_sound, decode_page}
use Rattle.page.specs.Walk.{passes}

-- an entry is of the kind that a level has, and its child's number has 32 bits
abbrev pub Kinded : ℕ → Entry → Type 0
Kinded zero (leaf key value) = Unit {0}
Kinded zero (branch key child) = ⊥
Kinded (suc l) (leaf key value) = ⊥
Kinded (suc l) (branch key child) = child < 2 ^ 32

abbrev pub AllKinded : ℕ → List Entry → Type 0
AllKinded level [] = Unit {0}
AllKinded level (e ∷ es) = Kinded level e × AllKinded level es

-- numbers of 32 bits, and entries of the kind that the level has
pub record Fits (p : Content) : Type 0 where
  pub number : p.number < 2 ^ 32
  pub lsn : p.lsn < 2 ^ 32
  pub foster : foster_child p.foster < 2 ^ 32
  pub kinded : AllKinded p.level p.entries

-- decoding an image gives its content back
abbrev pub ImageGivesContent : Type 0
ImageGivesContent =
    (says : Says) (p : Content) → Fits p → is_form p ≡ true → is_ordered says p ≡ true → decode_page says (encode_page p) ≡ Some p

-- what decodes to a content is its image, and the content has the form of a page
pub record Decodes (says : Says) (b : List ℕ) (p : Content) : Type 0 where
  pub image : encode_page p ≡ b
  pub form : is_form p ≡ true
  pub ordered : is_ordered says p ≡ true

abbrev pub DecodedIsImage : Type 0
DecodedIsImage = (says : Says) (b : List ℕ) (p : Content) → decode_page says b ≡ Some p → Decodes says b p

abbrev pub ImageHas512Bytes : Type 0
ImageHas512Bytes = (p : Content) → Fits p → is_form p ≡ true → length (encode_page p) ≡ 512

-- the one way through the bytes decides what is a page
abbrev pub WalkIsExact : Type 0
WalkIsExact = (says : Says) (b : List ℕ) → ((i : ℕ) → slice_index b i < 256) → length b ≡ 512 → passes says b ≡ is_sound says b

-- keys ascend, and each lies from the low fence on and below the upper bound
abbrev pub KeysAscend : Type 0
KeysAscend = (says : Says) → Lawful says → (p : Content) → is_form p ≡ true → is_ordered says p ≡ true → Ascending says (keys_of p)

abbrev pub KeysHeld : Type 0
KeysHeld =
    (says : Says) → Lawful says → (p : Content) → is_form p ≡ true → is_ordered says p ≡ true → (i : ℕ) → i < length (keys_of p)
    → is_held says p.low (key_at (keys_of p) i) (upper p) ≡ true
