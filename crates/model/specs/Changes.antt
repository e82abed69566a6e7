-- A change to the tree as the store makes it: its record is appended, then the changed pages are written. And which change a call makes.
use Rattle.std.specs.Prelude.{ℕ, ◌+◌, cond, List, [], ◌∷◌, length, Some, None, Ok, Err, Option, ◌==◌, nat_le, nat_lt}
use Rattle.order.specs.Lawful.{Says}
use Rattle.tree.specs.Rows.{find, set, is_less}
use Rattle.tree.specs.Tree.{Image}
use Rattle.tree.specs.Log.{Change, blank, make}
use Rattle.tree.specs.Log.Change.{Format, Put, Remove, Foster, Adopt, Grow}
use Rattle.tree.specs.Halves.{total, divider}
use Rattle.tree.specs.Plan.{linked_by}
use Rattle.tree.specs.Walk.{Visit}
use Rattle.images.specs.Keys.{Key, Value, empty_key, keyed, pair_cost, kid_cost}
use Rattle.images.specs.Images.{encode_image}
use Rattle.images.specs.Records.{encode_rec}
use Rattle.model.specs.declared.refusal.Refusal.TheVariants.{Absent, NoPage, LogFull, PowerFailed}
use Rattle.model.specs.declared.state.Tended.{Tended}
use Rattle.model.specs.declared.state.Tended.TheVariants.{Untended, Grown, Adopted, Split}
use Rattle.model.specs.Worlds.{World, Action, indexes, adds, stores, newest, born, usable, next_position}
use Rattle.model.specs.Plans.{Plan, ends, after}
use Rattle.model.specs.Ways.{Route}

abbrev pub Images : Type 0
Images = ℕ → Image Key Value

-- page before other
abbrev pub changed_pages : Change Key Value → List ℕ
changed_pages Format = 0 ∷ []
changed_pages (Put p k v) = p ∷ []
changed_pages (Remove p k) = p ∷ []
changed_pages (Foster p o d) = p ∷ o ∷ []
changed_pages (Adopt p o k c) = p ∷ o ∷ []
changed_pages (Grow o) = 0 ∷ o ∷ []

-- each page's new image at position n, made of the image that it comes from
abbrev pub writes : Says → ℕ → Change Key Value → Images → List ℕ → List Action
writes says n c old [] = []
writes says n c old (p ∷ ps) = stores p (encode_image p n (make (keyed says) empty_key c p (old p))) ∷ writes says n c old ps

-- the record, with its pages' newest positions, and then its pages
unfoldable pub changing : Says → World → Change Key Value → Images → Plan ℕ
changing says w c old = record {
  actions = adds (changed_pages c) (encode_rec (next_position w) (linked_by (newest w.index) c)) ∷ writes says (next_position w) c old (changed_pages c);
  answer = Ok (next_position w);
}

-- a page that is not born yet
unfoldable pub paging : World → Plan ℕ
paging w = cond (nat_lt (born w) (usable w)) (ends (Ok (born w))) (ends (Err NoPage))

-- room in the log for so many records
unfoldable pub rooming : World → ℕ → Plan ℕ
rooming w need =
    cond w.journal.on (cond (nat_le (length w.journal.records + need) w.journal.capacity) (ends (Ok need)) (ends (Err LogFull)))
    (ends (Err PowerFailed))

-- one change that needs no page
abbrev pub roomed : Says → Change Key Value → Images → ℕ → World → Plan ℕ
roomed says c old n w = changing says w c old

unfoldable pub one_change : Says → World → Change Key Value → Images → Plan ℕ
one_change says w c old = after w (rooming w 1) (roomed says c old)

-- create: the index is made anew, and page 0 is formatted
abbrev pub formatted : Says → ℕ → World → Plan ℕ
formatted says n w = changing says w Format (λ _. blank (keyed says) empty_key)

unfoldable pub formatting : Says → World → Plan ℕ
formatting says w = after w (record { actions = indexes [] ∷ []; answer = Ok 0 }) (formatted says)

-- put: into the leaf if the entry fits; otherwise the leaf p, whose image is x, gives its entries from d on to page o, and the entry goes
-- into the one that its key belongs to
abbrev pub half_of : Says → Key → Key → ℕ → ℕ → ℕ
half_of says k d p o = cond (is_less (keyed says k d)) p o

abbrev pub put_in_half : Says → Key → Value → Key → ℕ → ℕ → Image Key Value → ℕ → World → Plan ℕ
put_in_half says k v d p o x n w =
    changing says w (Put (half_of says k d p o) k v) (λ _. make (keyed says) empty_key (Foster p o d) (half_of says k d p o) x)

abbrev pub divide_roomed : Says → Key → Value → Key → ℕ → ℕ → Image Key Value → ℕ → World → Plan ℕ
divide_roomed says k v d p o x n w = after w (changing says w (Foster p o d) (λ _. x)) (put_in_half says k v d p o x)

abbrev pub divide_paged : Says → Key → Value → Key → ℕ → Image Key Value → ℕ → World → Plan ℕ
divide_paged says k v d p x o w = after w (rooming w 2) (divide_roomed says k v d p o x)

-- a leaf that lacks room has a key that divides it, since no entry costs more than 84 of its 436
abbrev pub divided_put : Says → Key → Value → Visit Key Value → World → Option Key → Plan ℕ
divided_put says k v l w None = one_change says w (Put l.page k v) (λ _. l.image)
divided_put says k v l w (Some d) = after w (paging w) (divide_paged says k v d l.page l.image)

unfoldable pub putting : Says → Key → Value → Route → World → Plan ℕ
putting says k v r w =
    let fits = one_change says w (Put r.leaf.page k v) (λ _. r.leaf.image) in
    let divides = divided_put says k v r.leaf w (divider pair_cost r.leaf.image.pairs) in
    cond (nat_le (total pair_cost (set (keyed says) k v r.leaf.image.pairs)) 436) fits divides

-- remove
abbrev pub remove_found : Says → Key → Visit Key Value → World → Option Value → Plan ℕ
remove_found says k l w None = ends (Err Absent)
remove_found says k l w (Some v) = one_change says w (Remove l.page k) (λ _. l.image)

unfoldable pub removing : Says → Key → Route → World → Plan ℕ
removing says k r w = remove_found says k r.leaf w (find (keyed says) k r.leaf.image.pairs)

-- tend: a step of upkeep
pub record Step : Type 0 where
  pub change : Change Key Value
  pub old : Images
  pub told : Tended

-- branch b has no room for its child's foster child: it is split
abbrev pub split_at : ℕ → Visit Key Value → Option Key → Option Step
split_at o b None = None
split_at o b (Some d) = Some (record { change = Foster b.page o d; old = λ _. b.image; told = Split })

-- its child c has the foster child f: it is adopted if its entry fits
abbrev pub adopt_at : Says → ℕ → Visit Key Value → Visit Key Value → Key × ℕ → Option Step
adopt_at says o b c f =
    let adopt = Some (record { change = Adopt b.page c.page f.0 f.1; old = λ q. cond (q == c.page) c.image b.image; told = Adopted }) in
    let split = split_at o b (divider kid_cost b.image.frame.kids) in
    cond (nat_le (total kid_cost (set (keyed says) f.0 f.1 b.image.frame.kids)) 436) adopt split

-- the first page behind b that has a foster child is b's child, since the way goes to a foster child only from a page that has one
abbrev pub step_or : Says → ℕ → Visit Key Value → Visit Key Value → Option Step → Option (Key × ℕ) → Option Step
step_or says o b c below None = below
step_or says o b c below (Some f) = adopt_at says o b c f

abbrev pub steps_below : Says → ℕ → Visit Key Value → List (Visit Key Value) → Visit Key Value → Option Step
steps_below says o b [] l = step_or says o b l None l.image.frame.foster
steps_below says o b (c ∷ vs) l = step_or says o b c (steps_below says o c vs l) c.image.frame.foster

abbrev pub root_step : ℕ → Visit Key Value → Option Step → Option (Key × ℕ) → Option Step
root_step o r below None = below
root_step o r below (Some f) = Some (record { change = Grow o; old = λ _. r.image; told = Grown })

-- the first step due on a way: the root grows if it has a foster child, else the first branch whose child has one
abbrev pub step_from : Says → ℕ → List (Visit Key Value) → Visit Key Value → Option Step
step_from says o [] l = root_step o l None l.image.frame.foster
step_from says o (r ∷ vs) l = root_step o r (steps_below says o r vs l) r.image.frame.foster

-- a birth needs a page
abbrev pub paged_for : Change Key Value → World → Plan ℕ
paged_for Format w = ends (Ok 0)
paged_for (Put p k v) w = ends (Ok 0)
paged_for (Remove p k) w = ends (Ok 0)
paged_for (Foster p o d) w = paging w
paged_for (Adopt p o k c) w = ends (Ok 0)
paged_for (Grow o) w = paging w

abbrev pub step_done : Tended → ℕ → World → Plan Tended
step_done t n w = ends (Ok t)

abbrev pub step_paged : Says → Step → ℕ → World → Plan Tended
step_paged says s n w = after w (one_change says w s.change s.old) (step_done s.told)

abbrev pub step_taken : Says → World → Option Step → Plan Tended
step_taken says w None = ends (Ok Untended)
step_taken says w (Some s) = after w (paged_for s.change w) (step_paged says s)

unfoldable pub tending : Says → Route → World → Plan Tended
tending says r w = step_taken says w (step_from says (born w) r.above r.leaf)
