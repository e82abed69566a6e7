use Rattle.std.proofs.Common.{◌≡◌, ℕ, ◌+◌, ◌-◌, List, [], ◌∷◌, length, get_or, sym, ap, ◌∙◌, arith}
use Rattle.page.specs.Content.{Entry, entry_at}
use Rattle.page.specs.Content.Entry.{leaf}
use Rattle.page.specs.Image.{entry_bytes, parse_page}
use Rattle.page_build.specs.Entered.{entry_in}
use Rattle.page_build.specs.Spliced.{listed, spliced}
use Rattle.page_build.proofs.Splicing.{within_back, front-is, back_is, middle-is}
use Rattle.page_build.proofs.splice.SplicedEntryRow.entry.Goals as goal

pub returns-then-i-kept : goal.returns-then-i-kept
unfolding entry_at
returns-then-i-kept c =
    c.bytes.ensures ∙ ap entry_bytes c.entry.ensures.entry
    ∙ ap entry_bytes (front-is (parse_page c.args.self.now.old.image.now).entries (listed c.args.self.now.fresh) c.args.self.now.keep c.args.self.now.resume c.count.result
    c.min-kept.result c.args.i (leaf [] []) c.count.ensures.value c.min-kept.ensures c.if-i-kept.true)

pub overflow_add-self : goal.overflow_add-self
overflow_add-self c =
    let m : length (listed c.args.self.now.fresh) ≡ 0 = ap (λ f. length (listed f)) c.in-None.is in
    let w = within_back (parse_page c.args.self.now.old.image.now).entries (listed c.args.self.now.fresh) c.args.self.now.keep c.args.self.now.resume c.count.result
    c.min-kept.result c.args.i 0 c.count.ensures.value c.min-kept.ensures m (omega (arith, c.if-i-kept.false)) c.requires in
    omega (arith, c.count.ensures.value, c.count.ensures.few)

pub entry-requires-in-None : goal.entry-requires-in-None
entry-requires-in-None c =
    let m : length (listed c.args.self.now.fresh) ≡ 0 = ap (λ f. length (listed f)) c.in-None.is in
    let w = within_back (parse_page c.args.self.now.old.image.now).entries (listed c.args.self.now.fresh) c.args.self.now.keep c.args.self.now.resume c.count.result
    c.min-kept.result c.args.i 0 c.count.ensures.value c.min-kept.ensures m (omega (arith, c.if-i-kept.false)) c.requires in
    omega arith

pub returns-in-None : goal.returns-in-None
unfolding entry_at
returns-in-None c =
    let m : length (listed c.args.self.now.fresh) ≡ 0 = ap (λ f. length (listed f)) c.in-None.is in
    let p = (parse_page c.args.self.now.old.image.now).entries in
    let b = back_is p (listed c.args.self.now.fresh) c.args.self.now.keep c.args.self.now.resume c.count.result c.min-kept.result c.args.i 0 (leaf [] [])
    c.count.ensures.value c.min-kept.ensures m (omega (arith, c.if-i-kept.false)) in
    let z : c.args.self.now.resume + (c.args.i - c.min-kept.result) ≡ c.args.self.now.resume + (c.args.i - c.min-kept.result - 0) = omega arith in
    c.bytes-in-None.ensures ∙ ap entry_bytes c.entry-in-None.ensures.entry ∙ ap (λ (j : ℕ). entry_bytes (get_or p j (leaf [] []))) z ∙ ap entry_bytes b

pub overflow_add-self-in-Some-2 : goal.overflow_add-self-in-Some-2
overflow_add-self-in-Some-2 c =
    let m : length (listed c.args.self.now.fresh) ≡ 1 = ap (λ f. length (listed f)) c.in-Some.is in
    let w = within_back (parse_page c.args.self.now.old.image.now).entries (listed c.args.self.now.fresh) c.args.self.now.keep c.args.self.now.resume c.count.result
    c.min-kept.result c.args.i 1 c.count.ensures.value c.min-kept.ensures m (grind (arith, c.if-i-kept.false, c.if-i-kept-2.false)) c.requires in
    omega (arith, c.count.ensures.value, c.count.ensures.few)

pub entry-requires-in-Some-2 : goal.entry-requires-in-Some-2
entry-requires-in-Some-2 c =
    let m : length (listed c.args.self.now.fresh) ≡ 1 = ap (λ f. length (listed f)) c.in-Some.is in
    let w = within_back (parse_page c.args.self.now.old.image.now).entries (listed c.args.self.now.fresh) c.args.self.now.keep c.args.self.now.resume c.count.result
    c.min-kept.result c.args.i 1 c.count.ensures.value c.min-kept.ensures m (grind (arith, c.if-i-kept.false, c.if-i-kept-2.false)) c.requires in
    omega arith

pub returns-in-Some : goal.returns-in-Some
returns-in-Some c =
    let p = (parse_page c.args.self.now.old.image.now).entries in
    let l : listed c.args.self.now.fresh ≡ entry_in c.in-Some.f.now ∷ [] = ap listed c.in-Some.is in
    c.bytes-in-Some.ensures
    ∙ ap entry_bytes (middle-is p (entry_in c.in-Some.f.now) c.args.self.now.keep c.args.self.now.resume c.count.result c.min-kept.result c.args.i (leaf [] [])
    c.count.ensures.value c.min-kept.ensures c.if-i-kept-2.true
    ∙ ap (λ (x : List Entry). get_or (spliced p c.args.self.now.keep x c.args.self.now.resume) c.args.i (leaf [] [])) (sym l))

pub returns-in-Some-2 : goal.returns-in-Some-2
unfolding entry_at
returns-in-Some-2 c =
    let m : length (listed c.args.self.now.fresh) ≡ 1 = ap (λ f. length (listed f)) c.in-Some.is in
    let p = (parse_page c.args.self.now.old.image.now).entries in
    c.bytes-in-Some-2.ensures ∙ ap entry_bytes c.entry-in-Some-2.ensures.entry
    ∙ ap entry_bytes (back_is p (listed c.args.self.now.fresh) c.args.self.now.keep c.args.self.now.resume c.count.result c.min-kept.result c.args.i 1 (leaf [] [])
    c.count.ensures.value c.min-kept.ensures m (grind (arith, c.if-i-kept.false, c.if-i-kept-2.false)))
