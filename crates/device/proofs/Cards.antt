-- What a card's calls come to.
use Rattle.std.proofs.Common.{◌≡◌, ℕ, ◌*◌, ◌/◌, ◌<◌, ◌≤◌, true, false, ltb, List, map, Ok, length, set, refl, ap, ◌∙◌, div-mul-le_self, arith}
use borrow.Rule.Slice.PartMut.{put_mid}
use Rattle.std.proofs.lemmas.List.{length-map, map-set}
use Rattle.std.proofs.lemmas.Bool.{lt-ltb, le-ltb}
use Rattle.device.specs.Disk.{Page, holds}
use Rattle.std.specs.Simd.{first_chunks}
use Rattle.device.specs.Card.{card_disk}
use Rattle.device.specs.Writes.{Wrote, lasts}
use Rattle.device.proofs.Parts.{length-parts, part-put, length-put}

pub card_count : (bs : List ℕ) → length (card_disk bs).pages ≡ length bs / 512
card_count bs = length-map (first_chunks 512 (length bs / 512) bs) holds ∙ length-parts 512 (length bs / 512) bs

pub nothing_written : (bs ys : List ℕ) (p : ℕ) → length bs / 512 ≤ p → Wrote (card_disk bs) p ys (Ok tt) (card_disk bs)
nothing_written bs ys p far =
    let beyond : ltb p (length (card_disk bs).pages) ≡ false = le-ltb p (length (card_disk bs).pages) (omega (arith, card_count bs)) in
    record { fate = lasts; leaves = rw beyond; answers = refl }

pub page-written : (bs ys : List ℕ) (p k : ℕ) → p < length bs / 512 → length ys ≡ 512 → k ≡ 512 → Wrote (card_disk bs) p ys (Ok tt) (card_disk (put_mid (p * 512) k bs ys))
page-written bs ys p k near e is =
    let n : ℕ = length bs / 512 in
    let cs : List ℕ = put_mid (p * 512) 512 bs ys in
    let whole : n * 512 ≤ length bs = div-mul-le_self (length bs) 512 in
    let same : length cs ≡ length bs = length-put (p * 512) 512 bs ys (omega arith) e in
    let row : first_chunks 512 (length cs / 512) cs ≡ set (first_chunks 512 n bs) p ys = ap (λ (j : ℕ). first_chunks 512 (j / 512) cs) same ∙ part-put 512 n p bs ys near whole e in
    let pages : (card_disk cs).pages ≡ set (card_disk bs).pages p (holds ys) = ap (map holds) row ∙ map-set holds (first_chunks 512 n bs) p ys in
    let within : ltb p (length (card_disk bs).pages) ≡ true = lt-ltb p (length (card_disk bs).pages) (omega (arith, card_count bs)) in
    record {
      fate = lasts;
      leaves = ap (λ (j : ℕ). card_disk (put_mid (p * 512) j bs ys)) is ∙ ap (λ (ps : List Page). record { pages = ps; on = true }) pages ∙ rw within;
      answers = refl;
    }
