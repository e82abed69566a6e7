-- The image that a header and a filled page make.
use Rattle.std.proofs.Common.{◌≡◌, ℕ, ◌+◌, ◌-◌, ◌*◌, ◌≤◌, List, [], ◌++◌, length, take, drop, replicate, refl, ap, ◌∙◌, ap₂}
use Rattle.page.specs.Content.{Entry, costs}
use Rattle.page.specs.Image.{encode_page, page_body, header, slots, places, heap}
use Rattle.seal.specs.Seal.{sealed}
use Rattle.page_build.specs.declared.header.Header.{Header}
use Rattle.page_build.specs.Told.{head_of, content_of}
use Rattle.page_build.specs.Written.{heap_start, written}
use Rattle.page_build.proofs.Filling.{under-head}

head-is : (h : Header) (es : List Entry) (start : ℕ) → head_of h (length es) start ≡ header (content_of h es) start
unfolding head_of header
head-is h es start = refl

pub built : (h : Header) (es : List Entry) (count start : ℕ) (top out block : List ℕ) → length top ≡ 72 → costs es ≤ 436
    → count ≡ length es → start ≡ heap_start es → top ≡ head_of h count start
    → take (0 + length top) out ≡ take 0 (written es) ++ top → drop (0 + length top) out ≡ drop (0 + length top) (written es)
    → block ≡ sealed (take 508 out) → block ≡ encode_page (content_of h es)
unfolding encode_page page_body
built h es count start top out block l r n s t front back e =
    let is : top ≡ header (content_of h es) (heap_start es) =
    t ∙ ap₂ (head_of h) n s ∙ head-is h es (heap_start es) in
    e ∙ ap sealed (under-head top es out l r front back ∙ ap (λ (x : List ℕ). x ++ (slots (places 508 es) ++ (replicate (heap_start es - (72 + 2 * length es)) 0 ++ heap es []))) is)
