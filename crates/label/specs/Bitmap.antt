-- The bitmap of a label that is printed at eight dots to the millimetre, one bit a dot.
use Rattle.std.specs.Prelude.{decimal, List, [], ◌∷◌, ◌++◌, ◌≡◌, ℕ, ◌*◌, ◌/◌, ◌%◌}

-- 8 * width by 8 * height dots, eight to the byte
abbrev pub bitmap_bytes : ℕ → ℕ → ℕ
bitmap_bytes width height = 8 * width * height

-- numbers of 16 and of 64 bits, the lowest byte first
abbrev pub le2 : ℕ → List ℕ
le2 n = n % 256 ∷ n / 256 % 256 ∷ []

abbrev pub le8 : ℕ → List ℕ
le8 n =
    n % 256 ∷ n / 256 % 256 ∷ n / 65536 % 256 ∷ n / 16777216 % 256
    ∷ n / 4294967296 % 256 ∷ n / 1099511627776 % 256 ∷ n / 281474976710656 % 256 ∷ n / 72057594037927936 % 256 ∷ []

-- a line of the label table: width and height in millimetres, and the bitmap's bytes
abbrev pub line : ℕ → ℕ → List ℕ
line width height = le2 width ++ (le2 height ++ le8 (bitmap_bytes width height))

-- "50-30"
abbrev pub size_text : ℕ → ℕ → List ℕ
size_text width height = decimal width ++ (45 ∷ decimal height)

-- three sizes with their bytes
abbrev pub SizesInUse : Type 0
SizesInUse = (bitmap_bytes 50 30 ≡ 12000) × (bitmap_bytes 100 50 ≡ 40000) × (bitmap_bytes 100 150 ≡ 120000)
