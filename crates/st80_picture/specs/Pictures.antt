-- Pictures of one bit a pixel: rows of whole bytes.
use Rattle.std.specs.Prelude.{◌≡◌, ℕ, ◌+◌, ◌-◌, ◌*◌, ◌/◌, ◌%◌, ◌^◌, ◌<◌, ◌==◌, ◌&&◌, ◌++◌, nat_lt, Bool, List, length, take, drop, slice_index, codes, decimal}
use Rattle.std.specs.Int.{from_bool}

-- the bytes of a row
abbrev pub row_bytes : ℕ → ℕ
row_bytes width = (width + 7) / 8

-- the bytes of row y, of rows of so many bytes
abbrev pub row : List ℕ → ℕ → ℕ → List ℕ
row rows stride y = take stride (drop (y * stride) rows)

-- the picture as a binary PBM
unfoldable pub pbm : ℕ → ℕ → List ℕ → List ℕ
pbm width height rows = codes "P4\n" ++ decimal width ++ codes " " ++ decimal height ++ codes "\n" ++ rows

-- ---- pixels

-- bit i of a byte, from the highest, is 1
abbrev pub has_bit : ℕ → ℕ → Bool
has_bit byte i = (byte / 2 ^ (7 - i)) % 2 == 1

-- whether the pixel in column x of row y is black; one outside isn't
abbrev pub black_in : ℕ → ℕ → List ℕ → ℕ → ℕ → Bool
black_in width height rows x y = nat_lt x width && (nat_lt y height && has_bit (slice_index rows (y * row_bytes width + x / 8)) (x % 8))

-- the first bits of so many in a number, from the highest, are these
abbrev pub HasBits : ℕ → (ℕ → Bool) → ℕ → Type 0
HasBits number is n = (i : ℕ) → i < n → (number / 2 ^ (n - 1 - i)) % 2 ≡ from_bool (is i)

-- the bytes of rows of so many bytes have these pixels
abbrev pub HasPixels : List ℕ → ℕ → (ℕ → ℕ → Bool) → Type 0
HasPixels rows stride is = (j : ℕ) → j < length rows → HasBits (slice_index rows j) (λ i. is (8 * (j % stride) + i) (j / stride)) 8

-- the pixels of a picture that is so many times as large
abbrev pub larger_of : ℕ → ℕ → List ℕ → ℕ → ℕ → ℕ → Bool
larger_of width height rows times x y = black_in width height rows (x / times) (y / times)
