-- A picture as a PNG file (the PNG standard, and for its data RFC 1950 and 1951): greyscale of one bit, whole rows without a filter, and data that
-- isn't compressed.
use Rattle.std.specs.Prelude.{ℕ, ◌+◌, ◌-◌, ◌*◌, ◌/◌, ◌==◌, ◌++◌, List, [], ◌∷◌, length, map, codes, take, drop}
use Rattle.std.specs.List.{concat, range_with_len}
use Rattle.std.specs.Int.{from_bool, to_be_bytes, to_le_bytes, w16, w32}
use Rattle.st80_picture.specs.Sums.{crc32, adler32}
use Rattle.st80_picture.specs.Pictures.{row_bytes, row}

-- a chunk: the length of its content, its kind, its content, and the check of both
unfoldable pub chunk : List ℕ → List ℕ → List ℕ
chunk kind content = to_be_bytes w32 (length content) ++ (kind ++ content) ++ to_be_bytes w32 (crc32 (kind ++ content))

-- a block that is stored: whether it is the last, its length, the complement of that, and its bytes
unfoldable pub stored : ℕ → List ℕ → List ℕ
stored last bytes = (last ∷ []) ++ to_le_bytes w16 (length bytes) ++ to_le_bytes w16 (65535 - length bytes) ++ bytes

-- block number k of these bytes, of which all but the last one are full
unfoldable pub block : List ℕ → ℕ → List ℕ
block bytes k = stored (from_bool (k == length bytes / 65535)) (take 65535 (drop (k * 65535) bytes))

-- a zlib stream of stored blocks
unfoldable pub zlib : List ℕ → List ℕ
zlib bytes = (0x78 ∷ 0x01 ∷ []) ++ concat (map (block bytes) (range_with_len 0 (length bytes / 65535 + 1))) ++ to_be_bytes w32 (adler32 bytes)

-- A row of a PNG begins with its filter, which is none. There 1 is white.
unfoldable pub scanline : List ℕ → ℕ → ℕ → List ℕ
scanline rows stride y = (0 ∷ []) ++ map (λ byte. 255 - byte) (row rows stride y)

unfoldable pub scanlines : ℕ → ℕ → List ℕ → List ℕ
scanlines width height rows = concat (map (scanline rows (row_bytes width)) (range_with_len 0 height))

-- width, height, one bit, greyscale, and the three methods that there are
unfoldable pub head : ℕ → ℕ → List ℕ
head width height = to_be_bytes w32 width ++ to_be_bytes w32 height ++ (1 ∷ 0 ∷ 0 ∷ 0 ∷ 0 ∷ [])

abbrev pub signature : List ℕ
signature = 137 ∷ 80 ∷ 78 ∷ 71 ∷ 13 ∷ 10 ∷ 26 ∷ 10 ∷ []

unfoldable pub png : ℕ → ℕ → List ℕ → List ℕ
png width height rows = signature ++ chunk (codes "IHDR") (head width height) ++ chunk (codes "IDAT") (zlib (scanlines width height rows)) ++ chunk (codes "IEND") []
