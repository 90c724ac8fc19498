-- Lists that are joined part by part.
use Rattle.std.proofs.Common.{◌≡◌, ℕ, ◌+◌, ◌-◌, ◌/◌, List, [], ◌∷◌, ◌++◌, map, length, codes, append_assoc, arith, refl, ◌∙◌, ap, ap₂}
use Rattle.std.specs.List.{concat, range_with_len}
use Rattle.std.specs.Int.{to_be_bytes, to_le_bytes, w16, w32}
use Rattle.std.proofs.lemmas.List.{append-nil}
use Rattle.std.proofs.lemmas.List.Folds.{concat-append}
use Rattle.std.proofs.lemmas.List.FromFn.{map-range_with_len_more}
use Rattle.st80_picture.specs.Sums.{crc32, adler32}
use Rattle.st80_picture.specs.Pictures.{row_bytes, row}
use Rattle.st80_picture.specs.Png.{stored, block, chunk, zlib, scanline, scanlines, head, signature, png}

-- one more part behind those that there are
pub part_more : (f : ℕ → List ℕ) (front : List ℕ) (k : ℕ) → (front ++ concat (map f (range_with_len 0 k))) ++ f k ≡ front ++ concat (map f (range_with_len 0 (k + 1)))
part_more f front k =
    rw (map-range_with_len_more f 0 k k (omega arith), concat-append (map f (range_with_len 0 k)) (f k ∷ []), append-nil (f k)) (append_assoc front (concat (map f (range_with_len 0 k))) (f k))

pub stored_put : (last : ℕ) (bytes : List ℕ) (f f₁ f₂ f₃ f₄ a b : List ℕ) → f₁ ≡ f ++ last ∷ [] → f₂ ≡ f₁ ++ a → a ≡ to_le_bytes w16 (length bytes) → f₃ ≡ f₂ ++ b → b ≡ to_le_bytes w16 (65535 - length bytes) → f₄ ≡ f₃ ++ bytes → f₄ ≡ f ++ stored last bytes
unfolding stored
stored_put last bytes f f₁ f₂ f₃ f₄ a b e₁ e₂ ea e₃ eb e₄ =
    let A = to_le_bytes w16 (length bytes) in
    let B = to_le_bytes w16 (65535 - length bytes) in
    e₄
    ∙ ap (λ s. s ++ bytes) (e₃ ∙ ap₂ (λ (s t : List ℕ). s ++ t) (e₂ ∙ ap₂ (λ (s t : List ℕ). s ++ t) e₁ ea) eb)
    ∙ simp append_assoc

pub chunk_put : (kind content f f₁ f₂ f₃ size body checked sum : List ℕ) (n : ℕ) → f₁ ≡ f ++ size → size ≡ to_be_bytes w32 (length content) → f₂ ≡ f₁ ++ body → body ≡ kind ++ content → f₃ ≡ f₂ ++ sum → sum ≡ to_be_bytes w32 n → n ≡ crc32 checked → checked ≡ kind ++ content → f₃ ≡ f ++ chunk kind content
unfolding chunk
chunk_put kind content f f₁ f₂ f₃ size body checked sum n e₁ es e₂ eb e₃ eu en ec =
    e₃
    ∙ ap₂ (λ (s t : List ℕ). s ++ t) (e₂ ∙ ap₂ (λ (s t : List ℕ). s ++ t) (e₁ ∙ ap (λ s. f ++ s) es) eb) (eu ∙ ap (λ n. to_be_bytes w32 n) (en ∙ ap crc32 ec))
    ∙ simp append_assoc

pub zlib_done : (bytes stream done start sum : List ℕ) (k : ℕ) → start ≡ 0x78 ∷ 0x01 ∷ [] → stream ≡ start ++ concat (map (block bytes) (range_with_len 0 k)) → k ≡ length bytes / 65535 + 1 → done ≡ stream ++ sum → sum ≡ to_be_bytes w32 (adler32 bytes) → done ≡ zlib bytes
unfolding zlib
zlib_done bytes stream done start sum k es et ek ed eu =
    ed ∙ ap₂ (λ (s t : List ℕ). s ++ t) (et ∙ ap₂ (λ (s : List ℕ) (n : ℕ). s ++ concat (map (block bytes) (range_with_len 0 n))) es ek) eu

pub scanline_put : (rows : List ℕ) (stride y : ℕ) (lines l₁ l₂ r : List ℕ) → l₁ ≡ lines ++ 0 ∷ [] → l₂ ≡ l₁ ++ map (λ byte. 255 - byte) r → r ≡ row rows stride y → l₂ ≡ lines ++ scanline rows stride y
unfolding scanline
scanline_put rows stride y lines l₁ l₂ r e₁ e₂ er =
    e₂ ∙ ap₂ (λ (s t : List ℕ). s ++ map (λ byte. 255 - byte) t) e₁ er ∙ append_assoc lines (0 ∷ []) (map (λ byte. 255 - byte) (row rows stride y))

pub scanlines_done : (width height y : ℕ) (rows lines : List ℕ) → lines ≡ concat (map (scanline rows (row_bytes width)) (range_with_len 0 y)) → y ≡ height → lines ≡ scanlines width height rows
unfolding scanlines
scanlines_done width height y rows lines e ey = e ∙ ap (λ n. concat (map (scanline rows (row_bytes width)) (range_with_len 0 n))) ey

pub head_length : (width height : ℕ) → length (head width height) ≡ 13
unfolding head
head_length width height = refl

pub png_done : (width height : ℕ) (rows f₀ f₁ f₂ f₃ top content lines : List ℕ) → f₀ ≡ signature → f₁ ≡ f₀ ++ chunk (codes "IHDR") top → top ≡ head width height → f₂ ≡ f₁ ++ chunk (codes "IDAT") content → content ≡ zlib lines → lines ≡ scanlines width height rows → f₃ ≡ f₂ ++ chunk (codes "IEND") [] → f₃ ≡ png width height rows
unfolding png
png_done width height rows f₀ f₁ f₂ f₃ top content lines e₀ e₁ et e₂ ec el e₃ =
    e₃
    ∙ ap (λ s. s ++ chunk (codes "IEND") [])
    (e₂ ∙ ap₂ (λ (s c : List ℕ). s ++ chunk (codes "IDAT") c) (e₁ ∙ ap₂ (λ (s t : List ℕ). s ++ chunk (codes "IHDR") t) e₀ et) (ec ∙ ap zlib el))
