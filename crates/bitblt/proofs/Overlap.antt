-- Rows in an order in which none reads words that were written, also where source and destination are one object.
use Rattle.std.proofs.Common.{◌≡◌, ◌≢◌, ℕ, zero, suc, ◌+◌, ◌-◌, ◌*◌, ◌/◌, ◌%◌, ◌<◌, ◌≤◌, List, get_or, length, refl, sym, ap, subst, ◌∙◌, arith, ⊎_elim, ◌⊎◌, ◌||◌, cond, Bool, true, false, ◌&&◌, ltb, Option, Some}
use Rattle.std.specs.Prelude.{is_some}
use Rattle.std.proofs.lemmas.Bool.{cases_lt, cases_eq, ltb-true, ltb-false}
use Rattle.std.proofs.lemmas.Nat.{div-mul-add, mod-mul-add}
use Rattle.std.proofs.lemmas.List.FromFn.{fill_by_all}
use Rattle.std.proofs.Math.Nat.{mul-le-mul_left}
use Rattle.blue_model.specs.Forms.{left_bit, bit, number_of}
use Rattle.bit_rows.specs.Rows.{within}
use Rattle.bit_rows.proofs.RowLemmas.{within-inside, within-below, within-above, bit-word, bit-at}
use Rattle.bitblt.specs.declared.transfer.Transfer.{Transfer}
use Rattle.blue_model.specs.BitBlt.{halftone_pixel}
use Rattle.long_names.specs.Kept.{any_below}
use Rattle.bitblt.specs.Transfers.{Fits, HasSource, pixel_in, source_pixel, is_changed, is_changed_bit, pixel_after, bit_after, word_after, words_after, row_words, run_start, run_length, source_start, reads_before, AreDone, IsShared}
use Rattle.bitblt.proofs.Runs.{bit_after-place, within-true, same_change, row_words-word, row_words-length}

pub number_of-same : (f g : ℕ → ℕ) (k : ℕ) → ((j : ℕ) → j < k → f j ≡ g j) → number_of f k ≡ number_of g k
number_of-same f g zero h = refl
number_of-same f g (suc k) h =
    let low : number_of f k ≡ number_of g k = number_of-same f g k (λ j l. h j (omega arith)) in
    let last : f k ≡ g k = h k (omega arith) in
    omega (arith, low, last)

-- a word's bits by pixels
word-pixel : (t : Transfer) (source : Option (List ℕ)) (halftone words : List ℕ) (k j : ℕ) → 0 < t.stride → j < 16
    → bit_after t source halftone words (16 * k + j) ≡ pixel_after t source halftone words (16 * (k % t.stride) + j) (k / t.stride)
word-pixel t source halftone words k j pos h =
    let low : k % t.stride < t.stride = omega arith in
    let x : 16 * (k % t.stride) + j < 16 * t.stride = omega arith in
    let whole : t.stride * (k / t.stride) + k % t.stride ≡ k = omega arith in
    let place : 16 * k + j ≡ k / t.stride * (16 * t.stride) + (16 * (k % t.stride) + j) = omega (arith, whole) in
    ap (bit_after t source halftone words) place ∙ bit_after-place t source halftone words (16 * (k % t.stride) + j) (k / t.stride) x

-- the pixel of a word's bit
pixel-word : (stride : ℕ) (words : List ℕ) (k j : ℕ) → 0 < stride → j < 16 → pixel_in stride words (16 * (k % stride) + j) (k / stride) ≡ left_bit (get_or words k 0) j
pixel-word stride words k j pos h =
    let whole : stride * (k / stride) + k % stride ≡ k = omega arith in
    let place : 16 * stride * (k / stride) + (16 * (k % stride) + j) ≡ 16 * k + j = omega (arith, whole) in
    ap (bit words) place ∙ bit-word words k j h

-- none below a number, and tests that agree there
pub none_below : (n : ℕ) (f : ℕ → Bool) → ((j : ℕ) → j < n → f j ≡ false) → any_below n f ≡ false
none_below zero f h = refl
none_below (suc n) f h = ap (λ b. b || any_below n f) (h n (omega arith)) ∙ none_below n f (λ j l. h j (omega arith))

pub same_below : (n : ℕ) (f g : ℕ → Bool) → ((j : ℕ) → j < n → f j ≡ g j) → any_below n f ≡ any_below n g
same_below zero f g h = refl
same_below (suc n) f g h = ap (λ b. b || any_below n f) (h n (omega arith)) ∙ ap (λ b. g n || b) (same_below n f g (λ j l. h j (omega arith)))

pub either : (b : Bool) (x y u v : ℕ) → x ≡ y → u ≡ v → cond b x u ≡ cond b y v
either b x y u v e f = rw (e, f) refl

-- a word by its pixels, and by what it is where none of them is changed
pub word_after-same : (t : Transfer) (s s' : Option (List ℕ)) (halftone d d' : List ℕ) (k : ℕ) → 0 < t.stride
    → ((j : ℕ) → j < 16 → pixel_after t s halftone d (16 * (k % t.stride) + j) (k / t.stride) ≡ pixel_after t s' halftone d' (16 * (k % t.stride) + j) (k / t.stride))
    → get_or d k 0 ≡ get_or d' k 0
    → word_after t s halftone d k ≡ word_after t s' halftone d' k
unfolding word_after
word_after-same t s s' halftone d d' k pos h e =
    either (any_below 16 (λ j. is_changed_bit t (16 * k + j)))
    (number_of (λ j. bit_after t s halftone d (16 * k + j)) 16) (number_of (λ j. bit_after t s' halftone d' (16 * k + j)) 16) (get_or d k 0) (get_or d' k 0)
    (number_of-same (λ j. bit_after t s halftone d (16 * k + j)) (λ j. bit_after t s' halftone d' (16 * k + j)) 16
    (λ j l. word-pixel t s halftone d k j pos l ∙ h j l ∙ sym (word-pixel t s' halftone d' k j pos l)))
    e

-- the pixel of a word's bit is one that is changed
changed-bit : (t : Transfer) (k j : ℕ) → 0 < t.stride → j < 16 → is_changed_bit t (16 * k + j) ≡ is_changed t (16 * (k % t.stride) + j) (k / t.stride)
changed-bit t k j pos h =
    let low : k % t.stride < t.stride = omega arith in
    let x : 16 * (k % t.stride) + j < 16 * t.stride = omega arith in
    let whole : t.stride * (k / t.stride) + k % t.stride ≡ k = omega arith in
    let place : 16 * k + j ≡ k / t.stride * (16 * t.stride) + (16 * (k % t.stride) + j) = omega (arith, whole) in
    ap (is_changed_bit t) place
    ∙ (rw (mod-mul-add (k / t.stride) (16 * t.stride) (16 * (k % t.stride) + j) x, div-mul-add (k / t.stride) (16 * t.stride) (16 * (k % t.stride) + j) x) refl)

-- a word with no changed pixel stays
pub word_after-kept : (t : Transfer) (s : Option (List ℕ)) (halftone d : List ℕ) (k : ℕ) → 0 < t.stride
    → ((j : ℕ) → j < 16 → is_changed t (16 * (k % t.stride) + j) (k / t.stride) ≡ false)
    → get_or d k 0 ≡ word_after t s halftone d k
unfolding word_after
word_after-kept t s halftone d k pos h =
    sym (ap (λ b. cond b (number_of (λ j. bit_after t s halftone d (16 * k + j)) 16) (get_or d k 0))
    (none_below 16 (λ j. is_changed_bit t (16 * k + j)) (λ j l. changed-bit t k j pos l ∙ h j l)))

-- a word outside the run of its row, or in a row outside the area, has no changed pixel
and-false : (a b : Bool) → b ≡ false → (a && b) ≡ false
and-false a b e = rw e (elim a as (λ v. (v && false) ≡ false) [ true ↦ refl | false ↦ refl ])

false-and : (a b : Bool) → a ≡ false → (a && b) ≡ false
false-and a b e = rw e refl

pub first-true : (a b : Bool) → (a && b) ≡ true → a ≡ true
first-true true b h = refl
first-true false b h = h

pub changed-outside : (t : Transfer) (k j : ℕ) → 0 < t.stride → t.left < t.right → j < 16
    → within (run_start t (k / t.stride)) (run_start t (k / t.stride) + run_length t) k ≡ false
    → is_changed t (16 * (k % t.stride) + j) (k / t.stride) ≡ false
changed-outside t k j pos columns h out =
    let y = k / t.stride in
    let x = 16 * (k % t.stride) + j in
    let whole : t.stride * (k / t.stride) + k % t.stride ≡ k = omega arith in
    ⊎_elim
    (λ (below : x < t.left). false-and (within t.left t.right x) (within t.top t.bottom y) (within-below t.left t.right x below))
    (λ (from : t.left ≤ x).
    ⊎_elim
    (λ (inside : x < t.right).
    let low : run_start t y ≤ k = omega (arith, whole) in
    let high : k < run_start t y + run_length t = omega (arith, whole) in
    let e : true ≡ false = sym (within-inside (run_start t y) (run_start t y + run_length t) k low high) ∙ out in
    absurd (cc))
    (λ (above : t.right ≤ x). false-and (within t.left t.right x) (within t.top t.bottom y) (within-above t.left t.right x above))
    (cases_lt x t.right))
    (cases_lt x t.left)

pub changed-elsewhere : (t : Transfer) (x y : ℕ) → within t.top t.bottom y ≡ false → is_changed t x y ≡ false
changed-elsewhere t x y h = and-false (within t.left t.right x) (within t.top t.bottom y) h

-- a run lies in its row
pub run-in_row : (t : Transfer) (y k : ℕ) → 0 < t.stride → t.left < t.right → t.right ≤ 16 * t.stride
    → within (run_start t y) (run_start t y + run_length t) k ≡ true → k / t.stride ≡ y
run-in_row t y k pos columns wide h =
    let inside : (run_start t y ≤ k) × (k < run_start t y + run_length t) = within-true (run_start t y) (run_start t y + run_length t) k h in
    let low = inside.0 in
    let high = inside.1 in
    let place : y * t.stride + (k - t.stride * y) ≡ k = omega (arith, low) in
    let short : k - t.stride * y < t.stride = omega (arith, low, high) in
    ap (λ n. n / t.stride) (sym place) ∙ div-mul-add y t.stride (k - t.stride * y) short

-- The rows that are done may come before this one: each of them lies below and is written behind what it reads, or lies above,
-- and this row reads behind what it writes.
abbrev pub InOrder : Transfer → (ℕ → Bool) → ℕ → Type 0
InOrder t done y = (r : ℕ) → done r ≡ true → ((y < r) × (reads_before t r ≡ true)) ⊎ ((r < y) × (reads_before t y ≡ false))

reads_before-some : (t : Transfer) (r : ℕ) → t.has_source ≡ true → reads_before t r ≡ ltb (source_start t r) (run_start t r)
unfolding reads_before
reads_before-some t r e = rw e refl

-- the source word of a pixel, by its number
abbrev source_place : Transfer → ℕ → ℕ → ℕ
source_place t x y = 16 * t.source_stride * (y - t.top + t.source_top) + (x - t.left + t.source_left)

-- a row below whose source begins before its run: this row's source ends before that
below-run : (t : Transfer) (x y r : ℕ) → HasSource t → t.left ≤ x → x < t.right → t.top ≤ y → y < r
    → source_start t r < run_start t r → source_place t x y / 16 < run_start t r
below-run t x y r s hl hr top order first =
    let wide = s.wide in
    let more : y - t.top + t.source_top + 1 ≤ r - t.top + t.source_top = omega arith in
    let grows : t.source_stride * (y - t.top + t.source_top + 1) ≤ t.source_stride * (r - t.top + t.source_top) = mul-le-mul_left t.source_stride more in
    omega (arith, grows, wide, first)

-- a row above: its run ends before this row's run begins, and so before this row's source
above-run : (t : Transfer) (x y r : ℕ) → t.left < t.right → t.right ≤ 16 * t.stride → t.left ≤ x → r < y
    → run_start t y ≤ source_start t y → run_start t r + run_length t ≤ source_place t x y / 16
above-run t x y r columns wide hl order first =
    let more : r + 1 ≤ y = omega arith in
    let grows : t.stride * (r + 1) ≤ t.stride * y = mul-le-mul_left t.stride more in
    omega (arith, grows, first)

-- a source word lies in no run that was written
unwritten : (t : Transfer) (x y r : ℕ) → t.has_source ≡ true → HasSource t → t.left < t.right → t.right ≤ 16 * t.stride
    → t.left ≤ x → x < t.right → t.top ≤ y
    → ((y < r) × (reads_before t r ≡ true)) ⊎ ((r < y) × (reads_before t y ≡ false))
    → within (run_start t r) (run_start t r + run_length t) (source_place t x y / 16) ≡ false
unwritten t x y r e has columns wide hl hr top order =
    ⊎_elim
    (λ (below : (y < r) × (reads_before t r ≡ true)).
    let first : source_start t r < run_start t r = ltb-true (source_start t r) (run_start t r) (sym (reads_before-some t r e) ∙ below.1) in
    within-below (run_start t r) (run_start t r + run_length t) (source_place t x y / 16) (below-run t x y r has hl hr top below.0 first))
    (λ (above : (r < y) × (reads_before t y ≡ false)).
    let first : run_start t y ≤ source_start t y = ltb-false (source_start t y) (run_start t y) (sym (reads_before-some t y e) ∙ above.1) in
    within-above (run_start t r) (run_start t r + run_length t) (source_place t x y / 16) (above-run t x y r columns wide hl above.0 first))
    order

-- the destination's word where its row isn't done, or lies in no run
word-before : (t : Transfer) (source : Option (List ℕ)) (halftone before now : List ℕ) (done : ℕ → Bool) (k : ℕ) → AreDone t source halftone before now done
    → 0 < t.stride → t.left < t.right
    → (done (k / t.stride) ≡ true → within (run_start t (k / t.stride)) (run_start t (k / t.stride) + run_length t) k ≡ false)
    → get_or now k 0 ≡ get_or before k 0
word-before t source halftone before now done k are pos columns out =
    are.words k ∙ choose (done (k / t.stride)) refl
  where
    choose : (b : Bool) → done (k / t.stride) ≡ b → cond b (word_after t source halftone before k) (get_or before k 0) ≡ get_or before k 0
    choose true e =
        sym (word_after-kept t source halftone before k pos (λ j l. changed-outside t k j pos columns l (out e)))
    choose false e = refl

inside_some : {A : Type 0} {a b : A} → Some a ≡ Some b → a ≡ b
inside_some e = cc

-- a source pixel is that before the call
source-kept : (t : Transfer) (source : Option (List ℕ)) (halftone before now : List ℕ) (done : ℕ → Bool) (x y : ℕ)
    → t.has_source ≡ true → AreDone t source halftone before now done → Fits t → 0 < t.stride
    → t.left ≤ x → x < t.right → t.top ≤ y → InOrder t done y
    → source_pixel t (Some now) x y ≡ source_pixel t (Some before) x y
unfolding source_pixel
source-kept t source halftone before now done x y there are fit pos hl hr top order =
    let q = source_place t x y / 16 in
    bit-at now (source_place t x y)
    ∙ ap (λ w. left_bit w (source_place t x y % 16))
    (word-before t source halftone before now done q are pos fit.columns
    (λ d. unwritten t x y (q / t.stride) there (fit.source there) fit.columns fit.wide hl hr top (order (q / t.stride) d)))
    ∙ sym (bit-at before (source_place t x y))

source-same : (b : Bool) (t : Transfer) (source source_now : Option (List ℕ)) (halftone before now : List ℕ) (done : ℕ → Bool) (x y : ℕ)
    → (is_some source ≡ t.has_source) → IsShared b source before source_now now
    → AreDone t source halftone before now done → Fits t → 0 < t.stride
    → t.left ≤ x → x < t.right → t.top ≤ y → InOrder t done y
    → source_pixel t source_now x y ≡ source_pixel t source x y
source-same false t source source_now halftone before now done x y has same are fit pos hl hr top order = ap (λ s. source_pixel t s x y) same
source-same true t source source_now halftone before now done x y has same are fit pos hl hr top order =
    let there : t.has_source ≡ true = sym has ∙ ap is_some same.0 in
    ap (λ s. source_pixel t s x y) same.1
    ∙ source-kept t source halftone before now done x y there are fit pos hl hr top order
    ∙ sym (ap (λ s. source_pixel t s x y) same.0)

-- a pixel of this row is that after the call, from the words now as from those before
pixel-same : (b : Bool) (t : Transfer) (source source_now : Option (List ℕ)) (halftone before now : List ℕ) (done : ℕ → Bool) (x y : ℕ)
    → is_some source ≡ t.has_source → IsShared b source before source_now now
    → AreDone t source halftone before now done → Fits t → 0 < t.stride
    → t.top ≤ y → InOrder t done y → pixel_in t.stride now x y ≡ pixel_in t.stride before x y
    → pixel_after t source_now halftone now x y ≡ pixel_after t source halftone before x y
unfolding pixel_after
pixel-same b t source source_now halftone before now done x y has shared are fit pos top order dest =
    same_change t.rule (is_changed t x y) (is_changed t x y)
    (source_pixel t source_now x y) (source_pixel t source x y)
    (pixel_in t.stride now x y) (pixel_in t.stride before x y)
    (halftone_pixel halftone x y) (halftone_pixel halftone x y) refl
    (λ e.
    let inside : (t.left ≤ x) × (x < t.right) = within-true t.left t.right x (first-true (within t.left t.right x) (within t.top t.bottom y) e) in
    source-same b t source source_now halftone before now done x y has shared are fit pos inside.0 inside.1 top order)
    refl dest

-- the words of this row
in_row : (b : Bool) (t : Transfer) (source source_now : Option (List ℕ)) (halftone before now : List ℕ) (done : ℕ → Bool) (y k : ℕ)
    → is_some source ≡ t.has_source → IsShared b source before source_now now
    → AreDone t source halftone before now done → Fits t → 0 < t.stride
    → t.top ≤ y → InOrder t done y → k / t.stride ≡ y → get_or now k 0 ≡ get_or before k 0
    → (inside : Bool) → within (run_start t y) (run_start t y + run_length t) k ≡ inside
    → cond inside (word_after t source_now halftone now k) (get_or now k 0) ≡ word_after t source halftone before k
in_row b t source source_now halftone before now done y k has shared are fit pos top order here old true e =
    word_after-same t source_now source halftone now before k pos
    (λ j l.
    let above : t.top ≤ k / t.stride = omega (arith, here) in
    let ordered : InOrder t done (k / t.stride) = subst (InOrder t done) (sym here) order in
    pixel-same b t source source_now halftone before now done (16 * (k % t.stride) + j) (k / t.stride) has shared are fit pos above ordered
    (pixel-word t.stride now k j pos l ∙ ap (λ w. left_bit w j) old ∙ sym (pixel-word t.stride before k j pos l)))
    old
in_row b t source source_now halftone before now done y k has shared are fit pos top order here old false e =
    old ∙ word_after-kept t source halftone before k pos
    (λ j l. changed-outside t k j pos fit.columns l (ap (λ r. within (run_start t r) (run_start t r + run_length t) k) here ∙ e))

-- a word of another row lies outside
not_here : (t : Transfer) (y k : ℕ) → 0 < t.stride → t.left < t.right → t.right ≤ 16 * t.stride → k / t.stride ≢ y
    → (b : Bool) → within (run_start t y) (run_start t y + run_length t) k ≡ b → within (run_start t y) (run_start t y + run_length t) k ≡ false
not_here t y k pos columns wide there true e = absurd (there (run-in_row t y k pos columns wide e))
not_here t y k pos columns wide there false e = e

-- a row outside the area stays, and the others are done
last : (t : Transfer) (source : Option (List ℕ)) (halftone before : List ℕ) (k : ℕ) → 0 < t.stride
    → (b : Bool) → b ≡ within t.top t.bottom (k / t.stride)
    → cond b (word_after t source halftone before k) (get_or before k 0) ≡ word_after t source halftone before k
last t source halftone before k pos true e = refl
last t source halftone before k pos false e =
    word_after-kept t source halftone before k pos
    (λ j l. changed-elsewhere t (16 * (k % t.stride) + j) (k / t.stride) (sym e))

-- one more row is done
pub row-done : (b : Bool) (t : Transfer) (source source_now : Option (List ℕ)) (halftone before now next : List ℕ) (done more : ℕ → Bool) (y : ℕ)
    → is_some source ≡ t.has_source → IsShared b source before source_now now
    → AreDone t source halftone before now done → Fits t → run_start t y + run_length t ≤ length now
    → t.top ≤ y → y < t.bottom → InOrder t done y → done y ≡ false → more y ≡ true → ((r : ℕ) → r ≢ y → more r ≡ done r)
    → next ≡ row_words t source_now halftone now y
    → AreDone t source halftone before next more
row-done b t source source_now halftone before now next done more y has shared are fit room top below order fresh set same is =
    let pos : 0 < t.stride = omega (arith, fit.wide, fit.columns) in
    record {
      words = λ k.
          ap (λ (ws : List ℕ). get_or ws k 0) is
          ∙ row_words-word t source_now halftone now y k room
          ∙ ⊎_elim
          (λ (here : k / t.stride ≡ y).
          let undone : done (k / t.stride) ≡ false = ap done here ∙ fresh in
          let old : get_or now k 0 ≡ get_or before k 0 = are.words k ∙ ap (λ b. cond b (word_after t source halftone before k) (get_or before k 0)) undone in
          in_row b t source source_now halftone before now done y k has shared are fit pos top order here old (within (run_start t y) (run_start t y + run_length t) k) refl
          ∙ sym (ap (λ b. cond b (word_after t source halftone before k) (get_or before k 0)) (ap more here ∙ set)))
          (λ (there : k / t.stride ≢ y).
          let outside : within (run_start t y) (run_start t y + run_length t) k ≡ false = not_here t y k pos fit.columns fit.wide there (within (run_start t y) (run_start t y + run_length t) k) refl in
          ap (λ b. cond b (word_after t source_now halftone now k) (get_or now k 0)) outside
          ∙ are.words k
          ∙ sym (ap (λ b. cond b (word_after t source halftone before k) (get_or before k 0)) (same (k / t.stride) there)))
          (cases_eq (k / t.stride) y);
      length = ap (λ (ws : List ℕ). length ws) is ∙ row_words-length t source_now halftone now y ∙ are.length;
    }

-- the same rows are done
pub none-done : (t : Transfer) (source : Option (List ℕ)) (halftone before now : List ℕ) (done more : ℕ → Bool)
    → AreDone t source halftone before now done → ((r : ℕ) → more r ≡ done r) → AreDone t source halftone before now more
none-done t source halftone before now done more are same = record {
  words = λ k. are.words k ∙ sym (ap (λ b. cond b (word_after t source halftone before k) (get_or before k 0)) (same (k / t.stride)));
  length = are.length;
}

-- no row is done at the start
pub start-done : (t : Transfer) (source : Option (List ℕ)) (halftone before : List ℕ) (done : ℕ → Bool) → ((r : ℕ) → done r ≡ false) → AreDone t source halftone before before done
start-done t source halftone before done none = record {
  words = λ k. sym (ap (λ b. cond b (word_after t source halftone before k) (get_or before k 0)) (none (k / t.stride)));
  length = refl;
}

-- all rows are done at the end
pub all-done : (t : Transfer) (source : Option (List ℕ)) (halftone before now : List ℕ) (done : ℕ → Bool)
    → AreDone t source halftone before now done → Fits t
    → ((r : ℕ) → done r ≡ within t.top t.bottom r)
    → now ≡ words_after t source halftone before
unfolding words_after
all-done t source halftone before now done are fit all =
    let pos : 0 < t.stride = omega (arith, fit.wide, fit.columns) in
    fill_by_all (word_after t source halftone before) now (length before) 0 are.length
    (λ k l. are.words k ∙ last t source halftone before k pos (done (k / t.stride)) (all (k / t.stride)))
