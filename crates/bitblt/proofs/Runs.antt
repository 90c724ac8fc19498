-- What a row's buffers hold, and the words of its run after it.
use Rattle.std.proofs.Common.{map, drop, ◌≡◌, ℕ, ◌+◌, ◌-◌, ◌*◌, ◌/◌, ◌%◌, ◌<◌, ◌≤◌, min, List, ◌++◌, get_or, take, replicate, length, refl, sym, ap, ◌∙◌, arith, ⊎_elim, cond, Bool, true, false, ◌&&◌, Option, None}
use Rattle.std.proofs.lemmas.Bool.{cases_lt}
use Rattle.std.proofs.Math.Nat.{mul-le-mul_left}
use Rattle.std.proofs.lemmas.List.{get_or-append_right, get_or_append_left, get_or-take, get_or-drop, get_or_past, length-take-le, get_or-replicate, length-replicate, length-append, length-take, length-drop}
use Rattle.std.proofs.lemmas.List.FromFn.{fill_by_all, get_or-map-range_with_len, length-map-range_with_len}
use Rattle.std.specs.List.{range_with_len}
use Rattle.long_names.specs.Objects.{put_run}
use Rattle.std.proofs.lemmas.Nat.{div-mul-add, mod-mul-add}
use borrow.Rule.Slice.PartMut.{put_mid, post_of}
use Rattle.blue_model.specs.Forms.{left_bit, bit, number_of}
use Rattle.blue_model.specs.BitBlt.{rule_bit}
use Rattle.bit_rows.specs.Rows.{within, row_bit, fill_bit}
use Rattle.bit_rows.proofs.BitLemmas.{left_bit-ones, left_bit-lt}
use Rattle.bit_rows.proofs.RowLemmas.{within-inside, within-below, within-above, bit-word, bit-at}
use Rattle.bit_rows.proofs.NumberLemmas.{word-from_bits}
use Rattle.long_names.specs.Kept.{any_below}
use Rattle.long_names.proofs.KeptLaws.{any_below-from}
use Rattle.bitblt.specs.declared.transfer.Transfer.{Transfer}
use Rattle.bitblt.specs.Transfers.{HasSource, pixel_in, source_pixel, is_changed, is_changed_bit, pixel_after, bit_after, word_after, row_words, skip_of, run_start, run_length}

pub put_mid-inside : (a k i : ℕ) (xs ys : List ℕ) → a ≤ length xs → i < length ys → get_or (put_mid a k xs ys) (a + i) 0 ≡ get_or ys i 0
put_mid-inside a k i xs ys h l =
    let from : a ≤ a + i = omega arith in
    let e : a + i - a ≡ i = omega arith in
    get_or-append_right (take a xs) (ys ++ post_of a k xs) a (a + i) 0 (length-take-le a xs h) from
    ∙ ap (λ n. get_or (ys ++ post_of a k xs) n 0) e
    ∙ get_or_append_left ys (post_of a k xs) 0 i l

-- ones
pub bit-ones : (count n : ℕ) → n < 16 * count → bit (replicate count 65535) n ≡ 1
bit-ones count n h =
    let q : n / 16 < count = omega arith in
    bit-at (replicate count 65535) n
    ∙ ap (λ w. left_bit w (n % 16)) (get_or-replicate count (n / 16) 65535 0 q)
    ∙ left_bit-ones (n % 16)

-- a row of the source in its buffer, from the second word on
pub buffer-bit : (out run words : List ℕ) (k rows left right source_left x : ℕ)
    → 1 ≤ length out
    → length run ≡ (source_left + (right - 1 - left)) / 16 - source_left / 16 + 1
    → ((i : ℕ) → i < length run → get_or run i 0 ≡ get_or words (rows + source_left / 16 + i) 0)
    → left ≤ x → x < right
    → bit (put_mid 1 k out run) (16 + source_left % 16 - left % 16 + (x - 16 * (left / 16))) ≡ bit words (16 * rows + (x - left + source_left))
buffer-bit out run words k rows left right sl x ho len read hl hr =
    let i = (sl % 16 + (x - left)) / 16 in
    let j = (sl % 16 + (x - left)) % 16 in
    let hj : j < 16 = omega arith in
    let hi : i < length run = omega arith in
    let e : 16 + sl % 16 - left % 16 + (x - 16 * (left / 16)) ≡ 16 * (1 + i) + j = omega arith in
    let f : 16 * (rows + sl / 16 + i) + j ≡ 16 * rows + (x - left + sl) = omega arith in
    ap (bit (put_mid 1 k out run)) e
    ∙ bit-word (put_mid 1 k out run) (1 + i) j hj
    ∙ ap (λ w. left_bit w j) (put_mid-inside 1 k i out run ho hi ∙ read i hi)
    ∙ sym (bit-word words (rows + sl / 16 + i) j hj)
    ∙ ap (bit words) f

within-moved : (l r d n : ℕ) → d ≤ l → l < r → within (l - d) (r - d) n ≡ within l r (d + n)
within-moved l r d n h o =
    ⊎_elim
    (λ (below : d + n < l).
    let a : n < l - d = omega arith in
    within-below (l - d) (r - d) n a ∙ sym (within-below l r (d + n) below))
    (λ (from : l ≤ d + n).
    let a : l - d ≤ n = omega arith in
    ⊎_elim
    (λ (inside : d + n < r).
    let b : n < r - d = omega arith in
    within-inside (l - d) (r - d) n a b ∙ sym (within-inside l r (d + n) from inside))
    (λ (above : r ≤ d + n).
    let b : r - d ≤ n = omega arith in
    within-above (l - d) (r - d) n b ∙ sym (within-above l r (d + n) above))
    (cases_lt (d + n) r))
    (cases_lt (d + n) l)

both-true : (a b : Bool) → b ≡ true → (a && b) ≡ a
both-true a b e = rw e (elim a as (λ v. (v && true) ≡ v) [ true ↦ refl | false ↦ refl ])

-- the place of a bit
pub bit_after-place : (t : Transfer) (source : Option (List ℕ)) (halftone words : List ℕ) (x y : ℕ) → x < 16 * t.stride
    → bit_after t source halftone words (y * (16 * t.stride) + x) ≡ pixel_after t source halftone words x y
unfolding bit_after
bit_after-place t source halftone words x y h =
    rw (mod-mul-add y (16 * t.stride) x h, div-mul-add y (16 * t.stride) x h) refl

pub same_change : (rule : ℕ) (b c : Bool) (x y u v h k : ℕ) → b ≡ c → (c ≡ true → x ≡ y) → h ≡ k → u ≡ v
    → cond b (rule_bit rule (min x h) u) u ≡ cond c (rule_bit rule (min y k) v) v
same_change rule b true x y u v h k e s p q = rw (e, s refl, p, q) refl
same_change rule b false x y u v h k e s p q = rw e q

pub within-true : (f t n : ℕ) → within f t n ≡ true → (f ≤ n) × (n < t)
within-true f t n h =
    ⊎_elim
    (λ (below : n < f). let e : true ≡ false = sym h ∙ within-below f t n below in absurd (cc))
    (λ (from : f ≤ n).
    ⊎_elim
    (λ (inside : n < t). (from, inside))
    (λ (above : t ≤ n). let e : true ≡ false = sym h ∙ within-above f t n above in absurd (cc))
    (cases_lt n t))
    (cases_lt n f)

-- the bits of a run after the rule are those of the form after the call
pub row_bit-after : (t : Transfer) (source : Option (List ℕ)) (halftone words buffer before : List ℕ) (y i j : ℕ)
    → t.left < t.right → t.right ≤ 16 * t.stride → t.top ≤ y → y < t.bottom
    → ((x : ℕ) → t.left ≤ x → x < t.right → bit buffer (skip_of t + (x - 16 * (t.left / 16))) ≡ source_pixel t source x y)
    → get_or before i 0 ≡ get_or words (run_start t y + i) 0
    → i < run_length t → j < 16
    → row_bit t.rule buffer (skip_of t) (get_or halftone (y % 16) 0) (t.left - 16 * (t.left / 16)) (t.right - 16 * (t.left / 16)) before (16 * i + j)
    ≡ bit_after t source halftone words (16 * (run_start t y + i) + j)
unfolding row_bit pixel_after
row_bit-after t source halftone words buffer before y i j columns wide top bottom pixels read hi hj =
    let x = 16 * (t.left / 16) + (16 * i + j) in
    let hx : x < 16 * t.stride = omega arith in
    let place : y * (16 * t.stride) + x ≡ 16 * (run_start t y + i) + j = omega arith in
    let place2 : 16 * (run_start t y + i) + j ≡ 16 * t.stride * y + x = omega arith in
    let column : (16 * i + j) % 16 ≡ x % 16 = omega arith in
    let back : x - 16 * (t.left / 16) ≡ 16 * i + j = omega arith in
    let start : 16 * (t.left / 16) ≤ t.left = omega arith in
    same_change t.rule (within (t.left - 16 * (t.left / 16)) (t.right - 16 * (t.left / 16)) (16 * i + j)) (is_changed t x y)
    (bit buffer (skip_of t + (16 * i + j))) (source_pixel t source x y)
    (bit before (16 * i + j)) (pixel_in t.stride words x y)
    (left_bit (get_or halftone (y % 16) 0) ((16 * i + j) % 16)) (left_bit (get_or halftone (y % 16) 0) (x % 16))
    (within-moved t.left t.right (16 * (t.left / 16)) (16 * i + j) start columns
    ∙ sym (both-true (within t.left t.right x) (within t.top t.bottom y) (within-inside t.top t.bottom y top bottom)))
    (λ e.
    let inside : (t.left ≤ x) × (x < t.right) = within-true t.left t.right x (sym (both-true (within t.left t.right x) (within t.top t.bottom y) (within-inside t.top t.bottom y top bottom)) ∙ e) in
    ap (λ n. bit buffer (skip_of t + n)) (sym back) ∙ pixels x inside.0 inside.1)
    (ap (left_bit (get_or halftone (y % 16) 0)) column)
    (bit-word before i j hj ∙ ap (λ w. left_bit w j) read ∙ sym (bit-word words (run_start t y + i) j hj) ∙ ap (bit words) place2)
    ∙ sym (bit_after-place t source halftone words x y hx)
    ∙ ap (bit_after t source halftone words) place

-- each word of a run has a pixel that is changed
touched : (t : Transfer) (y i : ℕ) → t.left < t.right → t.right ≤ 16 * t.stride → t.top ≤ y → y < t.bottom → i < run_length t
    → any_below 16 (λ j. is_changed_bit t (16 * (run_start t y + i) + j)) ≡ true
touched t y i columns wide top bottom low =
    let j = t.left - 16 * (t.left / 16 + i) in
    let x = 16 * (t.left / 16 + i) + j in
    let hj : j < 16 = omega arith in
    let from : t.left ≤ x = omega arith in
    let upto : x < t.right = omega arith in
    let hx : x < 16 * t.stride = omega arith in
    let place : 16 * (run_start t y + i) + j ≡ y * (16 * t.stride) + x = omega arith in
    let here : is_changed t x y ≡ true = both-true (within t.left t.right x) (within t.top t.bottom y) (within-inside t.top t.bottom y top bottom) ∙ within-inside t.left t.right x from upto in
    any_below-from 16 (λ j. is_changed_bit t (16 * (run_start t y + i) + j)) j hj
    (ap (is_changed_bit t) place ∙ (rw (mod-mul-add y (16 * t.stride) x hx, div-mul-add y (16 * t.stride) x hx) here))

-- the words of a run after the rule are those of the form after the call
pub run-after : (t : Transfer) (source : Option (List ℕ)) (halftone words buffer before after : List ℕ) (y : ℕ)
    → t.left < t.right → t.right ≤ 16 * t.stride → t.top ≤ y → y < t.bottom
    → ((x : ℕ) → t.left ≤ x → x < t.right → bit buffer (skip_of t + (x - 16 * (t.left / 16))) ≡ source_pixel t source x y)
    → length before ≡ run_length t
    → ((k : ℕ) → k < length before → get_or before k 0 ≡ get_or words (run_start t y + k) 0)
    → ((n : ℕ) → n < 16 * length before → bit after n ≡ row_bit t.rule buffer (skip_of t) (get_or halftone (y % 16) 0) (t.left - 16 * (t.left / 16)) (t.right - 16 * (t.left / 16)) before n)
    → ((k : ℕ) → get_or after k 0 < 65536)
    → (i : ℕ) → i < run_length t → get_or after i 0 ≡ word_after t source halftone words (run_start t y + i)
unfolding word_after
run-after t source halftone words buffer before after y columns wide top bottom pixels len read row fits i hi =
    word-from_bits (λ j. bit_after t source halftone words (16 * (run_start t y + i) + j)) (get_or after i 0) (fits i)
    (λ j hj.
    let in_row : 16 * i + j < 16 * length before = omega arith in
    let there : i < length before = omega arith in
    sym (bit-word after i j hj)
    ∙ row (16 * i + j) in_row
    ∙ row_bit-after t source halftone words buffer before y i j columns wide top bottom pixels (read i there) hi hj)
    ∙ sym (ap (λ b. cond b (number_of (λ j. bit_after t source halftone words (16 * (run_start t y + i) + j)) 16) (get_or words (run_start t y + i) 0)) (touched t y i columns wide top bottom hi))

-- A row that is filled is one whose source bits are all 1,
fill-row : (rule count skip halftone from to : ℕ) (row : List ℕ) (n : ℕ) → skip + n < 16 * count → fill_bit rule halftone from to row n ≡ row_bit rule (replicate count 65535) skip halftone from to row n
unfolding fill_bit row_bit
fill-row rule count skip halftone from to row n h =
    let low = left_bit-lt halftone (n % 16) in
    let one : left_bit halftone (n % 16) ≡ min 1 (left_bit halftone (n % 16)) = omega (arith, low) in
    ap (λ b. cond (within from to n) (rule_bit rule b (bit row n)) (bit row n)) (one ∙ ap (λ b. min b (left_bit halftone (n % 16))) (sym (bit-ones count (skip + n) h)))

ones_source : (t : Transfer) (y : ℕ) → t.left < t.right → (x : ℕ) → t.left ≤ x → x < t.right → bit (replicate (run_length t + 3) 65535) (skip_of t + (x - 16 * (t.left / 16))) ≡ source_pixel t None x y
unfolding source_pixel
ones_source t y columns x hl hr = bit-ones (run_length t + 3) (skip_of t + (x - 16 * (t.left / 16))) (omega (arith, columns))

-- so its words are those of the form after a call without a source.
pub filled-after : (t : Transfer) (halftone words before after : List ℕ) (y : ℕ)
    → t.left < t.right → t.right ≤ 16 * t.stride → t.top ≤ y → y < t.bottom
    → length before ≡ run_length t
    → ((k : ℕ) → k < length before → get_or before k 0 ≡ get_or words (run_start t y + k) 0)
    → ((n : ℕ) → n < 16 * length before → bit after n ≡ fill_bit t.rule (get_or halftone (y % 16) 0) (t.left - 16 * (t.left / 16)) (t.right - 16 * (t.left / 16)) before n)
    → ((k : ℕ) → get_or after k 0 < 65536)
    → (i : ℕ) → i < run_length t → get_or after i 0 ≡ word_after t None halftone words (run_start t y + i)
filled-after t halftone words before after y columns wide top bottom len read row fits =
    run-after t None halftone words (replicate (run_length t + 3) 65535) before after y columns wide top bottom
    (ones_source t y columns) len read
    (λ n h. row n h ∙ fill-row t.rule (run_length t + 3) (skip_of t) (get_or halftone (y % 16) 0) (t.left - 16 * (t.left / 16)) (t.right - 16 * (t.left / 16)) before n (omega (arith, len)))
    fits

pub filled-none : (t : Transfer) (source : Option (List ℕ)) (halftone words after : List ℕ) (y : ℕ) → source ≡ None
    → ((i : ℕ) → i < run_length t → get_or after i 0 ≡ word_after t None halftone words (run_start t y + i))
    → (i : ℕ) → i < run_length t → get_or after i 0 ≡ word_after t source halftone words (run_start t y + i)
filled-none t source halftone words after y lacks made i low = made i low ∙ sym (ap (λ (s : Option (List ℕ)). word_after t s halftone words (run_start t y + i)) lacks)

-- only what lies inside counts
pub chosen-inside : (from count k x y z : ℕ) → (from ≤ k → k < from + count → x ≡ y) → cond (within from (from + count) k) x z ≡ cond (within from (from + count) k) y z
chosen-inside from count k x y z h =
    ⊎_elim
    (λ (below : k < from). rw (within-below from (from + count) k below) refl)
    (λ (above : from ≤ k).
    ⊎_elim
    (λ (inside : k < from + count). rw (within-inside from (from + count) k above inside) (h above inside))
    (λ (past : from + count ≤ k). rw (within-above from (from + count) k past) refl)
    (cases_lt k (from + count)))
    (cases_lt k from)

-- a word of a list with a run put into it
pub put_run-word : (xs run : List ℕ) (at k : ℕ) → at + length run ≤ length xs
    → get_or (put_run xs at run) k 0 ≡ cond (within at (at + length run) k) (get_or run (k - at) 0) (get_or xs k 0)
put_run-word xs run at k room =
    let taken : length (take at xs) ≡ at = length-take-le at xs (omega arith) in
    let front : length (take at xs ++ run) ≡ at + length run = length-append (take at xs) run ∙ ap (λ n. n + length run) taken in
    ⊎_elim
    (λ (below : k < at).
    get_or_append_left (take at xs ++ run) (drop (at + length run) xs) 0 k (omega (arith, front))
    ∙ get_or_append_left (take at xs) run 0 k (omega (arith, taken))
    ∙ get_or-take at xs k 0 below
    ∙ sym (rw (within-below at (at + length run) k below) refl))
    (λ (from : at ≤ k).
    ⊎_elim
    (λ (inside : k < at + length run).
    get_or_append_left (take at xs ++ run) (drop (at + length run) xs) 0 k (omega (arith, front))
    ∙ get_or-append_right (take at xs) run at k 0 taken from
    ∙ sym (rw (within-inside at (at + length run) k from inside) refl))
    (λ (above : at + length run ≤ k).
    get_or-append_right (take at xs ++ run) (drop (at + length run) xs) (at + length run) k 0 front above
    ∙ get_or-drop (at + length run) xs (k - (at + length run)) 0
    ∙ ap (λ n. get_or xs n 0) (let e : at + length run + (k - (at + length run)) ≡ k = omega arith in e)
    ∙ sym (rw (within-above at (at + length run) k above) refl))
    (cases_lt k (at + length run)))
    (cases_lt k at)

length-put : (xs run : List ℕ) (at : ℕ) → at + length run ≤ length xs → length (put_run xs at run) ≡ length xs
length-put xs run at low = simp (length-append, length-take, length-drop) (omega arith)

-- the destination after the run of a row is written
pub run-written : (t : Transfer) (source : Option (List ℕ)) (halftone words after : List ℕ) (y : ℕ) → length after ≡ run_length t
    → run_start t y + run_length t ≤ length words
    → ((i : ℕ) → i < run_length t → get_or after i 0 ≡ word_after t source halftone words (run_start t y + i))
    → put_run words (run_start t y) after ≡ row_words t source halftone words y
unfolding row_words
run-written t source halftone words after y len room made =
    let at = run_start t y in
    let low : at + length after ≤ length words = omega arith in
    fill_by_all (λ k. cond (within at (at + run_length t) k) (word_after t source halftone words k) (get_or words k 0)) (put_run words at after) (length words) 0 (length-put words after at low)
    (λ k l.
    put_run-word words after at k low
    ∙ ap (λ n. cond (within at (at + n) k) (get_or after (k - at) 0) (get_or words k 0)) len
    ∙ chosen-inside at (run_length t) k (get_or after (k - at) 0) (word_after t source halftone words k) (get_or words k 0)
    (λ h l.
    let i : k - at < run_length t = omega arith in
    let back : at + (k - at) ≡ k = omega arith in
    made (k - at) i ∙ ap (word_after t source halftone words) back))

pub row_words-length : (t : Transfer) (source : Option (List ℕ)) (halftone words : List ℕ) (y : ℕ) → length (row_words t source halftone words y) ≡ length words
unfolding row_words
row_words-length t source halftone words y = length-map-range_with_len _ 0 (length words)

-- a word of it
pub row_words-word : (t : Transfer) (source : Option (List ℕ)) (halftone words : List ℕ) (y k : ℕ) → run_start t y + run_length t ≤ length words
    → get_or (row_words t source halftone words y) k 0 ≡ cond (within (run_start t y) (run_start t y + run_length t) k) (word_after t source halftone words k) (get_or words k 0)
unfolding row_words
row_words-word t source halftone words y k room =
    let at = run_start t y in
    let f : ℕ → ℕ = λ k. cond (within at (at + run_length t) k) (word_after t source halftone words k) (get_or words k 0) in
    ⊎_elim
    (λ (low : k < length words). get_or-map-range_with_len f 0 (length words) k k 0 low (omega arith))
    (λ (past : length words ≤ k).
    get_or_past (map f (range_with_len 0 (length words))) k 0 (let len : length (map f (range_with_len 0 (length words))) ≡ length words = length-map-range_with_len _ 0 (length words) in omega (arith, len))
    ∙ sym (rw (within-above at (at + run_length t) k (omega arith)) (get_or_past words k 0 past)))
    (cases_lt k (length words))

-- the rows of the source are few
pub tall-source : (t : Transfer) (y : ℕ) → t.left < t.right → HasSource t → t.top ≤ y → y < t.bottom
    → (t.source_stride * (y - t.top + t.source_top) + t.source_stride ≤ t.source_stride * (t.source_top + (t.bottom - t.top))) × (y - t.top + t.source_top < 65536)
tall-source t y columns s top below =
    let pos : 0 < t.source_stride = omega (arith, s.wide) in
    let least : y - t.top + t.source_top + 1 ≤ t.source_top + (t.bottom - t.top) = omega arith in
    let grows : t.source_stride * (y - t.top + t.source_top + 1) ≤ t.source_stride * (t.source_top + (t.bottom - t.top)) = mul-le-mul_left t.source_stride least in
    let big : (y - t.top + t.source_top) * 1 ≤ (y - t.top + t.source_top) * t.source_stride = mul-le-mul_left (y - t.top + t.source_top) pos in
    let tall = s.tall in
    (omega (arith, grows), omega (arith, grows, big, tall))

-- and so are those of the destination
pub tall-dest : (t : Transfer) (y : ℕ) → t.left < t.right → t.right ≤ 16 * t.stride → y < t.bottom
    → (t.stride * y + t.stride ≤ t.stride * t.bottom) × (run_start t y + run_length t ≤ t.stride * t.bottom)
tall-dest t y columns wide below =
    let more : y + 1 ≤ t.bottom = omega arith in
    let grows : t.stride * (y + 1) ≤ t.stride * t.bottom = mul-le-mul_left t.stride more in
    (omega (arith, grows), omega (arith, grows, wide, columns))
