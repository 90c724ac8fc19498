-- What is asked for, pixel by pixel, is what the transfer does.
use Rattle.std.proofs.Common.{◌≡◌, ℕ, ℤ, pos, ◌+ℤ◌, ◌-ℤ◌, ◌+◌, ◌-◌, ◌*◌, ◌/◌, ◌%◌, ◌<◌, ◌≤◌, List, [], ◌∷◌, get_or, length, map, min, refl, sym, ap, ◌∙◌, arith, Bool, true, false, ◌&&◌, cond, Option, Some, None}
use Rattle.std.specs.Prelude.{option_map}
use Rattle.std.specs.List.{range_with_len}
use Rattle.std.proofs.lemmas.Int.{ints}
use Rattle.std.proofs.lemmas.List.FromFn.{fill_by_all}
use Rattle.long_names.specs.declared.value.Value.{Value}
use Rattle.long_names.specs.Kept.{any_below}
use Rattle.blue_model.specs.Forms.{left_bit, bit, number_of, row_words, pixel}
use Rattle.blue_model.specs.BitBlt.{rule_bit, place, halftone_pixel, is_changed_column, is_changed_row, copied_pixel, copied_bit, copied_word, copied_words}
use Rattle.blue_model.specs.BitBlt as model
use Rattle.bit_rows.specs.Rows.{within}
use Rattle.bitblt.specs.declared.transfer.Transfer.{Transfer}
use Rattle.forms.specs.declared.form.Extent.{Extent}
use Rattle.bitblt.specs.declared.asked.Asked.{Asked}
use Rattle.bitblt.specs.Transfers.{pixel_in, source_pixel, is_changed, is_changed_bit, pixel_after, bit_after, word_after, words_after}
use Rattle.bitblt.specs.Asking.{asked_by}
use Rattle.forms.specs.Shapes.{form_by}
use Rattle.bitblt.specs.Shapes.{optional_by}
use Rattle.bitblt.specs.Plans.{is_column, is_row, IsPlanOf}
use Rattle.bitblt.proofs.Runs.{same_change, within-true}
use Rattle.bitblt.proofs.Clips.{both-same}
use Rattle.bitblt.proofs.Overlap.{number_of-same, first-true, none_below, same_below}

map-same : (f g : ℕ → ℕ) (xs : List ℕ) → ((x : ℕ) → f x ≡ g x) → map f xs ≡ map g xs
map-same f g [] h = refl
map-same f g (x ∷ xs) h =
    let first : f x ≡ g x = h x in
    let rest : map f xs ≡ map g xs = map-same f g xs h in
    cc

second-true : (a b : Bool) → (a && b) ≡ true → b ≡ true
second-true true b h = h
second-true false true h = refl
second-true false false h = h

-- ---- the places that are changed

column_same : (q : Asked) (dest : Extent) (source : Option Extent) (v s : Value) (x : ℕ) → is_changed_column (asked_by q) (form_by v dest) (optional_by s source) x ≡ is_column q dest source x
column_same q dest None v s x = refl
column_same q dest (Some e) v s x = refl

row_same : (q : Asked) (dest : Extent) (source : Option Extent) (v s : Value) (y : ℕ) → is_changed_row (asked_by q) (form_by v dest) (optional_by s source) y ≡ is_row q dest source y
row_same q dest None v s y = refl
row_same q dest (Some e) v s y = refl

changed_same : (q : Asked) (dest : Extent) (source : Option Extent) (v s : Value) (t : Transfer) → IsPlanOf q dest source t → (x y : ℕ) → (is_changed_column (asked_by q) (form_by v dest) (optional_by s source) x && is_changed_row (asked_by q) (form_by v dest) (optional_by s source) y) ≡ is_changed t x y
changed_same q dest source v s t is x y =
    both-same (is_changed_column (asked_by q) (form_by v dest) (optional_by s source) x) (within t.left t.right x) (is_changed_row (asked_by q) (form_by v dest) (optional_by s source) y) (within t.top t.bottom y)
    (column_same q dest source v s x ∙ is.columns x) (row_same q dest source v s y ∙ is.rows y)

-- ---- pixels

place-number : (at source_at : ℤ) (low source x : ℕ) → pos source ≡ pos low -ℤ at +ℤ source_at → low ≤ x → place (pos x -ℤ at +ℤ source_at) ≡ x - low + source
place-number at source_at low source x e h =
    let p : pos x -ℤ at +ℤ source_at ≡ pos (x - low + source) = omega (arith, ints) in
    ap place p

-- the source's pixel
source-asked : (q : Asked) (dest : Extent) (source : Option Extent) (s : Value) (from : List ℕ) (t : Transfer) → IsPlanOf q dest source t → (x y : ℕ) → t.left ≤ x → t.top ≤ y
    → model.source_pixel (asked_by q) (optional_by s source) from x y ≡ source_pixel t (option_map (λ (e : Extent). from) source) x y
unfolding source_pixel
source-asked q dest None s from t is x y hx hy = refl
source-asked q dest (Some e) s from t is x y hx hy =
    ap (λ w. bit from (16 * w * place (pos y -ℤ q.dest.y +ℤ q.source.y) + place (pos x -ℤ q.dest.x +ℤ q.source.x))) (sym (is.source_stride e refl))
    ∙ ap (λ c. bit from (16 * t.source_stride * place (pos y -ℤ q.dest.y +ℤ q.source.y) + c)) (place-number q.dest.x q.source.x t.left t.source_left x (is.source_left e refl) hx)
    ∙ ap (λ r. bit from (16 * t.source_stride * r + (x - t.left + t.source_left))) (place-number q.dest.y q.source.y t.top t.source_top y (is.source_top e refl) hy)

pixel-asked : (q : Asked) (dest : Extent) (source : Option Extent) (v s : Value) (words from tone halftone : List ℕ) (t : Transfer) → IsPlanOf q dest source t → ((k : ℕ) → k < 16 → get_or halftone k 0 ≡ get_or tone k 0) → (x y : ℕ)
    → copied_pixel (asked_by q) (form_by v dest) (optional_by s source) words from tone x y ≡ pixel_after t (option_map (λ (e : Extent). from) source) halftone words x y
unfolding copied_pixel pixel_after
pixel-asked q dest source v s words from tone halftone t is same x y =
    let asked = is_changed_column (asked_by q) (form_by v dest) (optional_by s source) x && is_changed_row (asked_by q) (form_by v dest) (optional_by s source) y in
    ap (λ r. cond asked (rule_bit r (min (model.source_pixel (asked_by q) (optional_by s source) from x y) (halftone_pixel tone x y)) (pixel dest.width words x y)) (pixel dest.width words x y)) (sym is.rule)
    ∙ same_change t.rule asked (is_changed t x y)
    (model.source_pixel (asked_by q) (optional_by s source) from x y) (source_pixel t (option_map (λ (e : Extent). from) source) x y)
    (pixel dest.width words x y) (pixel_in t.stride words x y)
    (halftone_pixel tone x y) (halftone_pixel halftone x y)
    (changed_same q dest source v s t is x y)
    (λ e.
    let in_x : (t.left ≤ x) × (x < t.right) = within-true t.left t.right x (first-true (within t.left t.right x) (within t.top t.bottom y) e) in
    let in_y : (t.top ≤ y) × (y < t.bottom) = within-true t.top t.bottom y (second-true (within t.left t.right x) (within t.top t.bottom y) e) in
    source-asked q dest source s from t is x y in_x.0 in_y.0)
    (ap (λ w. left_bit w (x % 16)) (sym (same (y % 16) (omega arith))))
    (ap (λ w. bit words (16 * w * y + x)) (sym is.stride))

-- ---- words

choose : (a b : Bool) (x y u : ℕ) → a ≡ b → x ≡ y → cond a x u ≡ cond b y u
choose a b x y u e f = rw (e, f) refl

word-asked : (q : Asked) (dest : Extent) (source : Option Extent) (v s : Value) (words from tone halftone : List ℕ) (t : Transfer) → IsPlanOf q dest source t → ((k : ℕ) → k < 16 → get_or halftone k 0 ≡ get_or tone k 0) → (k : ℕ)
    → copied_word (asked_by q) (form_by v dest) (optional_by s source) words from tone k ≡ word_after t (option_map (λ (e : Extent). from) source) halftone words k
unfolding word_after bit_after
word-asked q dest source v s words from tone halftone t is same k =
    let asked = asked_by q in
    let form = form_by v dest in
    let other = optional_by s source in
    let w = 16 * row_words dest.width in
    choose
    (any_below 16 (λ j. model.is_changed_bit asked form other (16 * k + j))) (any_below 16 (λ j. is_changed_bit t (16 * k + j)))
    (number_of (λ j. copied_bit asked form other words from tone (16 * k + j)) 16) (number_of (λ j. bit_after t (option_map (λ (e : Extent). from) source) halftone words (16 * k + j)) 16)
    (get_or words k 0)
    (same_below 16 (λ j. model.is_changed_bit asked form other (16 * k + j)) (λ j. is_changed_bit t (16 * k + j))
    (λ j l. (let n = 16 * k + j in changed_same q dest source v s t is (n % w) (n / w) ∙ ap (λ r. is_changed t (n % (16 * r)) (n / (16 * r))) (sym is.stride))))
    (number_of-same (λ j. copied_bit asked form other words from tone (16 * k + j)) (λ j. bit_after t (option_map (λ (e : Extent). from) source) halftone words (16 * k + j)) 16
    (λ j l.
    let n = 16 * k + j in
    pixel-asked q dest source v s words from tone halftone t is same (n % w) (n / w)
    ∙ ap (λ r. pixel_after t (option_map (λ (e : Extent). from) source) halftone words (n % (16 * r)) (n / (16 * r))) (sym is.stride)))

pub words-asked : (q : Asked) (dest : Extent) (source : Option Extent) (v s : Value) (words from tone halftone : List ℕ) (t : Transfer) → IsPlanOf q dest source t → ((k : ℕ) → k < 16 → get_or halftone k 0 ≡ get_or tone k 0)
    → words_after t (option_map (λ (e : Extent). from) source) halftone words ≡ copied_words (asked_by q) (form_by v dest) (optional_by s source) words from tone
unfolding copied_words words_after
words-asked q dest source v s words from tone halftone t is same =
    sym (map-same (copied_word (asked_by q) (form_by v dest) (optional_by s source) words from tone) (word_after t (option_map (λ (e : Extent). from) source) halftone words) (range_with_len 0 (length words))
    (word-asked q dest source v s words from tone halftone t is same))

-- no word changes where no column or no row does
none-asked : (q : Asked) (dest : Extent) (source : Option Extent) (v s : Value) (words from tone : List ℕ) → ((x y : ℕ) → (is_changed_column (asked_by q) (form_by v dest) (optional_by s source) x && is_changed_row (asked_by q) (form_by v dest) (optional_by s source) y) ≡ false)
    → words ≡ copied_words (asked_by q) (form_by v dest) (optional_by s source) words from tone
unfolding copied_words
none-asked q dest source v s words from tone none =
    let asked = asked_by q in
    let form = form_by v dest in
    let other = optional_by s source in
    let w = 16 * row_words dest.width in
    fill_by_all (copied_word asked form other words from tone) words (length words) 0 refl
    (λ k l.
    sym (ap (λ b. cond b (number_of (λ j. copied_bit asked form other words from tone (16 * k + j)) 16) (get_or words k 0))
    (none_below 16 (λ j. model.is_changed_bit asked form other (16 * k + j)) (λ j l. none ((16 * k + j) % w) ((16 * k + j) / w)))))

false-left : (a b : Bool) → a ≡ false → (a && b) ≡ false
false-left a b e = rw e refl

false-right : (a b : Bool) → b ≡ false → (a && b) ≡ false
false-right true b h = h
false-right false b h = refl

pub no_columns : (q : Asked) (dest : Extent) (source : Option Extent) (v s : Value) (words from tone : List ℕ) → ((x : ℕ) → is_column q dest source x ≡ false) → words ≡ copied_words (asked_by q) (form_by v dest) (optional_by s source) words from tone
no_columns q dest source v s words from tone none = none-asked q dest source v s words from tone (λ x y. false-left _ _ (column_same q dest source v s x ∙ none x))

pub no_rows : (q : Asked) (dest : Extent) (source : Option Extent) (v s : Value) (words from tone : List ℕ) → ((y : ℕ) → is_row q dest source y ≡ false) → words ≡ copied_words (asked_by q) (form_by v dest) (optional_by s source) words from tone
no_rows q dest source v s words from tone none = none-asked q dest source v s words from tone (λ x y. false-right _ _ (row_same q dest source v s y ∙ none y))
