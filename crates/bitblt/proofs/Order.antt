-- Which rows are done in the two passes, and that this order is right.
-- Rows that read before they write go first, from the last one up; then the others, from the first one down. No row then reads
-- a word that was written, whatever the two widths (`unwritten`). `Runs` ties a row's buffers to the form, `Overlap` the rows
-- to one another.
use Rattle.std.proofs.Common.{◌≡◌, ◌≢◌, ℕ, ◌+◌, ◌-◌, ◌<◌, ◌≤◌, refl, sym, ap, ◌∙◌, arith, ⊎_elim, ◌⊎◌, inl, inr, Bool, true, false, ◌&&◌, ◌||◌}
use Rattle.std.proofs.lemmas.Bool.{cases_lt, cases_eq}
use Rattle.bit_rows.specs.Rows.{within}
use Rattle.bit_rows.proofs.RowLemmas.{within-inside, within-below, within-above}
use Rattle.bitblt.specs.declared.transfer.Transfer.{Transfer}
use Rattle.bitblt.specs.Transfers.{reads_before, done_up, done_down}
use Rattle.bitblt.proofs.Runs.{within-true}
use Rattle.bitblt.proofs.Overlap.{InOrder}

-- one place more at either end
within-one_lower : (f t r : ℕ) → r ≢ f → within f t r ≡ within (f + 1) t r
within-one_lower f t r ne =
    ⊎_elim
    (λ (below : r < f). within-below f t r below ∙ sym (within-below (f + 1) t r (omega arith)))
    (λ (from : f ≤ r).
    ⊎_elim
    (λ (inside : r < t). within-inside f t r from inside ∙ sym (within-inside (f + 1) t r (omega arith) inside))
    (λ (above : t ≤ r). within-above f t r above ∙ sym (within-above (f + 1) t r above))
    (cases_lt r t))
    (cases_lt r f)

within-one_higher : (f t r : ℕ) → r ≢ t → within f (t + 1) r ≡ within f t r
within-one_higher f t r ne =
    ⊎_elim
    (λ (below : r < f). within-below f (t + 1) r below ∙ sym (within-below f t r below))
    (λ (from : f ≤ r).
    ⊎_elim
    (λ (inside : r < t). within-inside f (t + 1) r from (omega arith) ∙ sym (within-inside f t r from inside))
    (λ (above : t ≤ r). within-above f (t + 1) r (omega arith) ∙ sym (within-above f t r above))
    (cases_lt r t))
    (cases_lt r f)

within-none : (f r : ℕ) → within f f r ≡ false
within-none f r = ⊎_elim (λ (below : r < f). within-below f f r below) (λ (from : f ≤ r). within-above f f r from) (cases_lt r f)

and-parts : (a b : Bool) → (a && b) ≡ true → (a ≡ true) × (b ≡ true)
and-parts true true h = (refl, refl)
and-parts true false h = (refl, h)
and-parts false b h = absurd (cc)

or-parts : (a b : Bool) → (a || b) ≡ true → (a ≡ true) ⊎ (b ≡ true)
or-parts true b h = inl refl
or-parts false b h = inr h

and-false : (a b : Bool) → b ≡ false → (a && b) ≡ false
and-false true b h = h
and-false false b h = refl

or-true : (a b : Bool) → b ≡ true → (a || b) ≡ true
or-true true b h = refl
or-true false b h = h

or-absorbs : (a b : Bool) → (a || (a && b)) ≡ a
or-absorbs true b = refl
or-absorbs false b = refl

-- from the last row up
pub up-order : (t : Transfer) (i : ℕ) → i < t.bottom - t.top → InOrder t (done_up t i) (t.bottom - 1 - i)
unfolding done_up
up-order t i h r d =
    let parts : (within (t.bottom - i) t.bottom r ≡ true) × (reads_before t r ≡ true) = and-parts (within (t.bottom - i) t.bottom r) (reads_before t r) d in
    let inside : (t.bottom - i ≤ r) × (r < t.bottom) = within-true (t.bottom - i) t.bottom r parts.0 in
    let low = inside.0 in
    inl (omega (arith, low), parts.1)

pub up-fresh : (t : Transfer) (i : ℕ) → i < t.bottom - t.top → done_up t i (t.bottom - 1 - i) ≡ false
unfolding done_up
up-fresh t i h =
    let low : t.bottom - 1 - i < t.bottom - i = omega arith in
    ap (λ b. b && reads_before t (t.bottom - 1 - i)) (within-below (t.bottom - i) t.bottom (t.bottom - 1 - i) low)

pub up-set : (t : Transfer) (i : ℕ) → i < t.bottom - t.top → reads_before t (t.bottom - 1 - i) ≡ true → done_up t (i + 1) (t.bottom - 1 - i) ≡ true
unfolding done_up
up-set t i h e =
    let low : t.bottom - (i + 1) ≤ t.bottom - 1 - i = omega arith in
    let high : t.bottom - 1 - i < t.bottom = omega arith in
    ap (λ b. b && reads_before t (t.bottom - 1 - i)) (within-inside (t.bottom - (i + 1)) t.bottom (t.bottom - 1 - i) low high) ∙ e

pub up-others : (t : Transfer) (i r : ℕ) → i < t.bottom - t.top → r ≢ t.bottom - 1 - i → done_up t (i + 1) r ≡ done_up t i r
unfolding done_up
up-others t i r h ne =
    let other : r ≢ t.bottom - (i + 1) = omega arith in
    let next : t.bottom - (i + 1) + 1 ≡ t.bottom - i = omega arith in
    ap (λ b. b && reads_before t r) (within-one_lower (t.bottom - (i + 1)) t.bottom r other ∙ ap (λ f. within f t.bottom r) next)

up-skip_same : (t : Transfer) (i r : ℕ) → reads_before t r ≡ false → done_up t (i + 1) r ≡ done_up t i r
unfolding done_up
up-skip_same t i r e = and-false (within (t.bottom - (i + 1)) t.bottom r) (reads_before t r) e ∙ sym (and-false (within (t.bottom - i) t.bottom r) (reads_before t r) e)

pub up-skip : (t : Transfer) (i r : ℕ) → i < t.bottom - t.top → reads_before t (t.bottom - 1 - i) ≡ false → done_up t (i + 1) r ≡ done_up t i r
up-skip t i r h e =
    ⊎_elim
    (λ (same : r ≡ t.bottom - 1 - i). up-skip_same t i r (ap (reads_before t) same ∙ e))
    (λ (other : r ≢ t.bottom - 1 - i). up-others t i r h other)
    (cases_eq r (t.bottom - 1 - i))

pub up-none : (t : Transfer) (r : ℕ) → done_up t 0 r ≡ false
unfolding done_up
up-none t r =
    ⊎_elim
    (λ (below : r < t.bottom - 0). ap (λ b. b && reads_before t r) (within-below (t.bottom - 0) t.bottom r below))
    (λ (from : t.bottom - 0 ≤ r). ap (λ b. b && reads_before t r) (within-above (t.bottom - 0) t.bottom r (omega arith)))
    (cases_lt r (t.bottom - 0))

-- then from the first row down
pub down-none : (t : Transfer) (r : ℕ) → t.top ≤ t.bottom → done_down t t.top r ≡ done_up t (t.bottom - t.top) r
unfolding done_up done_down
down-none t r h =
    let back : t.top ≡ t.bottom - (t.bottom - t.top) = omega arith in
    ap (λ b. b || (within t.top t.bottom r && reads_before t r)) (within-none t.top r) ∙ ap (λ f. within f t.bottom r && reads_before t r) back

-- Without a source no row reads anything before those that it writes, and at first none is done.
pub never-before : (t : Transfer) (y : ℕ) → t.has_source ≡ false → reads_before t y ≡ false
unfolding reads_before
never-before t y none = rw none refl

pub none-down : (t : Transfer) → t.has_source ≡ false → (r : ℕ) → done_down t t.top r ≡ false
unfolding done_down
none-down t none r =
    ap (λ b. b || (within t.top t.bottom r && reads_before t r)) (within-none t.top r)
    ∙ and-false (within t.top t.bottom r) (reads_before t r) (never-before t r none)

pub down-order : (t : Transfer) (y : ℕ) → reads_before t y ≡ false → InOrder t (done_down t y) y
unfolding done_down
down-order t y e r d =
    ⊎_elim
    (λ (above : within t.top y r ≡ true).
    let inside : (t.top ≤ r) × (r < y) = within-true t.top y r above in
    inr (inside.1, e))
    (λ (first : (within t.top t.bottom r && reads_before t r) ≡ true).
    let parts : (within t.top t.bottom r ≡ true) × (reads_before t r ≡ true) = and-parts (within t.top t.bottom r) (reads_before t r) first in
    ⊎_elim
    (λ (less : r < y). inr (less, e))
    (λ (more : y ≤ r).
    ⊎_elim
    (λ (same : r ≡ y).
    let clash : true ≡ false = sym parts.1 ∙ ap (reads_before t) same ∙ e in
    absurd (cc))
    (λ (other : r ≢ y). inl (omega arith, parts.1))
    (cases_eq r y))
    (cases_lt r y))
    (or-parts (within t.top y r) (within t.top t.bottom r && reads_before t r) d)

pub down-fresh : (t : Transfer) (y : ℕ) → reads_before t y ≡ false → done_down t y y ≡ false
unfolding done_down
down-fresh t y e =
    let none : within t.top y y ≡ false = within-above t.top y y (omega arith) in
    ap (λ b. b || (within t.top t.bottom y && reads_before t y)) none ∙ and-false (within t.top t.bottom y) (reads_before t y) e

pub down-set : (t : Transfer) (y : ℕ) → t.top ≤ y → done_down t (y + 1) y ≡ true
unfolding done_down
down-set t y h = ap (λ b. b || (within t.top t.bottom y && reads_before t y)) (within-inside t.top (y + 1) y h (omega arith))

pub down-others : (t : Transfer) (y r : ℕ) → r ≢ y → done_down t (y + 1) r ≡ done_down t y r
unfolding done_down
down-others t y r ne = ap (λ b. b || (within t.top t.bottom r && reads_before t r)) (within-one_higher t.top y r ne)

down-skip_same : (t : Transfer) (y r : ℕ) → (within t.top t.bottom r && reads_before t r) ≡ true → done_down t (y + 1) r ≡ done_down t y r
unfolding done_down
down-skip_same t y r e =
    or-true (within t.top (y + 1) r) (within t.top t.bottom r && reads_before t r) e
    ∙ sym (or-true (within t.top y r) (within t.top t.bottom r && reads_before t r) e)

pub down-skip : (t : Transfer) (y r : ℕ) → t.top ≤ y → y < t.bottom → reads_before t y ≡ true → done_down t (y + 1) r ≡ done_down t y r
down-skip t y r top below e =
    ⊎_elim
    (λ (same : r ≡ y).
    down-skip_same t y r
    (ap (λ n. within t.top t.bottom n && reads_before t n) same
    ∙ ap (λ b. b && reads_before t y) (within-inside t.top t.bottom y top below)
    ∙ e))
    (λ (other : r ≢ y). down-others t y r other)
    (cases_eq r y)

pub down-all : (t : Transfer) (r : ℕ) → done_down t t.bottom r ≡ within t.top t.bottom r
unfolding done_down
down-all t r = or-absorbs (within t.top t.bottom r) (reads_before t r)
