-- One piece of a text, and the same text with another piece in its place.
-- A setter replaces one piece of a text. `Spot` says so of two texts, and goes through `++` on either side (`under`, `over`),
-- so that the place in the buffer is found from the places in its parts.
use Rattle.std.proofs.Common.{zero, suc, ◌≡◌, ℕ, ◌+◌, ◌*◌, ◌^◌, ◌<◌, ◌≤◌, List, [], ◌∷◌, ◌++◌, length, take, drop, refl, sym, ap, subst, ◌∙◌, append_assoc, arith, slice_set}
use Rattle.std.specs.Prelude.{slice_index}
use Rattle.std.specs.List.{flat_map}
use Rattle.std.specs.Int.{w16, w32, from_be_bytes}
use Rattle.std.proofs.lemmas.List.{take_at, drop_at, length-append, get_or_at}
use Rattle.long_names.specs.Objects.{put_run}
use Rattle.long_names.specs.Record.{two_bytes, four_bytes}
use Rattle.object_record.specs.Buffer.{long_at, word_at}
use Rattle.object_record.proofs.Numbers.{wide16, wide32}
use Rattle.object_record.proofs.Reading.{skip, long-front, word-front}

pub record Spot (at : ℕ) (was old now new : List ℕ) : Type 0 where
  pub front : List ℕ
  pub back : List ℕ
  pub len : length front ≡ at
  pub before : old ≡ front ++ (was ++ back)
  pub after : new ≡ front ++ (now ++ back)

pub under : (x : List ℕ) (at : ℕ) (was old now new : List ℕ) → Spot at was old now new → Spot (length x + at) was (x ++ old) now (x ++ new)
under x at was old now new s = record {
  front = x ++ s.front;
  back = s.back;
  len = length-append x s.front ∙ ap (λ (n : ℕ). length x + n) s.len;
  before = ap (λ (t : List ℕ). x ++ t) s.before ∙ sym (append_assoc x s.front (was ++ s.back));
  after = ap (λ (t : List ℕ). x ++ t) s.after ∙ sym (append_assoc x s.front (now ++ s.back));
}

pub under-to : (x : List ℕ) (n at : ℕ) (was old now new : List ℕ) → length x + at ≡ n → Spot at was old now new → Spot n was (x ++ old) now (x ++ new)
under-to x n at was old now new e s =
    let P : ℕ → Type 0 = λ k. Spot k was (x ++ old) now (x ++ new) in
    subst P e (under x at was old now new s)

pub over : (y : List ℕ) (at : ℕ) (was old now new : List ℕ) → Spot at was old now new → Spot at was (old ++ y) now (new ++ y)
over y at was old now new s = record {
  front = s.front;
  back = s.back ++ y;
  len = s.len;
  before = ap (λ (t : List ℕ). t ++ y) s.before ∙ append_assoc s.front (was ++ s.back) y ∙ ap (λ (t : List ℕ). s.front ++ t) (append_assoc was s.back y);
  after = ap (λ (t : List ℕ). t ++ y) s.after ∙ append_assoc s.front (now ++ s.back) y ∙ ap (λ (t : List ℕ). s.front ++ t) (append_assoc now s.back y);
}

-- ---- what stands there, and a piece put there

pub put-there : (at : ℕ) (was old now new : List ℕ) → Spot at was old now new → length was ≡ length now → put_run old at now ≡ new
put-there at was old now new s same =
    let first : take at old ≡ s.front = ap (take at) s.before ∙ take_at s.front (was ++ s.back) at s.len in
    let last : drop (at + length now) old ≡ s.back = ap (drop (at + length now)) s.before ∙ skip s.front (was ++ s.back) at (length now) s.len ∙ drop_at was s.back (length now) same in
    rw (first, last) (append_assoc s.front now s.back ∙ sym s.after)

pub long-there : (at v : ℕ) (old now new : List ℕ) → Spot at (four_bytes v) old now new → v < 2 ^ 32 → long_at old at ≡ v
unfolding long_at
long-there at v old now new s lt =
    ap (λ (t : List ℕ). from_be_bytes w32 (take 4 (drop at t))) s.before
    ∙ ap (λ (t : List ℕ). from_be_bytes w32 (take 4 t)) (drop_at s.front (four_bytes v ++ s.back) at s.len)
    ∙ long-front v s.back lt

pub word-there : (at v : ℕ) (old now new : List ℕ) → Spot at (two_bytes v) old now new → v < 2 ^ 16 → word_at old at ≡ v
unfolding word_at
word-there at v old now new s lt =
    ap (λ (t : List ℕ). from_be_bytes w16 (take 2 (drop at t))) s.before
    ∙ ap (λ (t : List ℕ). from_be_bytes w16 (take 2 t)) (drop_at s.front (two_bytes v ++ s.back) at s.len)
    ∙ word-front v s.back lt

pub byte-there : (at v : ℕ) (old now new : List ℕ) → Spot at (v ∷ []) old now new → slice_index old at ≡ v
byte-there at v old now new s = ap (λ (t : List ℕ). slice_index t at) s.before ∙ get_or_at s.front v s.back 0 at s.len

pub within : (at : ℕ) (was old now new : List ℕ) → Spot at was old now new → (n : ℕ) → at + length was ≡ n → n ≤ length old
within at was old now new s n e = omega (arith, ap length s.before, length-append s.front (was ++ s.back), length-append was s.back, s.len, e)

-- ---- one of many

pub many-spot : (text : ℕ → List ℕ) (width : ℕ) → ((n : ℕ) → length (text n) ≡ width) → (xs : List ℕ) (i x : ℕ) → i < length xs → Spot (width * i) (text (slice_index xs i)) (flat_map text xs) (text x) (flat_map text (slice_set xs i x))
many-spot text width len [] i x lt = absurd (omega (arith, lt))
many-spot text width len (y ∷ ys) zero x lt = record { front = []; back = flat_map text ys; len = omega arith; before = refl; after = refl }
many-spot text width len (y ∷ ys) (suc i) x lt =
    under-to (text y) (width * suc i) (width * i) (text (slice_index ys i)) (flat_map text ys) (text x) (flat_map text (slice_set ys i x)) (rw (len y) (omega arith)) (many-spot text width len ys i x (omega (arith, lt)))

pub longs-spot : (xs : List ℕ) (i x : ℕ) → i < length xs → Spot (4 * i) (four_bytes (slice_index xs i)) (flat_map four_bytes xs) (four_bytes x) (flat_map four_bytes (slice_set xs i x))
longs-spot = many-spot four_bytes 4 wide32.len

pub words-spot : (xs : List ℕ) (i x : ℕ) → i < length xs → Spot (2 * i) (two_bytes (slice_index xs i)) (flat_map two_bytes xs) (two_bytes x) (flat_map two_bytes (slice_set xs i x))
words-spot = many-spot two_bytes 2 wide16.len

pub bytes-spot : (xs : List ℕ) (i x : ℕ) → i < length xs → Spot i (slice_index xs i ∷ []) xs (x ∷ []) (slice_set xs i x)
bytes-spot [] i x lt = absurd (omega (arith, lt))
bytes-spot (y ∷ ys) zero x lt = record { front = []; back = ys; len = refl; before = refl; after = refl }
bytes-spot (y ∷ ys) (suc i) x lt =
    under-to (y ∷ []) (suc i) i (slice_index ys i ∷ []) ys (x ∷ []) (slice_set ys i x) (omega arith) (bytes-spot ys i x (omega (arith, lt)))
