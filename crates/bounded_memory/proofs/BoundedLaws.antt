-- Calls of a memory with bounds.
use Rattle.std.proofs.Common.{◌≡◌, ℕ, ◌+◌, Bool, false, cond, eqb, ◌||◌, Option, Some, None, Result, Ok, Err, refl, sym, ◌∙◌, ap, ap₂, subst}
use Rattle.std.specs.Result.{IfErr, IsErrAnd}
use Rattle.long_names.specs.Heap.{Heap}
use Rattle.long_names.specs.Need.{words_at, entries_at, is_pinned, added, words_of_row, entries_of_row}
use Rattle.long_names.specs.State.{name_at}
use Rattle.object_memory.specs.Told.{Told, need_of}
use Rattle.object_memory.specs.declared.fault.MemFault.{MemFault}
use Rattle.bounded_memory.specs.declared.pins.Pin.{Pin}
use Rattle.bounded_memory.specs.declared.pins.Pins.{Pins}
use Rattle.bounded_memory.specs.Pins.{pin_at, is_pin, is_same_pin, words_unless, entries_unless, words_with, entries_with}
use Rattle.bounded_memory.specs.Bounded.{IsPinnedAs, ArePinned, need_at, need_with}

-- ---- the need of a row, by the kept sizes

words-unless : (h : Heap) (s : Option ℕ) (p : Option Pin) (counted : ℕ → Bool) (b : Bool) → IsPinnedAs h s p → ((k : ℕ) → s ≡ Some k → b ≡ counted k) → words_unless p b ≡ added (words_at h) counted s
words-unless h None None counted b is e = refl
words-unless h None (Some p) counted b is e = absurd is
words-unless h (Some n) None counted b is e = absurd is
words-unless h (Some n) (Some p) counted b is e = ap₂ (λ b w. cond b 0 w) (e n refl) is.1

entries-unless : (h : Heap) (s : Option ℕ) (p : Option Pin) (counted : ℕ → Bool) (b : Bool) → IsPinnedAs h s p → ((k : ℕ) → s ≡ Some k → b ≡ counted k) → entries_unless p b ≡ added (entries_at h) counted s
entries-unless h None None counted b is e = refl
entries-unless h None (Some p) counted b is e = absurd is
entries-unless h (Some n) None counted b is e = absurd is
entries-unless h (Some n) (Some p) counted b is e = ap₂ (λ b w. cond b 0 w) (e n refl) is.2

-- the name in the slot is that of an object
is-pin : (h : Heap) (s : Option ℕ) (p : Option Pin) (object k : ℕ) → IsPinnedAs h s p → s ≡ Some k → is_pin object p ≡ eqb k object
is-pin h None None object k is e = absurd (cc)
is-pin h None (Some p) object k is e = absurd is
is-pin h (Some n) None object k is e = absurd is
is-pin h (Some n) (Some p) object k is e = (let same : p.name ≡ k = cc (is.0) in ap (λ n. eqb n object) same)

is-pinned : (h : Heap) (s : Option ℕ) (p : Option Pin) (k : ℕ) → IsPinnedAs h s p → is_pin k p ≡ is_pinned k s
is-pinned h None None k is = refl
is-pinned h None (Some p) k is = absurd is
is-pinned h (Some n) None k is = absurd is
is-pinned h (Some n) (Some p) k is = ap (λ n. eqb n k) is.0

-- two slots have the same name
is-same : (h : Heap) (r s : Option ℕ) (o p : Option Pin) (k : ℕ) → IsPinnedAs h r o → IsPinnedAs h s p → s ≡ Some k → is_same_pin o p ≡ is_pinned k r
is-same h r None o None k was is e = absurd (cc)
is-same h r None o (Some p) k was is e = absurd is
is-same h r (Some n) o None k was is e = absurd is
is-same h r (Some n) o (Some p) k was is e = (let same : p.name ≡ k = cc (is.0) in ap (λ n. is_pin n o) same ∙ is-pinned h r o k was)

words-with : (t : Told) (pins : Pins) (object words : ℕ) → ArePinned t pins → words ≡ words_at t.heap object → words_with pins object words ≡ words_of_row t.heap (record { object = object; slots = t.slots })
unfolding words_of_row
words-with t pins object words are e =
    let h = t.heap in
    let one = words-unless h (t.slots 0) (pin_at pins 0) (λ k. eqb k object) _ (are 0) (λ k f. is-pin h (t.slots 0) (pin_at pins 0) object k (are 0) f) in
    let two = words-unless h (t.slots 1) (pin_at pins 1) (λ k. eqb k object || is_pinned k (t.slots 0)) _ (are 1) (λ k f. ap₂ (λ a b. a || b) (is-pin h (t.slots 1) (pin_at pins 1) object k (are 1) f) (is-same h (t.slots 0) (t.slots 1) (pin_at pins 0) (pin_at pins 1) k (are 0) (are 1) f)) in
    let three = words-unless h (t.slots 2) (pin_at pins 2) (λ k. eqb k object || (is_pinned k (t.slots 0) || is_pinned k (t.slots 1))) _ (are 2) (λ k f. ap₂ (λ a b. a || b) (is-pin h (t.slots 2) (pin_at pins 2) object k (are 2) f) (ap₂ (λ a b. a || b) (is-same h (t.slots 0) (t.slots 2) (pin_at pins 0) (pin_at pins 2) k (are 0) (are 2) f) (is-same h (t.slots 1) (t.slots 2) (pin_at pins 1) (pin_at pins 2) k (are 1) (are 2) f))) in
    ap₂ (λ a b. a + b) (ap₂ (λ a b. a + b) (ap₂ (λ a b. a + b) e one) two) three

entries-with : (t : Told) (pins : Pins) (object : ℕ) → ArePinned t pins → entries_with pins ≡ entries_of_row t.heap (record { object = object; slots = t.slots })
unfolding entries_of_row
entries-with t pins object are =
    let h = t.heap in
    let one = entries-unless h (t.slots 0) (pin_at pins 0) (λ k. false) _ (are 0) (λ k f. refl) in
    let two = entries-unless h (t.slots 1) (pin_at pins 1) (λ k. is_pinned k (t.slots 0)) _ (are 1) (λ k f. is-same h (t.slots 0) (t.slots 1) (pin_at pins 0) (pin_at pins 1) k (are 0) (are 1) f) in
    let three = entries-unless h (t.slots 2) (pin_at pins 2) (λ k. is_pinned k (t.slots 0) || is_pinned k (t.slots 1)) _ (are 2) (λ k f. ap₂ (λ a b. a || b) (is-same h (t.slots 0) (t.slots 2) (pin_at pins 0) (pin_at pins 2) k (are 0) (are 2) f) (is-same h (t.slots 1) (t.slots 2) (pin_at pins 1) (pin_at pins 2) k (are 1) (are 2) f)) in
    ap₂ (λ a b. a + b) (ap₂ (λ a b. a + b) (ap (λ a. 51 + a) one) two) three

-- what the kept sizes say an object needs is its need
pub need-with : (t : Told) (pins : Pins) (object words : ℕ) → ArePinned t pins → words ≡ words_at t.heap object → need_with pins object words ≡ need_of t.heap (record { object = object; slots = t.slots })
need-with t pins object words are e = ap₂ (λ w n. record { object = object; words = w; entries = n }) (words-with t pins object words are e) (entries-with t pins object are)

pub need-at : (t : Told) (pins : Pins) (of name words : ℕ) → ArePinned t pins → name ≡ name_at (t.regs of) → words ≡ words_at t.heap (name_at (t.regs of)) → need_with pins name words ≡ need_at t of
need-at t pins of name words are e f = need-with t pins name words are (f ∙ ap (words_at t.heap) (sym e)) ∙ ap (λ n. need_of t.heap (record { object = n; slots = t.slots })) e

-- ---- at the exit of a `?`

pub if-err : {A : Type 0} (r : Result A MemFault) (f : MemFault) (P : MemFault → Type 0) → IsErrAnd r (λ g. g ≡ f) → P f → IfErr r P
if-err (Ok x) f P is h = absurd is
if-err (Err g) f P is h = subst P (sym is) h

pub err-is : {A : Type 0} (r : Result A MemFault) (f : MemFault) → IsErrAnd r (λ g. g ≡ f) → r ≡ Err f
err-is (Ok x) f is = absurd is
err-is (Err g) f is = ap (λ f. Err f) is
