-- What comes next of a text, from the bytes that begin it.
use Rattle.std.proofs.Common.{◌≡◌, ℕ, ◌+◌, ◌<◌, ◌≤◌, Bool, true, false, cond, eqb, ltb, leb, not, ◌&&◌, IsTrue, List, [], ◌∷◌, ◌++◌, length, take, drop, get_or, Result, Ok, refl, sym, ap, ap₂, subst, ◌∙◌, inl, inr, length-append, length-take, arith}
use Rattle.std.specs.List.{position_or_len}
use Rattle.std.proofs.lemmas.Bool.{and_parts, cases_eq, cases_lt, eq-eqb, eqb-true, le-leb, le-ltb, leb-true, lt-ltb, ne_eqb, not-true}
use Rattle.std.proofs.lemmas.List.{append-nil, drop-append-le, get_or_append_left, take-append-le}
use Rattle.std.proofs.lemmas.List.Elements.{All-from_get_or}
use Rattle.std.proofs.lemmas.List.Splits.{slice_split_first, slice_split_none}
use Rattle.std.proofs.lemmas.List.Sums.{fails_before_first, passes_at_first, position_or_len_is, prefix_len-le-length}
use Rattle.long_names.specs.declared.object.Rec.{Rec}
use Rattle.image_format.specs.declared.fault.Break.{Break}
use Rattle.text_lines.specs.Breaks.{broken, lines_at, objects_at}
use Rattle.text_lines.specs.declared.limits.TheConstants.{LONGEST_LINE}
use Rattle.image_text.specs.declared.lines.Line.TheVariants.{Whole, End, Broken}
use Rattle.image_text.specs.Lines.{Comes, IsNoLine, IsWithin, is_newline, is_open, line_in, lines_of}
use Rattle.image_text.proofs.StatedLaws.{long_first, long_object}

-- ---- the first newline, or the end

abbrev pos : List ℕ → ℕ
pos xs = position_or_len is_newline xs

pub pos_within : (xs : List ℕ) → pos xs ≤ length xs
pos_within xs = prefix_len-le-length (λ (x : ℕ). not (is_newline x)) xs

pub pos_first : (bytes behind : List ℕ) → pos bytes < length bytes → pos (bytes ++ behind) ≡ pos bytes
pos_first bytes behind low =
    position_or_len_is is_newline (bytes ++ behind) (pos bytes) 0 (omega (arith, low, length-append bytes behind))
    (λ k lt. ap is_newline (get_or_append_left bytes behind 0 k (omega (arith, lt, low))) ∙ fails_before_first is_newline bytes k 0 lt)
    (λ within. ap is_newline (get_or_append_left bytes behind 0 (pos bytes) low) ∙ passes_at_first is_newline bytes 0 low)

-- where no newline stands in some bytes, none does in the first of more
pub still_none : (old new behind after : List ℕ) → new ++ after ≡ old ++ behind → length old ≤ length new → pos old ≡ length old → length old ≤ pos new
still_none old new behind after same longer none = elim (cases_lt (pos new) (length old)) [
  | inl low ↦
      let within : pos new < length new = omega (arith, low, longer) in
      let moved : get_or new (pos new) 0 ≡ get_or old (pos new) 0 =
      sym (get_or_append_left new after 0 (pos new) within)
      ∙ ap (λ (t : List ℕ). get_or t (pos new) 0) same
      ∙ get_or_append_left old behind 0 (pos new) low in
      let clash : true ≡ false = sym (passes_at_first is_newline new 0 within) ∙ ap is_newline moved ∙ fails_before_first is_newline old (pos new) 0 (omega (arith, low, none)) in
      absurd (let no : ⊥ = cc in no)
  | inr le ↦ le
]

pos_least : (bytes behind : List ℕ) → pos bytes ≤ pos (bytes ++ behind)
pos_least bytes behind = elim (cases_lt (pos bytes) (length bytes)) [
  | inl low ↦ let same = pos_first bytes behind low in omega (arith, same)
  | inr le ↦
      let all : pos bytes ≡ length bytes = omega (arith, le, pos_within bytes) in
      let far = still_none bytes (bytes ++ behind) behind [] (append-nil (bytes ++ behind)) (omega (arith, length-append bytes behind)) all in
      omega (arith, all, far)
]

-- ---- the first line

split_here : (bytes behind : List ℕ) → pos bytes < length bytes → lines_of (bytes ++ behind) ≡ take (pos bytes) bytes ∷ lines_of (drop (pos bytes + 1) bytes ++ behind)
split_here bytes behind low =
    let same = pos_first bytes behind low in
    slice_split_first is_newline (bytes ++ behind) 0 (omega (arith, same, low, length-append bytes behind))
    ∙ ap₂ (λ (line rest : List ℕ). line ∷ lines_of rest)
    (ap (λ (n : ℕ). take n (bytes ++ behind)) same ∙ take-append-le (pos bytes) bytes behind (omega (arith, low)))
    (ap (λ (n : ℕ). drop (n + 1) (bytes ++ behind)) same ∙ drop-append-le (pos bytes + 1) bytes behind (omega (arith, low)))

split_none : (text : List ℕ) → pos text ≡ length text → lines_of text ≡ text ∷ []
split_none text none = slice_split_none is_newline text (All-from_get_or (λ (b : ℕ). is_newline b ≡ false) text 0 (λ i lt. fails_before_first is_newline text i 0 (omega (arith, lt, none))))

pub first_line : (text : List ℕ) → (line : List ℕ) × (others : List (List ℕ)) × (lines_of text ≡ line ∷ others) × (length line ≡ pos text)
first_line text = elim (cases_lt (pos text) (length text)) [
  | inl low ↦ (take (pos text) text, lines_of (drop (pos text + 1) text), slice_split_first is_newline text 0 low, omega (arith, length-take (pos text) text, low))
  | inr le ↦
      let all : pos text ≡ length text = omega (arith, le, pos_within text) in
      (text, [], split_none text all, sym all)
]

-- ---- no line

pub long_text : (text : List ℕ) → LONGEST_LINE < pos text → IsNoLine text
long_text text long =
    let f = first_line text in
    let far : LONGEST_LINE < length f.0 = omega (arith, f.3, long) in
    record {
      first = ap lines_at f.2 ∙ long_first f.0 f.1 far;
      other = λ number last next. ap (objects_at number last next) f.2 ∙ long_object number last next f.0 f.1 far;
    }

pub open_text : (text : List ℕ) → pos text ≡ length text → (length text ≡ 0 → ⊥) → IsNoLine text
unfolding lines_at objects_at
open_text text none some =
    let one = split_none text none in
    record {
      first = ap lines_at one;
      other = λ number last next. ap (objects_at number last next) one ∙ ap (λ (b : Bool). let r : Result (List Rec) Break = cond b (Ok []) (broken 0 number) in r) (ne_eqb (length text) 0 some);
    }

-- ---- what comes next

closed : (bytes behind : List ℕ) (len : ℕ) (ended : Bool) → len ≡ pos bytes → (IsTrue ended → behind ≡ []) → len ≤ LONGEST_LINE → length bytes ≤ len → is_open (length bytes) len ended ≡ false → behind ≡ []
closed bytes behind len true is ends short all shut = ends refl
closed bytes behind len false is ends short all shut =
    let same : len ≡ length bytes = omega (arith, is, all, pos_within bytes) in
    let equal : eqb len (length bytes) ≡ true = eq-eqb len (length bytes) same in
    let fits : leb len LONGEST_LINE ≡ true = le-leb len LONGEST_LINE short in
    let clash : false ≡ true = sym shut ∙ ap₂ (λ (a b : Bool). a && (b && true)) equal fits in
    absurd (let no : ⊥ = cc in no)

empty_is : (xs : List ℕ) → length xs ≡ 0 → xs ≡ []
empty_is [] none = refl
empty_is (x ∷ xs) none = absurd (let no : ⊥ = omega (arith, none) in no)

ended_here : (bytes behind : List ℕ) (len : ℕ) → len ≡ pos bytes → length bytes ≤ len → behind ≡ [] → Comes bytes behind (cond (eqb len 0) End Broken)
ended_here bytes behind len is all done =
    let none : pos bytes ≡ length bytes = omega (arith, is, all, pos_within bytes) in
    elim (cases_eq len 0) [
      | inl zero_len ↦ subst (λ (b : Bool). Comes bytes behind (cond b End Broken)) (sym (eq-eqb len 0 zero_len)) (empty_is bytes (omega (arith, zero_len, none, is)), done)
      | inr some ↦
          let text : bytes ++ behind ≡ bytes = ap (λ (t : List ℕ). bytes ++ t) done ∙ append-nil bytes in
          subst (λ (b : Bool). Comes bytes behind (cond b End Broken)) (sym (ne_eqb len 0 some))
          (subst IsNoLine (sym text) (open_text bytes none (λ e. some (omega (arith, e, none, is)))))
    ]

short_line : (bytes behind : List ℕ) (len : ℕ) (ended : Bool) → len ≡ pos bytes → (IsTrue ended → behind ≡ []) → len ≤ LONGEST_LINE → is_open (length bytes) len ended ≡ false
    → Comes bytes behind (cond (ltb len (length bytes)) (Whole len) (cond (eqb len 0) End Broken))
short_line bytes behind len ended is ends short shut = elim (cases_lt len (length bytes)) [
  | inl low ↦
      subst (λ (b : Bool). Comes bytes behind (cond b (Whole len) (cond (eqb len 0) End Broken))) (sym (lt-ltb len (length bytes) low))
      (subst (λ (n : ℕ). lines_of (bytes ++ behind) ≡ take n bytes ∷ lines_of (drop (n + 1) bytes ++ behind)) (sym is) (split_here bytes behind (omega (arith, low, is))))
  | inr all ↦
      subst (λ (b : Bool). Comes bytes behind (cond b (Whole len) (cond (eqb len 0) End Broken))) (sym (le-ltb len (length bytes) all))
      (ended_here bytes behind len is all (closed bytes behind len ended is ends short all shut))
]

pub comes : (bytes behind : List ℕ) (len : ℕ) (ended : Bool) → len ≡ pos bytes → (IsTrue ended → behind ≡ []) → is_open (length bytes) len ended ≡ false → Comes bytes behind (line_in (length bytes) len)
comes bytes behind len ended is ends shut = elim (cases_lt LONGEST_LINE len) [
  | inl long ↦
      subst (λ (b : Bool). Comes bytes behind (cond b Broken (cond (ltb len (length bytes)) (Whole len) (cond (eqb len 0) End Broken)))) (sym (lt-ltb LONGEST_LINE len long))
      (long_text (bytes ++ behind) (omega (arith, long, is, pos_least bytes behind)))
  | inr short ↦
      subst (λ (b : Bool). Comes bytes behind (cond b Broken (cond (ltb len (length bytes)) (Whole len) (cond (eqb len 0) End Broken)))) (sym (le-ltb LONGEST_LINE len short))
      (short_line bytes behind len ended is ends short shut)
]

-- ---- looking for it

pub line_here : (bytes : List ℕ) (i : ℕ) → i ≤ pos bytes → i < length bytes → get_or bytes i 0 ≡ 10 → i ≡ pos bytes
line_here bytes i so_far within here = elim (cases_lt i (pos bytes)) [
  | inl low ↦ let clash : true ≡ false = sym (eq-eqb (get_or bytes i 0) 10 here) ∙ fails_before_first is_newline bytes i 0 low in absurd (let no : ⊥ = cc in no)
  | inr le ↦ omega (arith, le, so_far)
]

pub line_more : (bytes : List ℕ) (i : ℕ) → i ≤ pos bytes → i < length bytes → (get_or bytes i 0 ≡ 10 → ⊥) → i + 1 ≤ pos bytes
line_more bytes i so_far within other = elim (cases_lt i (pos bytes)) [
  | inl low ↦ omega (arith, low)
  | inr le ↦
      let same : pos bytes ≡ i = omega (arith, le, so_far) in
      let here = passes_at_first is_newline bytes 0 (omega (arith, same, within)) in
      absurd (other (ap (λ (k : ℕ). get_or bytes k 0) (sym same) ∙ eqb-true (get_or bytes (pos bytes) 0) 10 here))
]

pub line_end : (bytes : List ℕ) (i : ℕ) → i ≤ pos bytes → length bytes ≤ i → length bytes ≡ pos bytes
line_end bytes i so_far past = omega (arith, so_far, past, pos_within bytes)

pub within : (bytes : List ℕ) (len : ℕ) → IsWithin bytes (line_in (length bytes) len)
within bytes len = elim (cases_lt LONGEST_LINE len) [
  | inl long ↦ subst (λ (b : Bool). IsWithin bytes (cond b Broken (cond (ltb len (length bytes)) (Whole len) (cond (eqb len 0) End Broken)))) (sym (lt-ltb LONGEST_LINE len long)) tt
  | inr short ↦
      subst (λ (b : Bool). IsWithin bytes (cond b Broken (cond (ltb len (length bytes)) (Whole len) (cond (eqb len 0) End Broken)))) (sym (le-ltb LONGEST_LINE len short))
      (elim (cases_lt len (length bytes)) [
        | inl low ↦ subst (λ (b : Bool). IsWithin bytes (cond b (Whole len) (cond (eqb len 0) End Broken))) (sym (lt-ltb len (length bytes) low)) (low, short)
        | inr all ↦ subst (λ (b : Bool). IsWithin bytes (cond b (Whole len) (cond (eqb len 0) End Broken))) (sym (le-ltb len (length bytes) all)) (nothing (eqb len 0))
      ])
]
  where
    nothing : (b : Bool) → IsWithin bytes (cond b End Broken)
    nothing true = tt
    nothing false = tt

-- ---- one more piece

pub open_is : (count len : ℕ) (ended : Bool) → is_open count len ended ≡ true → (len ≡ count) × (len ≤ LONGEST_LINE) × (ended ≡ false)
open_is count len ended e =
    let a = and_parts (eqb len count) (leb len LONGEST_LINE && not ended) e in
    let b = and_parts (leb len LONGEST_LINE) (not ended) a.1 in
    (eqb-true len count a.0, leb-true len LONGEST_LINE b.0, not-true ended b.1)

pub still_far : (old new behind after : List ℕ) (ended : Bool) → new ++ after ≡ old ++ behind → (IsTrue ended → after ≡ []) → (ended ≡ false → length old < length new) → pos old ≡ length old → length old ≤ pos new
still_far old new behind after true same ends more none =
    let sum = length-append old behind in
    let all : length (new ++ []) ≡ length (old ++ behind) = ap length (ap (λ (t : List ℕ). new ++ t) (sym (ends refl)) ∙ same) in
    let short : length (new ++ []) ≡ length new = ap length (append-nil new) in
    still_none old new behind after same (omega (arith, sum, all, short)) none
still_far old new behind after false same ends more none =
    let long = more refl in
    still_none old new behind after same (omega (arith, long)) none

-- by what was asked of the window
pub open_by : (bytes asked : List ℕ) (len : ℕ) (ended told answer b : Bool) → asked ≡ bytes → told ≡ ended → answer ≡ is_open (length asked) len told → answer ≡ b → is_open (length bytes) len ended ≡ b
open_by bytes asked len ended told answer b same_bytes same_end is e = ap₂ (λ (t : List ℕ) (x : Bool). is_open (length t) len x) (sym same_bytes) (sym same_end) ∙ sym is ∙ e
