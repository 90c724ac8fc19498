-- Why a line is bad, and what comes of one that is right.
use Rattle.std.proofs.Common.{◌≡◌, ◌≢◌, ℕ, zero, suc, ◌<◌, ◌≤◌, ◌+◌, List, [], ◌∷◌, ◌++◌, length, Some, Result, Ok, Err, IsErrAnd, slice_get, get_or, take, drop, take-append-drop, add-one, refl, ◌∙◌, sym, ap, subst, arith, append_assoc, length-append}
use Rattle.std.proofs.Math.Seq.{drop-cons}
use Rattle.std.proofs.lemmas.List.{flat_map_more, append-nil}
use Rattle.std.proofs.lemmas.List.Elements.{All-nil, All-cons, All-push, All-pop}
use Rattle.blue_model.specs.declared.event.Line.{Line}
use Rattle.blue_model.specs.Devices.{AreRising}
use Rattle.event_file.specs.declared.fault.EventFault.{EventFault}
use Rattle.event_file.specs.declared.fault.EventFault.TheVariants.{Bad}
use Rattle.event_file.specs.Text.{IsLine, AreRight, EndsThere, IsBadAt, line_body, line_text, events_text}
use Rattle.event_file.specs.Reading.{Begun, IsBegun, begun_text}
use Rattle.event_file.specs.declared.limits.TheConstants.{MOST_LINES, LONGEST}
use Rattle.event_file.proofs.TextLaws.{cut, stops-behind, line-free, line-length, body-same}

-- ---- lines that rise

rising-goes : (count : ℕ) (lines : List Line) (k : ℕ) (last l : Line) → suc k ≡ length lines → slice_get lines k ≡ Some last → AreRising count lines → last.count ≤ l.count → AreRising count (lines ++ l ∷ [])
rising-goes count [] k last l len at rising above = absurd (omega arith)
rising-goes count (x ∷ []) zero last l len at rising above = let same : x ≡ last = cc in (rising.0, (subst (λ (y : Line). y.count ≤ l.count) (sym same) above, tt))
rising-goes count (x ∷ []) (suc k) last l len at rising above = absurd (omega arith)
rising-goes count (x ∷ y ∷ lines) zero last l len at rising above = absurd (omega arith)
rising-goes count (x ∷ y ∷ lines) (suc k) last l len at rising above = (rising.0, rising-goes x.count (y ∷ lines) k last l (omega arith) at rising.1 above)

rising-was : (count : ℕ) (lines : List Line) (k : ℕ) (last l : Line) → suc k ≡ length lines → slice_get lines k ≡ Some last → AreRising count (lines ++ l ∷ []) → last.count ≤ l.count
rising-was count [] k last l len at rising = absurd (omega arith)
rising-was count (x ∷ []) zero last l len at rising = let same : x ≡ last = cc in subst (λ (y : Line). y.count ≤ l.count) same rising.1.0
rising-was count (x ∷ []) (suc k) last l len at rising = absurd (omega arith)
rising-was count (x ∷ y ∷ lines) zero last l len at rising = absurd (omega arith)
rising-was count (x ∷ y ∷ lines) (suc k) last l len at rising = rising-was x.count (y ∷ lines) k last l (omega arith) at rising.1

-- a line may come behind the last one, where there is room, and its count is no lower
pub right-first : (lines : List Line) (l : Line) → length lines ≡ 0 → IsLine l → AreRight (lines ++ l ∷ [])
right-first [] l none is = record { lines_are = All-cons IsLine l [] is (All-nil IsLine); rising = (omega arith, tt); few = omega arith }
right-first (x ∷ lines) l none is = absurd (omega arith)

pub right-next : (lines : List Line) (k : ℕ) (last l : Line) → suc k ≡ length lines → slice_get lines k ≡ Some last → length lines < MOST_LINES → AreRight lines → IsLine l → last.count ≤ l.count → AreRight (lines ++ l ∷ [])
right-next lines k last l len at room right is above = record {
  lines_are = All-push IsLine lines l right.lines_are is;
  rising = rising-goes 0 lines k last l len at right.rising above;
  few = omega (arith, length-append lines (l ∷ []));
}

pub right-was : (lines : List Line) (k : ℕ) (last l : Line) → suc k ≡ length lines → slice_get lines k ≡ Some last → AreRight (lines ++ l ∷ []) → last.count ≤ l.count
right-was lines k last l len at right = rising-was 0 lines k last l len at right.rising

pub right-room : (lines : List Line) (l : Line) → AreRight (lines ++ l ∷ []) → length lines < MOST_LINES
right-room lines l right = let few = right.few in omega (arith, length-append lines (l ∷ []))

pub right-line : (lines : List Line) (l : Line) → AreRight (lines ++ l ∷ []) → IsLine l
right-line lines l right = (All-pop IsLine (lines ++ l ∷ []) lines (Some l) refl right.lines_are).1

-- ---- bad lines

pub bad-at : (b : Begun) (rest : List ℕ) → IsBegun b → b.line ++ rest ≢ [] → EndsThere b.lines (b.line ++ rest) → IsBadAt (length b.lines + 1) (begun_text b ++ rest)
bad-at b rest is some ends = record {
  lines = b.lines;
  rest = b.line ++ rest;
  split = append_assoc (events_text b.lines) b.line rest;
  right = is.right;
  place = refl;
  some = some;
  bad = ends;
}

some-behind : (x s : List ℕ) (c : ℕ) → x ++ c ∷ s ≢ []
some-behind x s c e = let none = ap length e in let both = length-append x (c ∷ s) in absurd (omega arith)

-- there is no room
pub bad-full : (b : Begun) (byte : ℕ) (rest : List ℕ) → IsBegun b → length b.lines ≡ MOST_LINES → IsBadAt (length b.lines + 1) (begun_text b ++ byte ∷ rest)
bad-full b byte rest is full = bad-at b (byte ∷ rest) is (some-behind b.line rest byte) (λ l tail right same. let room = right-room b.lines l right in absurd (omega arith))

-- the line is too long
pub bad-long : (b : Begun) (byte : ℕ) (rest : List ℕ) → IsBegun b → length b.line ≡ LONGEST → byte ≢ 10 → IsBadAt (length b.lines + 1) (begun_text b ++ byte ∷ rest)
bad-long b byte rest is long other = bad-at b (byte ∷ rest) is (some-behind b.line rest byte) (λ l tail right same.
    let line = right-line b.lines l right in
    let most = line-length l line in
    let free = All-push (λ c. c ≢ 10) b.line byte is.unended other in
    let e : (b.line ++ byte ∷ []) ++ rest ≡ line_body l ++ 10 ∷ tail = append_assoc b.line (byte ∷ []) rest ∙ same ∙ append_assoc (line_body l) (10 ∷ []) tail in
    let behind = stops-behind 10 (b.line ++ byte ∷ []) (line_body l) rest tail free e in
    absurd (omega (arith, length-append b.line (byte ∷ []))))

-- it is none
pub bad-none : (b : Begun) (rest : List ℕ) → IsBegun b → ((l : Line) → IsLine l → b.line ≢ line_body l) → IsBadAt (length b.lines + 1) (begun_text b ++ 10 ∷ rest)
bad-none b rest is none = bad-at b (10 ∷ rest) is (some-behind b.line rest 10) (λ l tail right same.
    let line = right-line b.lines l right in
    let c = cut 10 b.line (line_body l) rest tail is.unended (line-free l line) (same ∙ append_assoc (line_body l) (10 ∷ []) tail) in
    none l line c.front)

-- it is one that may not come here
pub bad-next : (b : Begun) (m : Line) (rest : List ℕ) → IsBegun b → IsLine m → b.line ≡ line_body m → (AreRight (b.lines ++ m ∷ []) → ⊥) → IsBadAt (length b.lines + 1) (begun_text b ++ 10 ∷ rest)
bad-next b m rest is m_is body never = bad-at b (10 ∷ rest) is (some-behind b.line rest 10) (λ l tail right same.
    let line = right-line b.lines l right in
    let c = cut 10 b.line (line_body l) rest tail is.unended (line-free l line) (same ∙ append_assoc (line_body l) (10 ∷ []) tail) in
    let both : m ≡ l = body-same m l m_is line (sym body ∙ c.front) in
    never (subst (λ (k : Line). AreRight (b.lines ++ k ∷ [])) (sym both) right))

-- the text ends before it
pub bad-end : (b : Begun) → IsBegun b → b.line ≢ [] → IsBadAt (length b.lines + 1) (begun_text b)
bad-end b is some = subst (IsBadAt (length b.lines + 1)) (append-nil (begun_text b)) (bad-at b [] is (λ e. some (sym (append-nil b.line) ∙ e)) (λ l tail right same.
    let e : b.line ++ [] ≡ line_body l ++ 10 ∷ tail = same ∙ append_assoc (line_body l) (10 ∷ []) tail in
    let behind = stops-behind 10 b.line (line_body l) [] tail is.unended e in
    let sizes = ap length e in
    absurd (omega (arith, length-append b.line [], length-append (line_body l) (10 ∷ tail)))))

-- ---- what was read, after one byte more

pub text-push : (lines : List Line) (line : List ℕ) (byte : ℕ) → events_text lines ++ (line ++ byte ∷ []) ≡ (events_text lines ++ line) ++ byte ∷ []
text-push lines line byte = sym (append_assoc (events_text lines) line (byte ∷ []))

pub text-line : (lines : List Line) (line : List ℕ) (l : Line) → line ≡ line_body l → events_text (lines ++ l ∷ []) ++ [] ≡ (events_text lines ++ line) ++ 10 ∷ []
text-line lines line l body =
    append-nil (events_text (lines ++ l ∷ []))
    ∙ sym (flat_map_more line_text [] lines l)
    ∙ ap (λ (s : List ℕ). events_text lines ++ (s ++ 10 ∷ [])) (sym body)
    ∙ text-push lines line 10

pub begun-push : (b : Begun) (byte : ℕ) → IsBegun b → byte ≢ 10 → length b.lines ≢ MOST_LINES → length b.line ≢ LONGEST → IsBegun (record { lines = b.lines; line = b.line ++ byte ∷ [] })
begun-push b byte is other room short = record {
  right = is.right;
  unended = All-push (λ c. c ≢ 10) b.line byte is.unended other;
  room = λ some. let few = is.right.few in grind arith;
  short = let was = is.short in let sizes = length-append b.line (byte ∷ []) in grind arith;
}

pub begun-line : (b : Begun) (l : Line) → IsBegun b → AreRight (b.lines ++ l ∷ []) → IsBegun (record { lines = b.lines ++ l ∷ []; line = [] })
begun-line b l is right = record { right = right; unended = All-nil (λ c. c ≢ 10); room = λ some. absurd (some refl); short = omega arith }

pub begun-none : IsBegun (record { lines = []; line = [] })
begun-none = record { right = record { lines_are = All-nil IsLine; rising = tt; few = omega arith }; unended = All-nil (λ c. c ≢ 10); room = λ some. absurd (some refl); short = omega arith }

-- ---- the answer names the line

pub named : {A : Type 0} (b : Begun) (f : EventFault) (line : ℕ) (text : List ℕ) → f ≡ Bad (length b.lines + 1) → ◌≡◌ {A = Result A EventFault} (Err f) (Err (Bad line)) → IsBadAt (length b.lines + 1) text → IsBadAt line text
named b f line text is was bad = let same : length b.lines + 1 ≡ line = cc in subst (λ n. IsBadAt n text) same bad

-- an error that a `?` hands on is the callee's
pub passed : {A : Type 0} (r : Result A EventFault) (f e : EventFault) → IsErrAnd r (λ x. x ≡ f) → r ≡ Err e → f ≡ e
passed (Ok x) f e is was = absurd is
passed (Err x) f e is was = let same : x ≡ e = cc in sym is ∙ same

-- ---- the bytes before, at and behind a place

pub text-at : (old bytes rest : List ℕ) (i : ℕ) → i < length bytes → (old ++ bytes) ++ rest ≡ (old ++ take i bytes) ++ get_or bytes i 0 ∷ (drop (i + 1) bytes ++ rest)
text-at old bytes rest i h =
    let there : get_or bytes i 0 ∷ drop (i + 1) bytes ≡ drop i bytes = sym (rw (add-one, drop-cons bytes i 0) refl) in
    ap (λ s. (old ++ s) ++ rest) (sym (take-append-drop i bytes))
    ∙ ap (λ s. s ++ rest) (sym (append_assoc old (take i bytes) (drop i bytes)))
    ∙ append_assoc (old ++ take i bytes) (drop i bytes) rest
    ∙ ap (λ s. (old ++ take i bytes) ++ (s ++ rest)) (sym there)
