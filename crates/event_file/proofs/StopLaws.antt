-- How far reading goes behind a bad line.
use Rattle.std.proofs.Common.{◌≡◌, ◌≢◌, ℕ, ◌<◌, ◌≤◌, ◌+◌, ◌*◌, ◌/◌, ◌%◌, ◌==◌, List, [], ◌∷◌, ◌++◌, length, ◌∙◌, refl, sym, ap, subst, arith, append_assoc, length-append}
use Rattle.std.proofs.lemmas.Bool.Decides.{nat_tests}
use Rattle.std.proofs.lemmas.List.{append-nil}
use Rattle.std.proofs.lemmas.List.Elements.{All-head, All-tail}
use Rattle.std.specs.List.{position_or_len}
use Rattle.loom_host.specs.Outside.{RoleState, TookSome}
use Rattle.blue_model.specs.declared.event.Line.{Line}
use Rattle.event_file.specs.Text.{AreRight, EndsThere, IsBadAt, line_body, line_text, events_text}
use Rattle.event_file.specs.Reading.{StopsInPiece, begun_text, unseen}
use Rattle.event_file.specs.declared.limits.TheConstants.{LONGEST, MOST_LINES, PIECE}
use Rattle.event_file.proofs.OneReading.{line-is, right-line}
use Rattle.event_file.proofs.PieceLaws.{took-up}
use Rattle.event_file.proofs.TextLaws.{IsFree, line-same, stops-behind}

-- the first end of a line comes behind what has none
first-behind : (line r : List ℕ) → IsFree 10 line → length line ≤ position_or_len (λ byte. byte == 10) (line ++ r)
first-behind [] r free = omega arith
first-behind (byte ∷ line) r free =
    let other = All-head (λ b. b ≢ 10) byte line free in
    let behind = first-behind line r (All-tail (λ b. b ≢ 10) byte line free) in
    grind (arith, nat_tests)

-- a line that has begun where one may come has no more bytes than stand before the one that shows it bad
begun-unseen : (line r s : List ℕ) (count : ℕ) → IsFree 10 line → length line ≤ LONGEST → count < MOST_LINES → line ++ r ≡ s → length line ≤ unseen count s
begun-unseen line r s count free short few e =
    let behind : length line ≤ position_or_len (λ byte. byte == 10) s = subst (λ (t : List ℕ). length line ≤ position_or_len (λ byte. byte == 10) t) e (first-behind line r free) in
    grind (arith, nat_tests)

-- right lines and a line that has begun end no later than the bad line shows
begun-most : (front a b : List Line) (line r s : List ℕ) (count : ℕ) → AreRight (front ++ a) → AreRight (front ++ b) → IsFree 10 line → length line ≤ LONGEST
    → (line ≢ [] → length (front ++ a) < MOST_LINES) → length (front ++ b) ≡ count → EndsThere (front ++ b) s
    → events_text a ++ (line ++ r) ≡ events_text b ++ s → length (events_text a) + length line ≤ length (events_text b) + unseen count s
begun-most front [] [] [] r s count ra rb free short room counted ends e = omega arith
begun-most front [] [] (byte ∷ line) r s count ra rb free short room counted ends e =
    let may : length (front ++ []) < MOST_LINES = room (λ none. absurd (let sizes = ap length none in omega arith)) in
    let behind = begun-unseen (byte ∷ line) r s count free short (subst (λ (n : ℕ). n < MOST_LINES) counted may) e in
    omega arith
begun-most front [] (l ∷ b) line r s count ra rb free short room counted ends e =
    let split : line ++ r ≡ line_body l ++ 10 ∷ (events_text b ++ s) =
    e ∙ append_assoc (line_text l) (events_text b) s ∙ append_assoc (line_body l) (10 ∷ []) (events_text b ++ s) in
    let behind = stops-behind 10 line (line_body l) r (events_text b ++ s) free split in
    omega (arith, length-append (line_text l) (events_text b), length-append (line_body l) (10 ∷ []))
begun-most front (k ∷ a) [] line r s count ra rb free short room counted ends e =
    absurd (ends k (events_text a ++ (line ++ r)) (subst (λ (x : List Line). AreRight (x ++ k ∷ [])) (sym (append-nil front)) (right-line front k a ra))
    (sym e ∙ append_assoc (line_text k) (events_text a) (line ++ r)))
begun-most front (k ∷ a) (l ∷ b) line r s count ra rb free short room counted ends e =
    let isk = line-is front k (right-line front k a ra) in
    let isl = line-is front l (right-line front l b rb) in
    let first = line-same k l (events_text a ++ (line ++ r)) (events_text b ++ s) isk isl
    (sym (append_assoc (line_text k) (events_text a) (line ++ r)) ∙ e ∙ append_assoc (line_text l) (events_text b) s) in
    let there : (x : List Line) → front ++ l ∷ x ≡ (front ++ l ∷ []) ++ x = λ x. sym (append_assoc front (l ∷ []) x) in
    let same : AreRight (front ++ l ∷ a) = subst (λ (x : Line). AreRight (front ++ x ∷ a)) first.line ra in
    let few : line ≢ [] → length ((front ++ l ∷ []) ++ a) < MOST_LINES = λ some.
    let before = room some in
    omega (arith, length-append front (k ∷ a), length-append (front ++ l ∷ []) a, length-append front (l ∷ [])) in
    let h = begun-most (front ++ l ∷ []) a b line r s count (subst AreRight (there a) same) (subst AreRight (there b) rb) free short few
    (subst (λ (x : List Line). length x ≡ count) (there b) counted)
    (subst (λ (x : List Line). EndsThere x s) (there b) ends) first.rest in
    let sizes : length (line_text k) ≡ length (line_text l) = ap (λ (x : Line). length (line_text x)) first.line in
    omega (arith, length-append (line_text k) (events_text a), length-append (line_text l) (events_text b))

-- whole pieces that end no later than a place end no later than the piece that holds it begins
whole-pieces : (m shown : ℕ) → m % PIECE ≡ 0 → m ≤ shown → m + PIECE ≤ PIECE * (shown / PIECE + 1)
whole-pieces m shown whole few = omega arith

pub stops-soon : (number : ℕ) (old new : RoleState) (bad : IsBadAt number old.left) → StopsInPiece old new
    → TookSome (PIECE * ((length (events_text bad.lines) + unseen (length bad.lines) bad.rest) / PIECE + 1)) old new
stops-soon number old new bad stops =
    let b = stops.before in
    let most = begun-most [] b.lines bad.lines b.line stops.rest bad.rest (length bad.lines) stops.before_is.right bad.right stops.before_is.unended stops.before_is.short stops.before_is.room refl bad.bad
    (sym (append_assoc (events_text b.lines) b.line stops.rest) ∙ sym stops.split ∙ bad.split) in
    let shown = length (events_text bad.lines) + unseen (length bad.lines) bad.rest in
    took-up (length (begun_text b) + PIECE) (PIECE * (shown / PIECE + 1)) old new
    (whole-pieces (length (begun_text b)) shown stops.aligned (omega (arith, length-append (events_text b.lines) b.line))) stops.taken
