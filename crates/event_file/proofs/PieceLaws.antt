-- What a piece of the file brings.
use Rattle.std.proofs.Common.{◌≡◌, ℕ, ◌≤◌, ◌+◌, ◌*◌, ◌%◌, List, [], ◌∷◌, ◌++◌, length, All, take, drop, ◌∙◌, sym, ap, ap₂, arith, append_assoc, length-append, length-drop, take-append-drop}
use Rattle.std.proofs.Math.Seq.{take-add}
use Rattle.std.proofs.lemmas.List.{append-nil, drop-drop}
use Rattle.std.proofs.lemmas.List.Elements.{All-head, All-tail}
use Rattle.loom_host.specs.Outside.{RoleState, Took, TookSome, takes}
use Rattle.blue_model.specs.declared.event.Line.{Line}
use Rattle.event_file.specs.Text.{IsLine, line_body, line_text, events_text}
use Rattle.event_file.specs.Inside.{IsLonger, most_text}
use Rattle.event_file.specs.Reading.{Begun, IsBegun, StopsInPiece, begun_text}
use Rattle.event_file.specs.declared.limits.TheConstants.{PIECE}
use Rattle.event_file.proofs.TextLaws.{line-length}

-- ---- how long right lines are

events-length : (lines : List Line) → All IsLine lines → length (events_text lines) ≤ 22 * length lines
events-length [] is = omega arith
events-length (l ∷ lines) is =
    let one = line-length l (All-head IsLine l lines is) in
    let more = events-length lines (All-tail IsLine l lines is) in
    omega (arith, length-append (line_text l) (events_text lines), length-append (line_body l) (10 ∷ []))

pub begun-length : (b : Begun) → IsBegun b → length (begun_text b) ≤ most_text
begun-length b is =
    let lines = events-length b.lines is.right.lines_are in
    let few = is.right.few in
    let line = is.short in
    omega (arith, length-append (events_text b.lines) b.line)

-- ---- bytes that are taken

pub took-none : (s : RoleState) → TookSome 0 s s
took-none s = (0, omega arith, omega arith, ap (λ (t : List ℕ). record s { taken = t }) (sym (append-nil s.taken)))

-- no more is taken than there is
pub took-most : (most : ℕ) (s t : RoleState) → TookSome most s t → TookSome (length s.left) s t
took-most most s t took = (took.0, took.2, took.2, took.3)

pub took-up : (least most : ℕ) (s t : RoleState) → least ≤ most → TookSome least s t → TookSome most s t
took-up least most s t more took = (took.0, (let few = took.1 in omega arith), took.2, took.3)

takes-both : (m n : ℕ) (s : RoleState) → takes n (takes m s) ≡ takes (m + n) s
takes-both m n s = ap₂ (λ (t l : List ℕ). record s { taken = t; left = l }) (append_assoc s.taken (take m s.left) (take n (drop m s.left)) ∙ ap (λ t. s.taken ++ t) (sym (take-add m n s.left))) (drop-drop n m s.left)

pub took-both : (m n : ℕ) (s t u : RoleState) → TookSome m s t → TookSome n t u → TookSome (m + n) s u
took-both m n s t u one two =
    let sizes : length t.left ≡ length (drop one.0 s.left) = ap (λ (r : RoleState). length r.left) one.3 in
    let few = one.1 in
    let there = one.2 in
    let more = two.1 in
    let behind = two.2 in
    (one.0 + two.0, omega arith, omega (arith, sizes, length-drop one.0 s.left), two.3 ∙ ap (takes two.0) one.3 ∙ takes-both one.0 two.0 s)

-- what was read grows by what was taken
pub took-more : (piece : ℕ) (b c : List ℕ) (s t u : RoleState) → TookSome (length b) s t → TookSome piece t u → c ++ u.left ≡ b ++ t.left
    → TookSome (length c) s u
took-more piece b c s t u one two text =
    let sizes : length u.left ≡ length (drop two.0 t.left) = ap (λ (r : RoleState). length r.left) two.3 in
    let both = ap length text in
    let behind = two.2 in
    let grown : length c ≡ length b + two.0 = omega (arith, sizes, both, length-drop two.0 t.left, length-append c u.left, length-append b t.left) in
    took-up (length b + two.0) (length c) s u (omega (arith, grown)) (took-both (length b) two.0 s t u one (two.0, omega arith, behind, two.3))

-- ---- where reading stops

-- whole pieces, and one more
pub aligned-more : (b c : Begun) → length (begun_text b) % PIECE ≡ 0 → IsLonger PIECE b c → length (begun_text c) % PIECE ≡ 0
aligned-more b c whole more = let longer = more.longer in omega arith

-- the piece behind what was begun shows that a line is bad, or the end of the file behind it does
pub stops-then : (b : Begun) (s t u : RoleState) → IsBegun b → length (begun_text b) % PIECE ≡ 0 → TookSome (length (begun_text b)) s t → TookSome PIECE t u
    → begun_text b ++ t.left ≡ s.left → StopsInPiece s u
stops-then b s t u is whole one two text = record {
  before = b;
  before_is = is;
  aligned = whole;
  rest = t.left;
  split = sym text;
  taken = took-both (length (begun_text b)) PIECE s t u one two;
}

-- ---- a piece and what is left behind it

pub piece-text : (old new : List ℕ) (n : ℕ) (buf : List ℕ) (s t : RoleState) → Took n buf s t → new ≡ old ++ take n buf → new ++ t.left ≡ old ++ s.left
piece-text old new n buf s t took more =
    ap₂ (λ (x y : List ℕ). x ++ y) (more ∙ ap (λ x. old ++ x) took.bytes) (ap (λ (r : RoleState). r.left) took.state)
    ∙ append_assoc old (take n s.left) (drop n s.left)
    ∙ ap (λ x. old ++ x) (take-append-drop n s.left)
