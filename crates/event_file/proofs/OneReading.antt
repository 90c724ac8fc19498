-- A text is read in one way.
use Rattle.std.proofs.Common.{◌≡◌, ℕ, ◌≤◌, List, [], ◌∷◌, ◌++◌, length, All, refl, ◌∙◌, sym, ap, ap₂, subst, arith, append_assoc, length-append, slice_index_or}
use Rattle.std.proofs.lemmas.List.{append-nil, take_at}
use Rattle.std.proofs.lemmas.List.Elements.{All-head, All-tail, All-take}
use Rattle.blue_model.specs.declared.event.Line.{Line}
use Rattle.blue_model.specs.Devices.{AreRising}
use Rattle.event_file.specs.Text.{IsLine, AreRight, EndsThere, IsBadAt, line_body, line_text, events_text}
use Rattle.event_file.proofs.TextLaws.{line-same}

none-there : (l : Line) (s t : List ℕ) → [] ≡ (line_text l ++ s) ++ t → ⊥
none-there l s t e =
    let sizes = ap length e in
    absurd (omega (arith, length-append (line_text l ++ s) t, length-append (line_text l) s, length-append (line_body l) (10 ∷ [])))

-- ---- one list

pub one-list : (a b : List Line) → All IsLine a → All IsLine b → events_text a ≡ events_text b → a ≡ b
one-list [] [] isa isb e = refl
one-list [] (l ∷ b) isa isb e = absurd (none-there l (events_text b) [] (e ∙ sym (append-nil (line_text l ++ events_text b))))
one-list (k ∷ a) [] isa isb e = absurd (none-there k (events_text a) [] (sym e ∙ sym (append-nil (line_text k ++ events_text a))))
one-list (k ∷ a) (l ∷ b) isa isb e =
    let first = line-same k l (events_text a) (events_text b) (All-head IsLine k a isa) (All-head IsLine l b isb) e in
    ap₂ (λ (x : Line) (xs : List Line). x ∷ xs) first.line (one-list a b (All-tail IsLine k a isa) (All-tail IsLine l b isb) first.rest)

-- ---- right lines begin with right lines

rising-front : (count : ℕ) (a b : List Line) → AreRising count (a ++ b) → AreRising count a
rising-front count [] b rising = tt
rising-front count (k ∷ a) b rising = (rising.0, rising-front k.count a b rising.1)

right-front : (a b : List Line) → AreRight (a ++ b) → AreRight a
right-front a b right = record {
  lines_are = subst (All IsLine) (take_at a b (length a) refl) (All-take IsLine (length a) (a ++ b) right.lines_are);
  rising = rising-front 0 a b right.rising;
  few = let few = right.few in omega (arith, length-append a b);
}

pub right-line : (front : List Line) (l : Line) (b : List Line) → AreRight (front ++ l ∷ b) → AreRight (front ++ l ∷ [])
right-line front l b right = right-front (front ++ l ∷ []) b (subst AreRight (sym (append_assoc front (l ∷ []) b)) right)

pub line-is : (front : List Line) (l : Line) → AreRight (front ++ l ∷ []) → IsLine l
line-is front l right = subst IsLine (get-there front l) (right.lines_are (length front) l (omega (arith, length-append front (l ∷ []))))
  where
    get-there : (front : List Line) (l : Line) → slice_index_or (front ++ l ∷ []) (length front) l ≡ l
    get-there [] l = refl
    get-there (k ∷ front) l = get-there front l

-- ---- where nothing goes on behind the lines a, no right lines are more

pub no-more : (front a b : List Line) (r s : List ℕ) → AreRight (front ++ a) → AreRight (front ++ b) → EndsThere (front ++ a) r → events_text a ++ r ≡ events_text b ++ s → length b ≤ length a
no-more front a [] r s ra rb ends e = omega arith
no-more front [] (l ∷ b) r s ra rb ends e =
    absurd (ends l (events_text b ++ s) (subst (λ (x : List Line). AreRight (x ++ l ∷ [])) (sym (append-nil front)) (right-line front l b rb)) (e ∙ append_assoc (line_text l) (events_text b) s))
no-more front (k ∷ a) (l ∷ b) r s ra rb ends e =
    let isk = line-is front k (right-line front k a ra) in
    let isl = line-is front l (right-line front l b rb) in
    let first = line-same k l (events_text a ++ r) (events_text b ++ s) isk isl (sym (append_assoc (line_text k) (events_text a) r) ∙ e ∙ append_assoc (line_text l) (events_text b) s) in
    let there : (x : List Line) → front ++ k ∷ x ≡ (front ++ k ∷ []) ++ x = λ x. sym (append_assoc front (k ∷ []) x) in
    let same : AreRight (front ++ k ∷ b) = subst (λ (x : Line). AreRight (front ++ x ∷ b)) (sym first.line) rb in
    let h = no-more (front ++ k ∷ []) a b r s (subst AreRight (there a) ra) (subst AreRight (there b) same) (subst (λ (x : List Line). EndsThere x r) (there a) ends) first.rest in
    omega arith

pub one-bad : (j k : ℕ) (text : List ℕ) → IsBadAt j text → IsBadAt k text → j ≡ k
one-bad j k text one other =
    let up = no-more [] one.lines other.lines one.rest other.rest one.right other.right one.bad (sym one.split ∙ other.split) in
    let down = no-more [] other.lines one.lines other.rest one.rest other.right one.right other.bad (sym other.split ∙ one.split) in
    let pj = one.place in
    let pk = other.place in
    omega arith

-- ---- where right lines are all, nothing is left behind fewer or as many

none-left : (a b : List Line) (r : List ℕ) → All IsLine a → All IsLine b → length b ≤ length a → events_text a ++ r ≡ events_text b → r ≡ []
none-left [] [] r isa isb few e = e
none-left [] (l ∷ b) r isa isb few e = absurd (omega arith)
none-left (k ∷ a) [] r isa isb few e = absurd (none-there k (events_text a) r (sym e))
none-left (k ∷ a) (l ∷ b) r isa isb few e =
    let first = line-same k l (events_text a ++ r) (events_text b) (All-head IsLine k a isa) (All-head IsLine l b isb) (sym (append_assoc (line_text k) (events_text a) r) ∙ e) in
    none-left a b r (All-tail IsLine k a isa) (All-tail IsLine l b isb) (omega arith) first.rest

pub none-bad : (lines : List Line) (k : ℕ) → AreRight lines → IsBadAt k (events_text lines) → ⊥
none-bad lines k right bad =
    let few = no-more [] bad.lines lines bad.rest [] bad.right right bad.bad (sym bad.split ∙ sym (append-nil (events_text lines))) in
    bad.some (none-left bad.lines lines bad.rest bad.right.lines_are right.lines_are few (sym bad.split))
