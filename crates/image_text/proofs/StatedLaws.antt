-- What a line states, and the first rule that it breaks.
use Rattle.std.proofs.Common.{◌≡◌, ℕ, ◌+◌, ◌<◌, Bool, true, false, cond, leb, List, [], ◌∷◌, length, Option, Some, None, Result, Ok, Err, refl, sym, ap, ap₂, ◌∙◌, arith}
use Rattle.std.specs.Prelude.{IfErr, IfOk, option_map}
use Rattle.std.proofs.lemmas.Bool.{ne_eqb}
use Rattle.long_names.specs.declared.object.Rec.{Rec}
use Rattle.image_format.specs.declared.fault.Break.{Break}
use Rattle.image_format.specs.declared.head.TheConstants.{FEWEST_OBJECTS}
use Rattle.image_format.specs.Heads.{is_next}
use Rattle.image_format.specs.Rules.{break}
use Rattle.text_lines.specs.Breaks.{◌>>=◌, head_at, image_of, keeping, keeps_state, lines_at, object_at, objects_at, stated}
use Rattle.text_lines.specs.Grammar as grammar
use Rattle.text_lines.specs.Grammar.{Head, head_of, line_head, line_object, object_of}
use Rattle.text_lines.specs.Inside.{head_as, stated_as}
use Rattle.text_lines.specs.declared.limits.TheConstants.{LONGEST_LINE}
use Rattle.text_lines.specs.declared.line.Head.{Head as HeadRead}
use Rattle.text_lines.specs.declared.line.Stated.{Stated}
use Rattle.text_lines.proofs.LineLaws.{long_parts}
use Rattle.image_text.specs.Lines.{head_kept, head_read, object_kept}

-- ---- by what it states

pub head_by : (line : List ℕ) → head_at line ≡ stated 1 (line_head line) >>= head_kept
unfolding head_at
head_by line = refl

pub object_by : (number last next : ℕ) (line : List ℕ) → object_at number last next line ≡ stated number (line_object line) >>= object_kept number last next
unfolding object_at
object_by number last next line = refl

-- ---- a line that is too long

head_long : (line : List ℕ) → LONGEST_LINE < length line → head_at line ≡ Err (break 0 1)
head_long line long = head_by line ∙ ap (λ (o : Option (List (List ℕ))). stated 1 (grammar.◌>>=◌ o head_of) >>= head_kept) (long_parts line long)

object_long : (number last next : ℕ) (line : List ℕ) → LONGEST_LINE < length line → object_at number last next line ≡ Err (break 0 number)
object_long number last next line long = object_by number last next line ∙ ap (λ (o : Option (List (List ℕ))). stated number (grammar.◌>>=◌ o object_of) >>= object_kept number last next) (long_parts line long)

pub long_first : (line : List ℕ) (others : List (List ℕ)) → LONGEST_LINE < length line → lines_at (line ∷ others) ≡ Err (break 0 1)
unfolding lines_at
long_first line [] long = refl
long_first line (more ∷ lines) long = ap (λ (r : Result Head Break). r >>= λ head. objects_at 2 0 head.next (more ∷ lines) >>= λ recs. keeping 3 1 (leb FEWEST_OBJECTS (length recs)) >>= λ enough. Ok (image_of head recs)) (head_long line long)

pub long_object : (number last next : ℕ) (line : List ℕ) (others : List (List ℕ)) → LONGEST_LINE < length line → objects_at number last next (line ∷ others) ≡ Err (break 0 number)
unfolding objects_at
long_object number last next line [] long =
    let some : length line ≡ 0 → ⊥ = λ e. omega (arith, e, long) in
    ap (λ (b : Bool). let r : Result (List Rec) Break = cond b (Ok []) (Err (break 0 number)) in r) (ne_eqb (length line) 0 some)
long_object number last next line (more ∷ lines) long =
    ap (λ (r : Result Rec Break). r >>= λ first. objects_at (number + 1) first.name next (more ∷ lines) >>= λ rest. Ok (first ∷ rest)) (object_long number last next line long)

-- ---- the first line

pub no_head : (line : List ℕ) (o : Option HeadRead) → o ≡ option_map head_as (line_head line) → o ≡ None → head_at line ≡ Err (break 0 1)
no_head line o is none = head_by line ∙ go (line_head line) (sym is ∙ none)
  where
    go : (o : Option Head) → option_map head_as o ≡ None → stated 1 o >>= head_kept ≡ Err (break 0 1)
    go None e = refl
    go (Some h) e = let clash : ◌≡◌ {A = Option HeadRead} (Some (head_as h)) None = e in absurd (cc)

pub is_head : (line : List ℕ) (o : Option HeadRead) (h : HeadRead) → o ≡ option_map head_as (line_head line) → o ≡ Some h → head_at line ≡ head_kept (head_read h)
is_head line o h is some = head_by line ∙ go (line_head line) (sym is ∙ some)
  where
    go : (o : Option Head) → option_map head_as o ≡ Some h → stated 1 o >>= head_kept ≡ head_kept (head_read h)
    go None e = let clash : ◌≡◌ {A = Option HeadRead} None (Some h) = e in absurd (cc)
    go (Some g) e = let same : head_as g ≡ h = cc in ap (λ (x : HeadRead). head_kept (head_read x)) same

pub head_next : (h : Head) → is_next h.next ≡ false → head_kept h ≡ Err (break 3 1)
head_next h fails = ap (λ (b : Bool). keeping 3 1 b >>= λ n. keeping 13 1 (keeps_state h) >>= λ s. Ok h) fails

pub head_state : (h : Head) → is_next h.next ≡ true → keeps_state h ≡ false → head_kept h ≡ Err (break 13 1)
head_state h next fails = ap₂ (λ (a b : Bool). keeping 3 1 a >>= λ n. keeping 13 1 b >>= λ s. Ok h) next fails

pub head_whole : (h : Head) → is_next h.next ≡ true → keeps_state h ≡ true → head_kept h ≡ Ok h
head_whole h next state = ap₂ (λ (a b : Bool). keeping 3 1 a >>= λ n. keeping 13 1 b >>= λ s. Ok h) next state

-- ---- an object's line

pub no_object : (number last next : ℕ) (line : List ℕ) (o : Option Stated) → o ≡ option_map stated_as (line_object line) → o ≡ None → object_at number last next line ≡ Err (break 0 number)
no_object number last next line o is none = object_by number last next line ∙ go (line_object line) (sym is ∙ none)
  where
    go : (o : Option Rec) → option_map stated_as o ≡ None → stated number o >>= object_kept number last next ≡ Err (break 0 number)
    go None e = refl
    go (Some r) e = let clash : ◌≡◌ {A = Option Stated} (Some (stated_as r)) None = e in absurd (cc)

pub is_object : (line : List ℕ) (o : Option Stated) (s : Stated) → o ≡ option_map stated_as (line_object line) → o ≡ Some s → (r : Rec) × (line_object line ≡ Some r) × (s ≡ stated_as r)
is_object line o s is some = go (line_object line) refl (sym is ∙ some)
  where
    go : (o : Option Rec) → line_object line ≡ o → option_map stated_as o ≡ Some s → (r : Rec) × (line_object line ≡ Some r) × (s ≡ stated_as r)
    go None at e = let clash : ◌≡◌ {A = Option Stated} None (Some s) = e in absurd (cc)
    go (Some r) at e = let same : stated_as r ≡ s = cc in (r, at, sym same)

pub object_is : (number last next : ℕ) (line : List ℕ) (r : Rec) → line_object line ≡ Some r → object_at number last next line ≡ object_kept number last next r
object_is number last next line r is = object_by number last next line ∙ ap (λ (o : Option Rec). stated number o >>= object_kept number last next) is

-- what a head keeps that was read
pub head_keeps : (line : List ℕ) (h : Head) → head_at line ≡ Ok h → (is_next h.next ≡ true) × (keeps_state h ≡ true)
head_keeps line h e = go (line_head line) (sym (head_by line) ∙ e)
  where
    kept : (g : Head) (a b : Bool) → is_next g.next ≡ a → keeps_state g ≡ b → (keeping 3 1 a >>= λ n. keeping 13 1 b >>= λ s. let x : Result Head Break = Ok g in x) ≡ Ok h → (is_next h.next ≡ true) × (keeps_state h ≡ true)
    kept g true true next state f = let same : g ≡ h = cc in (ap (λ (x : Head). is_next x.next) (sym same) ∙ next, ap (λ (x : Head). keeps_state x) (sym same) ∙ state)
    kept g true false next state f = let clash : ◌≡◌ {A = Result Head Break} (Err (break 13 1)) (Ok h) = f in absurd (cc)
    kept g false b next state f = let clash : ◌≡◌ {A = Result Head Break} (Err (break 3 1)) (Ok h) = f in absurd (cc)

    go : (o : Option Head) → stated 1 o >>= head_kept ≡ Ok h → (is_next h.next ≡ true) × (keeps_state h ≡ true)
    go None f = let clash : ◌≡◌ {A = Result Head Break} (Err (break 0 1)) (Ok h) = f in absurd (cc)
    go (Some g) f = kept g (is_next g.next) (keeps_state g) refl refl f

-- ---- what an answer keeps

pub more_ok : {T E : Type 0} (P Q : T → Type 0) (r : Result T E) → ((x : T) → P x → Q x) → IfOk r P → IfOk r Q
more_ok P Q (Ok x) more p = more x p
more_ok P Q (Err e) more p = tt

pub both_ok : {T E : Type 0} (P Q R : T → Type 0) (r : Result T E) → ((x : T) → P x → Q x → R x) → IfOk r P → IfOk r Q → IfOk r R
both_ok P Q R (Ok x) more p q = more x p q
both_ok P Q R (Err e) more p q = tt

pub more_err : {T E : Type 0} (P Q : E → Type 0) (r : Result T E) → ((e : E) → P e → Q e) → IfErr r P → IfErr r Q
more_err P Q (Ok x) more p = tt
more_err P Q (Err e) more p = more e p
