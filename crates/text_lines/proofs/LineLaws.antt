-- What lines state, from their parts.
use Rattle.std.proofs.Common.{◌≡◌, ◌≢◌, ℕ, ℤ, pos, negsuc, ◌^◌, ◌<◌, ◌≤◌, Bool, true, false, cond, min, List, [], ◌∷◌, length, get_or, Option, Some, None, refl, sym, ap, ap₂, ◌∙◌, arith}
use Rattle.std.specs.Prelude.{option_map, IfNone}
use Rattle.std.specs.List.{slice_split}
use Rattle.std.specs.Int.{w16}
use Rattle.std.specs.Option.{option_and_then}
use Rattle.std.proofs.lemmas.Bool.{le-ltb, lt-ltb, ltb-true}
use Rattle.std.proofs.lemmas.Int.{to_z-of_z}
use Rattle.long_names.specs.declared.value.Value.{Value}
use Rattle.long_names.specs.declared.object.Kind.{Kind}
use Rattle.long_names.specs.declared.object.Body.{Body}
use Rattle.long_names.specs.declared.object.Body.TheVariants.{Method}
use Rattle.long_names.specs.declared.object.Rec.{Rec}
use Rattle.text_lines.specs.declared.limits.TheConstants.{LONGEST_LINE}
use Rattle.text_lines.specs.declared.line.Stated.{Stated}
use Rattle.text_lines.specs.Grammar.{◌>>=◌, Head, body_of, code_of, each_of, head_of, line_head, line_object, method_of, object_of, parts_of}
use Rattle.text_lines.specs.declared.line.Head.{Head as HeadRead}
use Rattle.text_lines.specs.Inside.{head_as, stated_as}
use Rattle.text_lines.proofs.EachLaws.{each_length}
use Rattle.text_lines.specs.Parts.{is_space, before_i, is_loom, is_small, kind_of, long_of, name_of, number_of, signed_of, small_of, that_is}
use mir.Val.{SFits, of_z, to_z}

-- ---- a line's parts

pub short_parts : (line : List ℕ) (parts : List (List ℕ)) → length line ≤ LONGEST_LINE → slice_split is_space line ≡ parts → parts_of line ≡ Some parts
short_parts line parts short e = ap (λ (b : Bool). cond b None (Some (slice_split is_space line))) (le-ltb LONGEST_LINE (length line) short) ∙ ap Some e

pub long_parts : (line : List ℕ) → LONGEST_LINE < length line → parts_of line ≡ None
long_parts line long = ap (λ (b : Bool). cond b None (Some (slice_split is_space line))) (lt-ltb LONGEST_LINE (length line) long)

pub if_is_none : {X : Type 0} {P : Type 0} (o : Option X) → (o ≡ None → P) → IfNone o P
if_is_none None f = f refl
if_is_none (Some x) f = tt

-- what an object's line states, from its parts
pub object_gives : (line : List ℕ) (parts : List (List ℕ)) (x : Option Stated) → length line ≤ LONGEST_LINE → slice_split is_space line ≡ parts → option_map stated_as (object_of parts) ≡ x → x ≡ option_map stated_as (line_object line)
object_gives line parts x short e is = sym (ap (λ (o : Option (List (List ℕ))). option_map stated_as (o >>= object_of)) (short_parts line parts short e) ∙ is)

pub object_long : (line : List ℕ) → LONGEST_LINE < length line → None ≡ option_map stated_as (line_object line)
object_long line long = sym (ap (λ (o : Option (List (List ℕ))). option_map stated_as (o >>= object_of)) (long_parts line long))

pub head_gives : (line : List ℕ) (parts : List (List ℕ)) (x : Option HeadRead) → length line ≤ LONGEST_LINE → slice_split is_space line ≡ parts → option_map head_as (head_of parts) ≡ x → x ≡ option_map head_as (line_head line)
head_gives line parts x short e is = sym (ap (λ (o : Option (List (List ℕ))). option_map head_as (o >>= head_of)) (short_parts line parts short e) ∙ is)

pub head_long : (line : List ℕ) → LONGEST_LINE < length line → None ≡ option_map head_as (line_head line)
head_long line long = sym (ap (λ (o : Option (List (List ℕ))). option_map head_as (o >>= head_of)) (long_parts line long))

pub no_number : (o : Option ℕ) (f : ℕ → ℕ) → None ≡ option_map f o → o ≡ None
no_number None f e = refl
no_number (Some n) f e = let clash : ◌≡◌ {A = Option ℕ} None (Some (f n)) = e in absurd (cc)

-- ---- a method

pub method_some : (parts rest : List (List ℕ)) (part : List ℕ) (z : ℤ) (x : List Value × List ℕ) → parts ≡ part ∷ rest → small_of part ≡ Some z → code_of rest ≡ Some x → method_of parts ≡ Some (Method z x.0 x.1)
unfolding method_of
method_some parts rest part z x e small code =
    ap method_of e
    ∙ ap (λ (o : Option ℤ). o >>= λ header. code_of rest >>= λ others. Some (Method header others.0 others.1)) small
    ∙ ap (λ (o : Option (List Value × List ℕ)). o >>= λ others. Some (Method z others.0 others.1)) code

-- a header is small, so that it is as it was once it was passed by value
passes : {X : Type 0} (test : X → Bool) (o : Option X) (x : X) → that_is test o ≡ Some x → test x ≡ true
passes {X = X} test None x e = let clash : ◌≡◌ {A = Option X} None (Some x) = e in absurd (cc)
passes {X = X} test (Some y) x e = go (test y) refl e
  where
    go : (b : Bool) → test y ≡ b → cond b (Some y) None ≡ Some x → test x ≡ true
    go true is f = let same : y ≡ x = cc in ap test (sym same) ∙ is
    go false is f = let clash : ◌≡◌ {A = Option X} None (Some x) = f in absurd (cc)

small_kept : (z : ℤ) → is_small z ≡ true → to_z w16 (of_z w16 z) ≡ z
small_kept z small = to_z-of_z w16 z (fits z small)
  where
    fits : (z : ℤ) → is_small z ≡ true → SFits w16 z
    fits (pos n) small = let low : n < 16384 = ltb-true n 16384 small in omega arith
    fits (negsuc n) small = let low : n < 16384 = ltb-true n 16384 small in omega arith

pub header_kept : (part : List ℕ) (z : ℤ) → small_of part ≡ Some z → to_z w16 (of_z w16 z) ≡ z
header_kept part z e = small_kept z (passes is_small (option_and_then signed_of (before_i part)) z e)

pub method_none : (parts rest : List (List ℕ)) (part : List ℕ) (z : ℤ) → parts ≡ part ∷ rest → small_of part ≡ Some z → code_of rest ≡ None → method_of parts ≡ None
unfolding method_of
method_none parts rest part z e small code =
    ap method_of e
    ∙ ap (λ (o : Option ℤ). o >>= λ header. code_of rest >>= λ others. Some (Method header others.0 others.1)) small
    ∙ ap (λ (o : Option (List Value × List ℕ)). o >>= λ others. Some (Method z others.0 others.1)) code

pub no_header : (parts rest : List (List ℕ)) (part : List ℕ) → parts ≡ part ∷ rest → small_of part ≡ None → method_of parts ≡ None
unfolding method_of
no_header parts rest part e small =
    ap method_of e
    ∙ ap (λ (o : Option ℤ). o >>= λ header. code_of rest >>= λ others. Some (Method header others.0 others.1)) small

pub empty_method : (parts : List (List ℕ)) → parts ≡ [] → method_of parts ≡ None
unfolding method_of
empty_method parts e = ap method_of e

-- ---- an object

-- from what its parts are
abbrev object_from : Option ℕ → Option ℕ → Option Kind → (Kind → Option Body) → Option Rec
object_from name class kind body = name >>= λ n. class >>= λ c. kind >>= λ k. body k >>= λ b. Some (record { name = n; class = c; count = 0; body = b })

pub object_is : (parts rest : List (List ℕ)) (first class kind : List ℕ) (n c : ℕ) (k : Kind) → parts ≡ first ∷ class ∷ kind ∷ rest → option_map (λ m. min m (2 ^ 32)) (number_of first) ≡ Some n → name_of class ≡ Some c → kind_of kind ≡ Some k
    → (b : Option Body) → b ≡ body_of k rest → option_map stated_as (object_of parts) ≡ option_map (λ (body : Body). record { name = n; class = c; body = body }) b
unfolding object_of
object_is parts rest first class kind n c k e name is_class is_kind b is_body = go (number_of first) refl name
  where
    body : (m : ℕ) → (o : Option Body) → b ≡ o → min m (2 ^ 32) ≡ n → option_map stated_as (b >>= λ x. Some (record { name = m; class = c; count = 0; body = x })) ≡ option_map (λ (x : Body). record { name = n; class = c; body = x }) b
    body m None is low = ap (λ (o : Option Body). option_map stated_as (o >>= λ x. Some (record { name = m; class = c; count = 0; body = x }))) is ∙ sym (ap (λ (o : Option Body). option_map (λ (x : Body). let s : Stated = record { name = n; class = c; body = x } in s) o) is)
    body m (Some x) is low =
        ap (λ (o : Option Body). option_map stated_as (o >>= λ x. Some (record { name = m; class = c; count = 0; body = x }))) is
        ∙ ap (λ (l : ℕ). let s : Option Stated = Some (record { name = l; class = c; body = x }) in s) low
        ∙ sym (ap (λ (o : Option Body). option_map (λ (x : Body). let s : Stated = record { name = n; class = c; body = x } in s) o) is)

    go : (o : Option ℕ) → number_of first ≡ o → option_map (λ m. min m (2 ^ 32)) o ≡ Some n → option_map stated_as (object_of parts) ≡ option_map (λ (x : Body). record { name = n; class = c; body = x }) b
    go None is low = let clash : ◌≡◌ {A = Option ℕ} None (Some n) = low in absurd (cc)
    go (Some m) is low =
        ap (λ (ps : List (List ℕ)). option_map stated_as (object_of ps)) e
        ∙ ap (λ (o : Option ℕ). option_map stated_as (object_from o (name_of class) (kind_of kind) (λ q. body_of q rest))) is
        ∙ ap₂ (λ (o : Option ℕ) (p : Option Kind). option_map stated_as (object_from (Some m) o p (λ q. body_of q rest))) is_class is_kind
        ∙ ap (λ (o : Option Body). option_map stated_as (o >>= λ x. Some (record { name = m; class = c; count = 0; body = x }))) (sym is_body)
        ∙ body m b refl (let same : min m (2 ^ 32) ≡ n = cc in same)

pub no_name : (first : List ℕ) (rest : List (List ℕ)) → number_of first ≡ None → object_of (first ∷ rest) ≡ None
unfolding object_of
no_name first [] e = refl
no_name first (class ∷ []) e = refl
no_name first (class ∷ kind ∷ rest) e = ap (λ (o : Option ℕ). object_from o (name_of class) (kind_of kind) (λ q. body_of q rest)) e

stuck_class : (o : Option ℕ) (p : Option Kind) (body : Kind → Option Body) → object_from o None p body ≡ None
stuck_class None p body = refl
stuck_class (Some n) p body = refl

stuck_kind : (o c : Option ℕ) (body : Kind → Option Body) → object_from o c None body ≡ None
stuck_kind None c body = refl
stuck_kind (Some n) None body = refl
stuck_kind (Some n) (Some m) body = refl

pub nothing_behind : (first : List ℕ) (parts : List (List ℕ)) → parts ≡ [] → object_of (first ∷ parts) ≡ None
unfolding object_of
nothing_behind first parts e = ap (λ (ps : List (List ℕ)). object_of (first ∷ ps)) e

pub no_class : (first class : List ℕ) (parts rest : List (List ℕ)) → parts ≡ class ∷ rest → name_of class ≡ None → object_of (first ∷ parts) ≡ None
unfolding object_of
no_class first class parts rest e none = ap (λ (ps : List (List ℕ)). object_of (first ∷ ps)) e ∙ go rest
  where
    go : (ps : List (List ℕ)) → object_of (first ∷ class ∷ ps) ≡ None
    go [] = refl
    go (kind ∷ more) = ap (λ (o : Option ℕ). object_from (number_of first) o (kind_of kind) (λ q. body_of q more)) none ∙ stuck_class (number_of first) (kind_of kind) (λ q. body_of q more)

pub no_kind : (first class : List ℕ) (parts rest : List (List ℕ)) → parts ≡ class ∷ rest → rest ≡ [] → object_of (first ∷ parts) ≡ None
unfolding object_of
no_kind first class parts rest e none = ap (λ (ps : List (List ℕ)). object_of (first ∷ ps)) (e ∙ ap (λ (ps : List (List ℕ)). class ∷ ps) none)

pub bad_kind : (first class kind : List ℕ) (parts rest more : List (List ℕ)) → parts ≡ class ∷ rest → rest ≡ kind ∷ more → kind_of kind ≡ None → object_of (first ∷ parts) ≡ None
unfolding object_of
bad_kind first class kind parts rest more e f none =
    ap (λ (ps : List (List ℕ)). object_of (first ∷ ps)) (e ∙ ap (λ (ps : List (List ℕ)). class ∷ ps) f)
    ∙ ap (λ (o : Option Kind). object_from (number_of first) (name_of class) o (λ q. body_of q more)) none
    ∙ stuck_kind (number_of first) (name_of class) (λ q. body_of q more)

-- ---- the first line

-- from its six numbers
abbrev head_from : Option (List ℕ) → Option Head
head_from (Some (next ∷ clock ∷ display ∷ input ∷ timer ∷ tick ∷ [])) = Some (record { next = next; state = record { clock = clock; display = display; input = input; timer = timer; tick = tick } })
head_from other = None

six : (a b c d e f : Option ℕ)
    → (a >>= λ next. b >>= λ clock. c >>= λ display. d >>= λ input. e >>= λ timer. f >>= λ tick. Some (record { next = next; state = record { clock = clock; display = display; input = input; timer = timer; tick = tick } }))
    ≡ head_from (a >>= λ x. (b >>= λ y. (c >>= λ z. (d >>= λ u. (e >>= λ v. (f >>= λ w. Some (w ∷ [])) >>= λ ws. Some (v ∷ ws)) >>= λ vs. Some (u ∷ vs)) >>= λ us. Some (z ∷ us)) >>= λ zs. Some (y ∷ zs)) >>= λ ys. Some (x ∷ ys))
six None b c d e f = refl
six (Some x) None c d e f = refl
six (Some x) (Some y) None d e f = refl
six (Some x) (Some y) (Some z) None e f = refl
six (Some x) (Some y) (Some z) (Some u) None f = refl
six (Some x) (Some y) (Some z) (Some u) (Some v) None = refl
six (Some x) (Some y) (Some z) (Some u) (Some v) (Some w) = refl

from_six : (first p1 p2 p3 p4 p5 p6 : List ℕ) → is_loom first ≡ true → head_of (first ∷ p1 ∷ p2 ∷ p3 ∷ p4 ∷ p5 ∷ p6 ∷ []) ≡ head_from (each_of long_of (p1 ∷ p2 ∷ p3 ∷ p4 ∷ p5 ∷ p6 ∷ []))
unfolding head_of each_of
from_six first p1 p2 p3 p4 p5 p6 loom =
    ap (λ (b : Bool). cond b (long_of p1 >>= λ next. long_of p2 >>= λ clock. long_of p3 >>= λ display. long_of p4 >>= λ input. long_of p5 >>= λ timer. long_of p6 >>= λ tick. Some (record { next = next; state = record { clock = clock; display = display; input = input; timer = timer; tick = tick } })) None) loom
    ∙ six (long_of p1) (long_of p2) (long_of p3) (long_of p4) (long_of p5) (long_of p6)

from_list : (longs : List ℕ) → length longs ≡ 6
    → head_from (Some longs) ≡ Some (record { next = get_or longs 0 0; state = record { clock = get_or longs 1 0; display = get_or longs 2 0; input = get_or longs 3 0; timer = get_or longs 4 0; tick = get_or longs 5 0 } })
from_list (a ∷ b ∷ c ∷ d ∷ e ∷ f ∷ []) len = refl
from_list (a ∷ b ∷ c ∷ d ∷ e ∷ f ∷ g ∷ gs) len = absurd (omega arith)
from_list (a ∷ b ∷ c ∷ d ∷ e ∷ []) len = absurd (omega arith)
from_list (a ∷ b ∷ c ∷ d ∷ []) len = absurd (omega arith)
from_list (a ∷ b ∷ c ∷ []) len = absurd (omega arith)
from_list (a ∷ b ∷ []) len = absurd (omega arith)
from_list (a ∷ []) len = absurd (omega arith)
from_list [] len = absurd (omega arith)

pub head_is : (first : List ℕ) (parts : List (List ℕ)) (longs : List ℕ) → is_loom first ≡ true → each_of long_of parts ≡ Some longs → length longs ≡ 6
    → head_of (first ∷ parts) ≡ Some (record { next = get_or longs 0 0; state = record { clock = get_or longs 1 0; display = get_or longs 2 0; input = get_or longs 3 0; timer = get_or longs 4 0; tick = get_or longs 5 0 } })
head_is first (p1 ∷ p2 ∷ p3 ∷ p4 ∷ p5 ∷ p6 ∷ []) longs loom e len = from_six first p1 p2 p3 p4 p5 p6 loom ∙ ap head_from e ∙ from_list longs len
head_is first (p1 ∷ p2 ∷ p3 ∷ p4 ∷ p5 ∷ p6 ∷ p7 ∷ ps) longs loom e len = let many = each_length long_of (p1 ∷ p2 ∷ p3 ∷ p4 ∷ p5 ∷ p6 ∷ p7 ∷ ps) longs e in absurd (omega arith)
head_is first (p1 ∷ p2 ∷ p3 ∷ p4 ∷ p5 ∷ []) longs loom e len = let many = each_length long_of (p1 ∷ p2 ∷ p3 ∷ p4 ∷ p5 ∷ []) longs e in absurd (omega arith)
head_is first (p1 ∷ p2 ∷ p3 ∷ p4 ∷ []) longs loom e len = let many = each_length long_of (p1 ∷ p2 ∷ p3 ∷ p4 ∷ []) longs e in absurd (omega arith)
head_is first (p1 ∷ p2 ∷ p3 ∷ []) longs loom e len = let many = each_length long_of (p1 ∷ p2 ∷ p3 ∷ []) longs e in absurd (omega arith)
head_is first (p1 ∷ p2 ∷ []) longs loom e len = let many = each_length long_of (p1 ∷ p2 ∷ []) longs e in absurd (omega arith)
head_is first (p1 ∷ []) longs loom e len = let many = each_length long_of (p1 ∷ []) longs e in absurd (omega arith)
head_is first ([]) longs loom e len = let many = each_length long_of ([]) longs e in absurd (omega arith)

none_from : (o : Option (List ℕ)) → ((longs : List ℕ) → length longs ≡ 6 → o ≢ Some longs) → ((longs : List ℕ) → o ≡ Some longs → length longs ≡ 6) → head_from o ≡ None
none_from None other len = refl
none_from (Some longs) other len = absurd (other longs (len longs refl) refl)

pub not_loom : (first : List ℕ) (parts : List (List ℕ)) → is_loom first ≡ false → head_of (first ∷ parts) ≡ None
unfolding head_of
not_loom first (p1 ∷ p2 ∷ p3 ∷ p4 ∷ p5 ∷ p6 ∷ []) other = ap (λ (b : Bool). cond b (long_of p1 >>= λ next. long_of p2 >>= λ clock. long_of p3 >>= λ display. long_of p4 >>= λ input. long_of p5 >>= λ timer. long_of p6 >>= λ tick. Some (record { next = next; state = record { clock = clock; display = display; input = input; timer = timer; tick = tick } })) None) other
not_loom first (p1 ∷ p2 ∷ p3 ∷ p4 ∷ p5 ∷ p6 ∷ p7 ∷ ps) other = refl
not_loom first (p1 ∷ p2 ∷ p3 ∷ p4 ∷ p5 ∷ []) other = refl
not_loom first (p1 ∷ p2 ∷ p3 ∷ p4 ∷ []) other = refl
not_loom first (p1 ∷ p2 ∷ p3 ∷ []) other = refl
not_loom first (p1 ∷ p2 ∷ []) other = refl
not_loom first (p1 ∷ []) other = refl
not_loom first ([]) other = refl

pub no_head : (first : List ℕ) (parts : List (List ℕ)) → is_loom first ≡ true → ((longs : List ℕ) → length longs ≡ 6 → each_of long_of parts ≢ Some longs) → head_of (first ∷ parts) ≡ None
unfolding head_of
no_head first (p1 ∷ p2 ∷ p3 ∷ p4 ∷ p5 ∷ p6 ∷ []) loom other = from_six first p1 p2 p3 p4 p5 p6 loom ∙ none_from (each_of long_of (p1 ∷ p2 ∷ p3 ∷ p4 ∷ p5 ∷ p6 ∷ [])) other (λ longs e. each_length long_of (p1 ∷ p2 ∷ p3 ∷ p4 ∷ p5 ∷ p6 ∷ []) longs e)
no_head first (p1 ∷ p2 ∷ p3 ∷ p4 ∷ p5 ∷ p6 ∷ p7 ∷ ps) loom other = refl
no_head first (p1 ∷ p2 ∷ p3 ∷ p4 ∷ p5 ∷ []) loom other = refl
no_head first (p1 ∷ p2 ∷ p3 ∷ p4 ∷ []) loom other = refl
no_head first (p1 ∷ p2 ∷ p3 ∷ []) loom other = refl
no_head first (p1 ∷ p2 ∷ []) loom other = refl
no_head first (p1 ∷ []) loom other = refl
no_head first ([]) loom other = refl
