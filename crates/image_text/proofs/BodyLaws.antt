-- What a line states has a body that an object may have, once its size was judged.
use Rattle.std.proofs.Common.{◌≡◌, ℕ, ℤ, pos, negsuc, ◌+◌, ◌<◌, ◌≤◌, ◌^◌, ◌%◌, Bool, true, false, cond, eqb, ltb, leb, ◌&&◌, List, [], ◌∷◌, length, Option, Some, None, refl, sym, ap, subst, ◌∙◌, arith}
use Rattle.std.specs.Prelude.{All, option_map}
use Rattle.std.specs.Option.{option_and_then}
use Rattle.std.proofs.lemmas.Bool.{and_parts, eqb-true, leb-true, ltb-true}
use Rattle.std.proofs.lemmas.List.Elements.{All-cons, All-nil}
use Rattle.long_names.specs.Names.{IsLongName}
use Rattle.long_names.specs.Objects.{IsBody}
use Rattle.long_names.specs.Words.{IsSmallInteger, IsValue, literal_count}
use Rattle.long_names.specs.declared.limits.TheConstants.{MOST_CODE, MOST_FIELDS, SMALL_INTEGERS}
use Rattle.long_names.specs.declared.object.Kind.{Kind}
use Rattle.long_names.specs.declared.object.Kind.TheVariants as kind
use Rattle.long_names.specs.declared.object.Body.{Body}
use Rattle.long_names.specs.declared.object.Body.TheVariants.{Pointers, Words, Bytes, Method}
use Rattle.long_names.specs.declared.object.Rec.{Rec}
use Rattle.long_names.specs.declared.value.Value.{Value}
use Rattle.long_names.specs.declared.value.Value.TheVariants.{Int, Ref}
use Rattle.text_lines.specs.Breaks.{keeps_size}
use Rattle.text_lines.specs.Grammar.{◌>>=◌, body_of, code_of, each_of, fields_of, line_object, method_of, object_of, parts_of}
use Rattle.text_lines.specs.Parts.{before_i, byte_of, is_code, is_small, kind_of, long_of, name_of, number_of, signed_of, small_of, that_is, value_of, word_of}

-- ---- what comes of a reading

passes : {X : Type 0} (test : X → Bool) (o : Option X) (x : X) → that_is test o ≡ Some x → (o ≡ Some x) × (test x ≡ true)
passes {X = X} test None x e = let clash : ◌≡◌ {A = Option X} None (Some x) = e in absurd (cc)
passes {X = X} test (Some y) x e = go (test y) refl e
  where
    go : (b : Bool) → test y ≡ b → cond b (Some y) None ≡ Some x → (Some y ≡ Some x) × (test x ≡ true)
    go true is f = let same : y ≡ x = cc in (ap Some same, ap test (sym same) ∙ is)
    go false is f = let clash : ◌≡◌ {A = Option X} None (Some x) = f in absurd (cc)

maps : {X Y : Type 0} (f : X → Y) (o : Option X) (y : Y) → option_map f o ≡ Some y → (x : X) × (o ≡ Some x) × (f x ≡ y)
maps {Y = Y} f None y e = let clash : ◌≡◌ {A = Option Y} None (Some y) = e in absurd (cc)
maps f (Some x) y e = (x, refl, cc)

goes : {X Y : Type 0} (o : Option X) (f : X → Option Y) (y : Y) → o >>= f ≡ Some y → (x : X) × (o ≡ Some x) × (f x ≡ Some y)
goes {Y = Y} None f y e = let clash : ◌≡◌ {A = Option Y} None (Some y) = e in absurd (cc)
goes (Some x) f y e = (x, refl, e)

-- ---- parts

small_is : (part : List ℕ) (z : ℤ) → small_of part ≡ Some z → IsSmallInteger z
small_is part z e = go z (passes is_small (option_and_then signed_of (before_i part)) z e).1
  where
    go : (z : ℤ) → is_small z ≡ true → IsSmallInteger z
    go (pos n) small = ltb-true n SMALL_INTEGERS small
    go (negsuc n) small = ltb-true n SMALL_INTEGERS small

name_is : (part : List ℕ) (n : ℕ) → name_of part ≡ Some n → IsLongName n
name_is part n e =
    let p = passes (λ m. eqb (m % 2) 0 && ltb 0 m) (long_of part) n e in
    let q = passes (λ m. ltb m (2 ^ 32)) (number_of part) n p.0 in
    let tests = and_parts (eqb (n % 2) 0) (ltb 0 n) p.1 in
    (record { even = eqb-true (n % 2) 0 tests.0; above = ltb-true 0 n tests.1 }, ltb-true n (2 ^ 32) q.1)

value_is : (part : List ℕ) (v : Value) → value_of part ≡ Some v → IsValue v
value_is part v e = go (small_of part) refl e
  where
    ref : option_map Ref (name_of part) ≡ Some v → IsValue v
    ref f = let m = maps Ref (name_of part) v f in subst IsValue m.2 (name_is part m.0 m.1)

    go : (o : Option ℤ) → small_of part ≡ o → Rattle.text_lines.specs.Parts.◌or◌ (option_map Int o) (option_map Ref (name_of part)) ≡ Some v → IsValue v
    go None at f = ref f
    go (Some z) at f = let same : Int z ≡ v = cc in subst IsValue same (small_is part z at)

each_all : {X : Type 0} (P : X → Type 0) (read : List ℕ → Option X) → ((part : List ℕ) (x : X) → read part ≡ Some x → P x) → (parts : List (List ℕ)) (xs : List X) → each_of read parts ≡ Some xs → All P xs
unfolding each_of
each_all {X = X} P read each [] xs e = let none : ◌≡◌ {A = List X} [] xs = cc in subst (All P) none (All-nil P)
each_all {X = X} P read each (part ∷ parts) xs e =
    let a = goes (read part) (λ first. each_of read parts >>= λ others. Some (first ∷ others)) xs e in
    let b = goes (each_of read parts) (λ others. Some (a.0 ∷ others)) xs a.2 in
    let same : ◌≡◌ {A = List X} (a.0 ∷ b.0) xs = cc in
    subst (All P) same (All-cons P a.0 b.0 (each part a.0 a.1) (each_all P read each parts b.0 b.1))

-- ---- bodies

few_fields : {X : Type 0} (read : List ℕ → Option X) (parts : List (List ℕ)) (xs : List X) → fields_of read parts ≡ Some xs → (each_of read parts ≡ Some xs) × (length xs < MOST_FIELDS + 1)
few_fields read parts xs e =
    let p = passes (λ ys. leb (length ys) MOST_FIELDS) (each_of read parts) xs e in
    (p.0, let le : length xs ≤ MOST_FIELDS = leb-true (length xs) MOST_FIELDS p.1 in omega (arith, le))

code_all : (parts : List (List ℕ)) (x : List Value × List ℕ) → code_of parts ≡ Some x → All IsValue x.0
unfolding code_of
code_all [] x e = let clash : ◌≡◌ {A = Option (List Value × List ℕ)} None (Some x) = e in absurd (cc)
code_all (part ∷ parts) x e = go (code_all parts) (is_code part) e
  where
    go : ((y : List Value × List ℕ) → code_of parts ≡ Some y → All IsValue y.0) → (b : Bool) → cond b (option_map (λ (code : List ℕ). ([], code)) (each_of byte_of parts)) (value_of part >>= λ literal. code_of parts >>= λ others. Some (literal ∷ others.0, others.1)) ≡ Some x → All IsValue x.0
    go more true f =
        let m = maps (λ (code : List ℕ). let y : List Value × List ℕ = ([], code) in y) (each_of byte_of parts) x f in
        subst (λ (y : List Value × List ℕ). All IsValue y.0) m.2 (All-nil IsValue)
    go more false f =
        let a = goes (value_of part) (λ literal. code_of parts >>= λ others. Some (literal ∷ others.0, others.1)) x f in
        let b = goes (code_of parts) (λ others. Some (a.0 ∷ others.0, others.1)) x a.2 in
        let same : ◌≡◌ {A = List Value × List ℕ} (a.0 ∷ b.0.0, b.0.1) x = cc in
        subst (λ (y : List Value × List ℕ). All IsValue y.0) same (All-cons IsValue a.0 b.0.0 (value_is part a.0 a.1) (more b.0 b.1))

method_is : (parts : List (List ℕ)) (b : Body) → method_of parts ≡ Some b → keeps_size b ≡ true → IsBody b
unfolding method_of
method_is [] b e size = let clash : ◌≡◌ {A = Option Body} None (Some b) = e in absurd (cc)
method_is (part ∷ parts) b e size =
    let h = goes (small_of part) (λ header. code_of parts >>= λ others. Some (Method header others.0 others.1)) b e in
    let o = goes (code_of parts) (λ others. Some (Method h.0 others.0 others.1)) b h.2 in
    let same : Method h.0 o.0.0 o.0.1 ≡ b = cc in
    let tests = and_parts (leb (length o.0.1) MOST_CODE) (eqb (literal_count h.0) (length o.0.0)) (ap keeps_size same ∙ size) in
    subst IsBody same (record {
      size = (small_is part h.0 h.1, sym (eqb-true (literal_count h.0) (length o.0.0) tests.1), leb-true (length o.0.1) MOST_CODE tests.0);
      fields = code_all parts o.0 o.1;
    })

body_is : (k : Kind) (parts : List (List ℕ)) (b : Body) → body_of k parts ≡ Some b → keeps_size b ≡ true → IsBody b
body_is kind.Pointers parts b e size =
    let m = maps Pointers (fields_of value_of parts) b e in
    let f = few_fields value_of parts m.0 m.1 in
    subst IsBody m.2 (record { size = f.1; fields = each_all IsValue value_of value_is parts m.0 f.0 })
body_is kind.Words parts b e size =
    let m = maps Words (fields_of word_of parts) b e in
    let f = few_fields word_of parts m.0 m.1 in
    subst IsBody m.2 (record { size = f.1; fields = All-nil IsValue })
body_is kind.Bytes parts b e size =
    let m = maps Bytes (fields_of byte_of parts) b e in
    let f = few_fields byte_of parts m.0 m.1 in
    subst IsBody m.2 (record { size = f.1; fields = All-nil IsValue })
body_is kind.Method parts b e size = method_is parts b e size

from_made : (k : Kind) (contents : List (List ℕ)) (n c : ℕ) (b : Body) (r : Rec) → body_of k contents ≡ Some b → ◌≡◌ {A = Option Rec} (Some (record { name = n; class = c; count = 0; body = b })) (Some r)
    → (k : Kind) × (rest : List (List ℕ)) × (body_of k rest ≡ Some r.body) × (r.count ≡ 0)
from_made k contents n c b r is e =
    let made : Rec = record { name = n; class = c; count = 0; body = b } in
    let same : made ≡ r = cc in
    (k, contents, is ∙ ap (λ (x : Rec). Some x.body) same, sym (ap (λ (x : Rec). x.count) same))

object_body : (parts : List (List ℕ)) (r : Rec) → object_of parts ≡ Some r → (k : Kind) × (rest : List (List ℕ)) × (body_of k rest ≡ Some r.body) × (r.count ≡ 0)
unfolding object_of
object_body [] r e = let clash : ◌≡◌ {A = Option Rec} None (Some r) = e in absurd (cc)
object_body (name ∷ []) r e = let clash : ◌≡◌ {A = Option Rec} None (Some r) = e in absurd (cc)
object_body (name ∷ class ∷ []) r e = let clash : ◌≡◌ {A = Option Rec} None (Some r) = e in absurd (cc)
object_body (name ∷ class ∷ kind ∷ contents) r e =
    let n = goes (number_of name) (λ n. name_of class >>= λ c. kind_of kind >>= λ k. body_of k contents >>= λ b. Some (record { name = n; class = c; count = 0; body = b })) r e in
    let c = goes (name_of class) (λ c. kind_of kind >>= λ k. body_of k contents >>= λ b. Some (record { name = n.0; class = c; count = 0; body = b })) r n.2 in
    let k = goes (kind_of kind) (λ k. body_of k contents >>= λ b. Some (record { name = n.0; class = c.0; count = 0; body = b })) r c.2 in
    let b = goes (body_of k.0 contents) (λ b. Some (record { name = n.0; class = c.0; count = 0; body = b })) r k.2 in
    from_made k.0 contents n.0 c.0 b.0 r b.1 b.2

pub line_body : (line : List ℕ) (r : Rec) → line_object line ≡ Some r → keeps_size r.body ≡ true → IsBody r.body
line_body line r e size =
    let p = goes (parts_of line) object_of r e in
    let o = object_body p.0 r p.2 in
    body_is o.0 o.1 r.body o.2 size

pub line_count : (line : List ℕ) (r : Rec) → line_object line ≡ Some r → r.count ≡ 0
line_count line r e =
    let p = goes (parts_of line) object_of r e in
    (object_body p.0 r p.2).3
