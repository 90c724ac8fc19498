-- Operands: the parts of a large integer's object, and receiver and argument.
use Rattle.std.proofs.Common.{◌≡◌, ℕ, ℤ, pos, negsuc, ◌+◌, ◌≤◌, nat_le, eqb, Bool, true, false, List, length, take, drop, Option, Some, None, Result, Ok, Err, IsSome, IsTrue, IfSome, refl, sym, ◌∙◌, ap, subst, if◌then◌else◌, arith}
use Rattle.std.specs.Result.{IsErrAnd}
use Rattle.std.proofs.lemmas.Result.{err_from_is_err_and}
use Rattle.std.specs.Option.{option_and_then}
use Rattle.std.proofs.lemmas.List.{take_all, length-take-le}
use mir.Syntax.{w128}
use mir.Val.{to_z, of_z}
use Rattle.std.proofs.Math.IntN.{neg_ℤ}
use Rattle.std.specs.Int.RustNames.{FitsSigned}
use Rattle.std.proofs.lemmas.Int.{to_z-of_z}
use Rattle.long_names.specs.declared.value.Value.{Value}
use Rattle.long_names.specs.declared.value.Value.TheVariants.{Int, Ref}
use Rattle.long_names.specs.declared.object.Object.{Object}
use Rattle.long_names.specs.declared.object.Kind.{Kind}
use Rattle.long_names.specs.declared.object.Body.{Body}
use Rattle.long_names.specs.declared.object.Body.TheVariants.{Pointers, Words, Bytes, Method}
use Rattle.long_names.specs.Names.{LARGE_POSITIVE_INTEGER, LARGE_NEGATIVE_INTEGER}
use Rattle.long_names.specs.Objects.{int_of, is_ref, text_of, bytes_of}
use Rattle.long_names.specs.State.{IsRef, object_at}
use Rattle.long_names.specs.Words.{IsSmallInteger}
use Rattle.long_names.specs.Access.{answered, ReadBytes, answer_of}
use Rattle.long_names.specs.Access as access
use Rattle.object_memory.specs.Told.{Told, IsReady}
use Rattle.object_memory.specs.Shape.{HasPartAt, IsPartAt, shape_of}
use Rattle.blue_model.specs.declared.answer.Answer.{Answer}
use Rattle.blue_model.specs.declared.answer.Answer.TheVariants.{Failed}
use Rattle.blue_model.specs.declared.cpu.Cpu.{Cpu}
use Rattle.blue_model.specs.Machine.{Machine, Rule, classed, looked, then_do, ◌>>=◌, done, look, class_of}
use Rattle.blue_model.specs.Trials.{peek}
use Rattle.blue_model.specs.LargeInts.{magnitude, in_range, magnitude_of, signed, large_value, operand_by, large_operand}
use Rattle.contexts.specs.declared.stop.Stop.{Stop}
use Rattle.contexts.specs.Serves.{Gives, Serves}
use Rattle.contexts.proofs.ServesLaws.{by_model}
use Rattle.contexts.proofs.Steps.{done_same}
use Rattle.large_ints.specs.Operands.{sign_by, sign_in, magnitude_in, value_by, few_bytes, FindsTwo}

-- ---- the magnitude

-- an object of another kind, or of more bytes
lacks_magnitude : (o : Object) → few_bytes (shape_of o.body) ≡ None → magnitude_in o ≡ None
unfolding magnitude_in
lacks_magnitude o none = go o.body none
  where
    long : (bytes : List ℕ) (b : Bool) → nat_le (length bytes) 16 ≡ b → ◌≡◌ {A = Option ℕ} (if b then Some (length bytes) else None) None → magnitude_of bytes ≡ None
    long bytes true e f = let never : ◌≡◌ {A = Option ℕ} (Some (length bytes)) None = f in absurd (cc)
    long bytes false e f = ap (λ b. if b then Some (magnitude bytes) else None) e

    go : (body : Body) → few_bytes (shape_of body) ≡ None → option_and_then magnitude_of (text_of body) ≡ None
    go (Pointers values) none = refl
    go (Words words) none = refl
    go (Bytes bytes) none = long bytes _ refl none
    go (Method header literals code) none = refl

pub magnitude_none : {t : Told} {r : ℕ} {found : Option (Kind × ℕ)} → IsPartAt t r shape_of found → few_bytes found ≡ None → IsTrue t.tells → option_and_then magnitude_in (object_at t.heap (t.regs r)) ≡ None
magnitude_none {t} {r} {found} part none told = go (object_at t.heap (t.regs r)) (ap few_bytes (part.there told) ∙ none)
  where
    go : (x : Option Object) → few_bytes (option_and_then (λ (o : Object). shape_of o.body) x) ≡ None → option_and_then magnitude_in x ≡ None
    go None e = refl
    go (Some o) e = lacks_magnitude o e

-- an object of few bytes
few_body : (body : Body) (n : ℕ) → few_bytes (shape_of body) ≡ Some n → (bytes : List ℕ) × (body ≡ Bytes bytes) × (length bytes ≡ n) × (nat_le (length bytes) 16 ≡ true)
few_body (Pointers values) n e = let no : ◌≡◌ {A = Option ℕ} None (Some n) = e in absurd (cc)
few_body (Words words) n e = let no : ◌≡◌ {A = Option ℕ} None (Some n) = e in absurd (cc)
few_body (Method header literals code) n e = let no : ◌≡◌ {A = Option ℕ} None (Some n) = e in absurd (cc)
few_body (Bytes bytes) n e = go (nat_le (length bytes) 16) refl e
  where
    go : (b : Bool) → nat_le (length bytes) 16 ≡ b → ◌≡◌ {A = Option ℕ} (if b then Some (length bytes) else None) (Some n) → (xs : List ℕ) × (Bytes bytes ≡ Bytes xs) × (length xs ≡ n) × (nat_le (length xs) 16 ≡ true)
    go true f same = (bytes, refl, (let is : length bytes ≡ n = cc in is), f)
    go false f same = let no : ◌≡◌ {A = Option ℕ} None (Some n) = same in absurd (cc)

pub bytes_there : {t : Told} {r : ℕ} {found : Option (Kind × ℕ)} (n : ℕ) → IsPartAt t r shape_of found → few_bytes found ≡ Some n → HasPartAt t r bytes_of (λ bytes. 0 + n ≤ length bytes)
bytes_there {t} {r} {found} n part is = record { name = part.name (some found is); there = λ told. go (object_at t.heap (t.regs r)) (ap few_bytes (part.there told) ∙ is) }
  where
    some : (x : Option (Kind × ℕ)) → few_bytes x ≡ Some n → IsSome x
    some None e = let no : ◌≡◌ {A = Option ℕ} None (Some n) = e in absurd (cc)
    some (Some k) e = refl

    go : (x : Option Object) → few_bytes (option_and_then (λ (o : Object). shape_of o.body) x) ≡ Some n → (bytes : List ℕ) × (option_and_then (λ (o : Object). bytes_of o.body) x ≡ Some bytes) × (0 + n ≤ length bytes)
    go None e = let no : ◌≡◌ {A = Option ℕ} None (Some n) = e in absurd (cc)
    go (Some o) e = let it = few_body o.body n e in (it.0, ap bytes_of it.1, (let same = it.2 in omega arith))

-- what is read of it is its magnitude
pub magnitude_read : {t : Told} {r : ℕ} {found : Option (Kind × ℕ)} (out : List ℕ) (n size : ℕ) → IsPartAt t r shape_of found → few_bytes found ≡ Some n → IsTrue t.tells → answer_of t.heap t.regs (ReadBytes r 0 n) ≡ Some (access.OfRun out) → size ≡ magnitude out → option_and_then magnitude_in (object_at t.heap (t.regs r)) ≡ Some size
unfolding magnitude_in
magnitude_read {t} {r} {found} out n size part is told answer made = go (object_at t.heap (t.regs r)) (ap few_bytes (part.there told) ∙ is) answer
  where
    whole : (bytes : List ℕ) → length bytes ≡ n → nat_le (length bytes) 16 ≡ true → answered (λ bytes. access.OfRun (take n (drop 0 bytes))) (Some bytes) ≡ Some (access.OfRun out) → magnitude_of bytes ≡ Some size
    whole bytes same few read =
        let run : take n (drop 0 bytes) ≡ out = cc in
        ap (λ b. if b then Some (magnitude bytes) else None) few
        ∙ ap (λ xs. Some (magnitude xs)) (sym (take_all n bytes (omega arith)) ∙ run)
        ∙ ap (λ k. Some k) (sym made)

    go : (x : Option Object) → few_bytes (option_and_then (λ (o : Object). shape_of o.body) x) ≡ Some n → answered (λ bytes. access.OfRun (take n (drop 0 bytes))) (option_and_then (λ (o : Object). bytes_of o.body) x) ≡ Some (access.OfRun out) → option_and_then magnitude_in x ≡ Some size
    go None e read = let no : ◌≡◌ {A = Option ℕ} None (Some n) = e in absurd (cc)
    go (Some o) e read =
        let it = few_body o.body n e in
        ap (λ b. option_and_then magnitude_of (text_of b)) it.1
        ∙ whole it.0 it.2 it.3 (sym (ap (λ b. answered (λ bytes. access.OfRun (take n (drop 0 bytes))) (bytes_of b)) it.1) ∙ read)

-- ---- the sign

sign_rule : (n : ℕ) (m : Machine) → peek sign_in (Ref n) m ≡ (class_of (Ref n) >>= (λ c. done (sign_by c))) m
unfolding peek look class_of done ◌>>=◌ sign_in
sign_rule n m = go (m.heap.at n)
  where
    go : (x : Option Object) → then_do (looked m (Ref n) x) (λ o. done (sign_in o)) ≡ then_do (classed m (Ref n) (option_and_then (λ (o : Object). Some o.class) x)) (λ c. done (sign_by c))
    go None = refl
    go (Some o) = refl

-- the sign is that of the class
pub by_class : {old new : Told} {cpu now : Cpu} {answer : Result (Option Bool) Stop} (v : Value) → IsRef v → Serves old cpu new now (class_of v >>= (λ c. done (sign_by c))) answer → Serves old cpu new now (peek sign_in v) answer
by_class {old} {new} {cpu} {now} {answer} (Int z) named s = absurd named
by_class {old} {new} {cpu} {now} {answer} (Ref n) named s = by_model (class_of (Ref n) >>= (λ c. done (sign_by c))) (peek sign_in (Ref n)) (λ m told st given. subst (Gives new now answer) (sym (sign_rule n m)) given) s

pub positive_class : (v : Value) → is_ref LARGE_POSITIVE_INTEGER v ≡ true → Some false ≡ sign_by v
positive_class v e = sym (ap (λ b. if b then Some false else (if is_ref LARGE_NEGATIVE_INTEGER v then Some true else None)) e)

pub negative_class : (v : Value) → is_ref LARGE_POSITIVE_INTEGER v ≡ false → is_ref LARGE_NEGATIVE_INTEGER v ≡ true → Some true ≡ sign_by v
negative_class v e f = sym (ap (λ b. if b then Some false else (if is_ref LARGE_NEGATIVE_INTEGER v then Some true else None)) e ∙ ap (λ b. if b then Some true else None) f)

pub other_class : (v : Value) → is_ref LARGE_POSITIVE_INTEGER v ≡ false → is_ref LARGE_NEGATIVE_INTEGER v ≡ false → None ≡ sign_by v
other_class v e f = sym (ap (λ b. if b then Some false else (if is_ref LARGE_NEGATIVE_INTEGER v then Some true else None)) e ∙ ap (λ b. if b then Some true else None) f)

-- ---- the value of both

signs : (a b : Bool) (n : ℕ) → option_and_then in_range (if a then Some (pos n) else (if b then Some (neg_ℤ (pos n)) else None)) ≡ value_by (if a then Some false else (if b then Some true else None)) (Some n)
signs true b n = refl
signs false true n = refl
signs false false n = refl

pub value_made : (o : Object) → large_value o ≡ value_by (sign_in o) (magnitude_in o)
unfolding large_value sign_in magnitude_in
value_made o = go (text_of o.body)
  where
    inside : (x : Option ℕ) → option_and_then (λ n. option_and_then in_range (signed o.class n)) x ≡ value_by (sign_by (Ref o.class)) x
    inside None = refl
    inside (Some n) = signs (eqb o.class LARGE_POSITIVE_INTEGER) (eqb o.class LARGE_NEGATIVE_INTEGER) n

    go : (x : Option (List ℕ)) → option_and_then (λ bytes. option_and_then (λ n. option_and_then in_range (signed o.class n)) (magnitude_of bytes)) x ≡ value_by (sign_by (Ref o.class)) (option_and_then magnitude_of x)
    go None = refl
    go (Some bytes) = inside (magnitude_of bytes)

pub unsigned_none : (o : Object) → sign_in o ≡ None → large_value o ≡ None
unsigned_none o e = value_made o ∙ ap (λ s. value_by s (magnitude_in o)) e ∙ nothing (magnitude_in o)
  where
    nothing : (x : Option ℕ) → value_by None x ≡ None
    nothing None = refl
    nothing (Some n) = refl

-- ---- operands

pub operand_number : {t : Told} {cpu : Cpu} (v : Value) (z y : ℤ) → int_of v ≡ Some z → y ≡ z → IsReady t → Serves t cpu t cpu (large_operand v) (Ok (Some y))
unfolding large_operand
operand_number {t} {cpu} v z y is same ready = subst (λ o. Serves t cpu t cpu (operand_by o v) (Ok (Some y))) (sym is) (done_same (ap (λ x. Some x) same) ready)

pub operand_object : {old new : Told} {cpu now : Cpu} {answer : Result (Option ℤ) Stop} (v : Value) → int_of v ≡ None → Serves old cpu new now (peek large_value v) answer → Serves old cpu new now (large_operand v) answer
unfolding large_operand
operand_object {old} {new} {cpu} {now} {answer} v none s = subst (λ o. Serves old cpu new now (operand_by o v) answer) (sym none) s

pub object_named : (v : Value) → int_of v ≡ None → IsRef v
object_named (Int z) e = let no : ◌≡◌ {A = Option ℤ} (Some z) None = e in absurd (cc)
object_named (Ref n) e = tt

-- a SmallInteger as a number of 128 bits
pub wide : (y z : ℤ) → y ≡ z → IsSmallInteger z → to_z w128 (of_z w128 y) ≡ z
wide y z e small = ap (λ x. to_z w128 (of_z w128 x)) e ∙ to_z-of_z w128 z (fits z small)
  where
    fits : (z : ℤ) → IsSmallInteger z → FitsSigned w128 z
    fits (pos n) low = record { sfits = omega arith }
    fits (negsuc n) low = record { sfits = omega arith }

-- ---- both

-- the exit of a `?`
pub finds_exit : {old new : Told} {cpu : Cpu} {e : Stop} (rule : (ℤ → ℤ → Rule Answer) → Rule Answer) (r : Result (Option (ℤ × ℤ)) Stop) → IsErrAnd r (λ y. y ≡ e) → ((rest : ℤ → ℤ → Rule Answer) → Serves old cpu new cpu (rule rest) (Err e)) → FindsTwo old cpu new rule r
finds_exit {old} {new} {cpu} {e} rule r is s =
    let q = err_from_is_err_and r is in
    subst (λ (x : Result (Option (ℤ × ℤ)) Stop). FindsTwo old cpu new rule x) (sym (q.1 ∙ ap (λ y. Err y) q.2)) s

-- a buffer of 16 bytes has as many
pub few_count : {x : Option ℕ} (n : ℕ) (zeros : List ℕ) → Some n ≡ x → n ≤ 16 → length zeros ≡ 16 → x ≡ Some (length (take n zeros))
few_count n zeros e few room = sym e ∙ ap (λ k. Some k) (sym (length-take-le n zeros (omega arith)))

-- what goes on with both that were found,
pub two_then : {old mid new : Told} {cpu now : Cpu} {found : Option (ℤ × ℤ)} {answer : Result Answer Stop} (rule : (ℤ → ℤ → Rule Answer) → Rule Answer) (rest : ℤ → ℤ → Rule Answer) (a b : ℤ) → found ≡ Some (a, b) → FindsTwo old cpu mid rule (Ok found) → Serves mid cpu new now (rest a b) answer → Serves old cpu new now (rule rest) answer
two_then {old} {mid} {new} {cpu} {now} {found} {answer} rule rest a b e f s = (subst (λ (x : Option (ℤ × ℤ)). FindsTwo old cpu mid rule (Ok x)) e f) rest new now answer s

-- what comes where they weren't found,
pub two_fail : {old new : Told} {cpu : Cpu} {found : Option (ℤ × ℤ)} (rule : (ℤ → ℤ → Rule Answer) → Rule Answer) (rest : ℤ → ℤ → Rule Answer) → found ≡ None → FindsTwo old cpu new rule (Ok found) → Serves old cpu new cpu (rule rest) (Ok Failed)
two_fail {old} {new} {cpu} {found} rule rest e f = (subst (λ (x : Option (ℤ × ℤ)). FindsTwo old cpu new rule (Ok x)) e f) rest

-- and where they were in range or SmallIntegers
pub two_fit : (P Q : ℤ → Type 0) (found : Option (ℤ × ℤ)) (a b : ℤ) → found ≡ Some (a, b) → IfSome found (λ ab. P ab.0 × Q ab.1) → P a × Q b
two_fit P Q found a b e h = subst (λ (o : Option (ℤ × ℤ)). IfSome o (λ ab. P ab.0 × Q ab.1)) e h
