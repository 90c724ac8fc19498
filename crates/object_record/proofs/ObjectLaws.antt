-- Long words as values, and raw records as objects.
use Rattle.std.proofs.Common.{◌≡◌, ℕ, ℤ, pos, negsuc, ◌+◌, ◌-◌, ◌*◌, ◌/◌, ◌%◌, ◌^◌, true, false, cond, eqb, nat_lt, List, [], ◌∷◌, map, refl, ◌∙◌, ap, arith, All}
use Rattle.std.proofs.lemmas.Grind.{common_steps}
use Rattle.std.proofs.lemmas.List.Elements.{All-head, All-tail}
use Rattle.long_names.specs.Words.{IsValue, IsSmallInteger, long_word}
use Rattle.long_names.specs.Objects.{HasSize, IsRecord, fields_of}
use Rattle.long_names.specs.declared.value.Value.{Value}
use Rattle.long_names.specs.declared.value.Value.TheVariants.{Int, Ref}
use Rattle.long_names.specs.declared.object.Body.{Body}
use Rattle.long_names.specs.declared.object.Body.TheVariants as body
use Rattle.long_names.specs.declared.object.Rec.{Rec}
use Rattle.object_record.specs.Raw.{RawBody, RawPointers, RawWords, RawBytes, RawMethod, longs_of, raw_body, raw_record}
use Rattle.object_record.specs.Objects.{int_in, value_in, body_of, object_in}

pub int_in-long : (z : ℤ) → IsSmallInteger z → int_in (long_word (Int z)) ≡ z
int_in-long (pos n) small = let half : (2 * n + 1) / 2 ≡ n = omega (arith, small) in let below : nat_lt n (2 ^ 30) ≡ true = grind (arith, common_steps) in ap (λ (h : ℕ). cond (nat_lt h (2 ^ 30)) (pos h) (negsuc (2 ^ 31 - 1 - h))) half ∙ simp below refl
int_in-long (negsuc n) small =
    let half : (2 ^ 32 - 1 - 2 * n) / 2 ≡ 2 ^ 31 - 1 - n = omega (arith, small) in
    let above : nat_lt (2 ^ 31 - 1 - n) (2 ^ 30) ≡ false = grind (arith, common_steps) in
    ap (λ (h : ℕ). cond (nat_lt h (2 ^ 30)) (pos h) (negsuc (2 ^ 31 - 1 - h))) half ∙ simp above (ap negsuc (omega (arith, small)))

pub value_in-long : (v : Value) → IsValue v → value_in (long_word v) ≡ v
value_in-long (Int (pos n)) is = let odd : eqb ((2 * n + 1) % 2) 1 ≡ true = grind (arith, common_steps) in simp odd (ap Int (int_in-long (pos n) is))
value_in-long (Int (negsuc n)) is = let odd : eqb ((2 ^ 32 - 1 - 2 * n) % 2) 1 ≡ true = grind (arith, common_steps) in simp odd (ap Int (int_in-long (negsuc n) is))
value_in-long (Ref n) is = let name = is.0.even in let even : eqb (n % 2) 1 ≡ false = grind (arith, common_steps) in simp even refl

values-again : (values : List Value) → All IsValue values → map value_in (map long_word values) ≡ values
values-again [] all = refl
values-again (v ∷ vs) all = ap (λ x. x ∷ map value_in (map long_word vs)) (value_in-long v (All-head IsValue v vs all)) ∙ ap (λ xs. v ∷ xs) (values-again vs (All-tail IsValue v vs all))

body-again : (b : Body) → HasSize b → All IsValue (fields_of b) → body_of (raw_body b) ≡ b
body-again (body.Pointers values) size all = ap body.Pointers (values-again values all)
body-again (body.Words words) size all = refl
body-again (body.Bytes bytes) size all = refl
body-again (body.Method header literals code) size all = λ i. body.Method (int_in-long header size.0 i) (values-again literals all i) code

pub object-again : (r : Rec) → IsRecord r → object_in (raw_record r) ≡ record { class = r.class; body = r.body }
object-again r is = λ i. record { class = r.class; body = body-again r.body is.body.size is.body.fields i }

-- the fields of a record's object are the values of its long words
pub fields-values : (b : RawBody) → fields_of (body_of b) ≡ map value_in (longs_of b)
fields-values (RawPointers longs) = refl
fields-values (RawWords words) = refl
fields-values (RawBytes bytes) = refl
fields-values (RawMethod header literals code) = refl
