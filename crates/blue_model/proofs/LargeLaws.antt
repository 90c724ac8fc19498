-- Large integers: bytes and numbers, and the object that answers a number.
use Rattle.std.proofs.Common.{◌≡◌, zero, suc, ℕ, ℤ, pos, negsuc, ◌+◌, ◌*◌, ◌/◌, ◌%◌, ◌^◌, ◌<◌, ◌≤◌, ◌&&◌, nat_lt, nat_le, Bool, true, false, eqb, List, [], ◌∷◌, ◌++◌, length, take, drop, get_or, slice_get, replicate, eq-eqb, All, Option, Some, None, is_some, refl, sym, ◌∙◌, ap, subst, if◌then◌else◌, arith}
use Rattle.std.proofs.Math.Seq.{take-append_seam}
use Rattle.std.proofs.lemmas.List.{take_more, take_all, length-append, length-take, length-drop, length-replicate}
use Rattle.std.proofs.lemmas.Grind.{common_steps}
use Rattle.std.proofs.lemmas.Bool.Decides.{nat_tests}
use borrow.Author.Tests.{ltb-true}
use Rattle.std.specs.Option.{option_and_then, option_map_or}
use Rattle.std.specs.Int.RustNames.{unsigned_abs}
use Rattle.long_names.specs.declared.value.Value.{Value}
use Rattle.long_names.specs.declared.value.Value.TheVariants.{Int, Ref}
use Rattle.long_names.specs.declared.limits.TheConstants.{LAST_NAME}
use Rattle.long_names.specs.declared.object.Body.TheVariants.{Bytes}
use Rattle.long_names.specs.declared.object.Object.{Object}
use Rattle.long_names.specs.Names.{NIL}
use Rattle.long_names.specs.Objects.{Making, OfBytes, put_run, with_bytes, bytes_of, int_of}
use Rattle.long_names.specs.Heap.{Heap, add_object, put_object}
use Rattle.long_names.specs.State.{object_at, part_at}
use Rattle.long_names.specs.Access.{with_body}
use Rattle.blue_model.specs.declared.cause.Cause.TheVariants.{Shape}
use Rattle.blue_model.specs.Machine.{Machine, LogRow, Outcome, Go, Halt, Spent, ◌>>◌, done, rows_at, making_row, is_there, object_made, with_object, added, made, make, changed, store_byte, each}
use Rattle.blue_model.specs.Contexts.{stated}
use Rattle.blue_model.specs.LargeInts.{magnitude, digits, fewest_bytes, in_range, signed, large_value, number_at, large_operand, class_of_sign, put_bytes, make_large_integer, large_answer}
use Rattle.blue_model.specs.Trials.{peek}
use Rattle.blue_model.proofs.ClassLaws.{answers_then, answers_done, answers_look}
use Rattle.blue_model.proofs.ComesLaws.{Comes, comes_then, comes_done, comes_pick, comes_weaker, known_then}

-- ---- bytes

-- the bytes of a number are that number
pub digits_number : (most n : ℕ) → n < 256 ^ most → magnitude (digits most n) ≡ n
digits_number zero n low = omega arith
digits_number (suc most) n low = go (eqb n 0) refl (digits_number most (n / 256) (let grows : 256 ^ suc most ≡ 256 * 256 ^ most = omega arith in omega arith))
  where
    go : (b : Bool) → eqb n 0 ≡ b → magnitude (digits most (n / 256)) ≡ n / 256 → magnitude (if b then [] else n % 256 ∷ digits most (n / 256)) ≡ n
    go true e rest = let none : n ≡ 0 = grind (arith, nat_tests, common_steps) in sym none
    go false e rest = omega arith

-- no fewer bytes are it
pub digits_few : (most : ℕ) (bytes : List ℕ) → All (λ b. b < 256) bytes → length (digits most (magnitude bytes)) ≤ length bytes
digits_few zero bytes all = omega arith
digits_few (suc most) [] all = omega arith
digits_few (suc most) (b ∷ bs) all = go (eqb (b + 256 * magnitude bs) 0) (digits_few most bs (λ k d low. all (suc k) d (omega arith)))
  where
    go : (x : Bool) → length (digits most (magnitude bs)) ≤ length bs → length (if x then [] else (b + 256 * magnitude bs) % 256 ∷ digits most ((b + 256 * magnitude bs) / 256)) ≤ suc (length bs)
    go true few = omega arith
    go false few =
        let low : b < 256 = all 0 0 (omega arith) in
        let rest : (b + 256 * magnitude bs) / 256 ≡ magnitude bs = omega arith in
        subst (λ n. suc (length (digits most n)) ≤ suc (length bs)) (sym rest) (omega arith)

pub digits_most : (most n : ℕ) → length (digits most n) ≤ most
digits_most zero n = omega arith
digits_most (suc most) n = go (eqb n 0) (digits_most most (n / 256))
  where
    go : (b : Bool) → length (digits most (n / 256)) ≤ most → length (if b then [] else n % 256 ∷ digits most (n / 256)) ≤ suc most
    go true few = omega arith
    go false few = omega arith

-- ---- the object of a number

-- a new object for the number, as it is when its bytes are stored
abbrev pub object_for : ℤ → Object
object_for z = record { class = class_of_sign z; body = Bytes (fewest_bytes (unsigned_abs z)) }

size_in_range : (z : ℤ) → in_range z ≡ Some z → unsigned_abs z < 256 ^ 16
size_in_range (pos n) e = go (nat_lt n (2 ^ 127)) refl e
  where
    go : (b : Bool) → nat_lt n (2 ^ 127) ≡ b → ◌≡◌ {A = Option ℤ} (if b then Some (pos n) else None) (Some (pos n)) → n < 256 ^ 16
    go true f e = let low = ltb-true n (2 ^ 127) f in omega arith
    go false f e = let no : ◌≡◌ {A = Option ℤ} None (Some (pos n)) = e in absurd (cc)
size_in_range (negsuc n) e = go (nat_lt n (2 ^ 127)) refl e
  where
    go : (b : Bool) → nat_lt n (2 ^ 127) ≡ b → ◌≡◌ {A = Option ℤ} (if b then Some (negsuc n) else None) (Some (negsuc n)) → suc n < 256 ^ 16
    go true f e = let low = ltb-true n (2 ^ 127) f in omega arith
    go false f e = let no : ◌≡◌ {A = Option ℤ} None (Some (negsuc n)) = e in absurd (cc)

signed_size : (z : ℤ) → signed (class_of_sign z) (unsigned_abs z) ≡ Some z
signed_size (pos n) = refl
signed_size (negsuc n) = refl

-- it has the number as its value
pub object_value : (z : ℤ) → in_range z ≡ Some z → large_value (object_for z) ≡ Some z
unfolding large_value
object_value z e =
    let n = unsigned_abs z in
    let few : nat_le (length (fewest_bytes n)) 16 ≡ true = (let most = digits_most 16 n in grind (arith, nat_tests)) in
    let same = digits_number 16 n (size_in_range z e) in
    ap (λ b. option_and_then (λ n. option_and_then in_range (signed (class_of_sign z) n)) (if b then Some (magnitude (fewest_bytes n)) else None)) few
    ∙ ap (λ k. option_and_then in_range (signed (class_of_sign z) k)) same
    ∙ ap (λ x. option_and_then in_range x) (signed_size z)
    ∙ e

-- ---- storing bytes

length-put : (xs : List ℕ) (at b : ℕ) → at < length xs → length (put_run xs at (b ∷ [])) ≡ length xs
length-put xs at b low = omega (arith, length-append (take at xs ++ b ∷ []) (drop (at + 1) xs), length-append (take at xs) (b ∷ []), length-take at xs, length-drop (at + 1) xs)

-- one byte more at the front is that of the others
front-put : (xs bytes : List ℕ) (k : ℕ) → k < length bytes → length xs ≡ length bytes → take k xs ≡ take k bytes → take (k + 1) (put_run xs k (get_or bytes k 0 ∷ [])) ≡ take (k + 1) bytes
front-put xs bytes k low same front =
    let len : length (take k xs ++ get_or bytes k 0 ∷ []) ≡ k + 1 = omega (arith, length-append (take k xs) (get_or bytes k 0 ∷ []), length-take k xs) in
    ap (λ n. take n (put_run xs k (get_or bytes k 0 ∷ []))) (sym len)
    ∙ take-append_seam (take k xs ++ get_or bytes k 0 ∷ []) (drop (k + 1) xs)
    ∙ ap (λ (ys : List ℕ). ys ++ get_or bytes k 0 ∷ []) front
    ∙ sym (take_more bytes k 0 low)

abbrev with_class : ℕ → List ℕ → Object
with_class class bytes = record { class = class; body = Bytes bytes }

comes_store_byte : {m : Machine} (n class i byte : ℕ) (xs : List ℕ) → m.heap.at n ≡ Some (with_class class xs) → Comes m (store_byte (Ref n) i byte) (λ _ s. s.heap.at n ≡ Some (with_class class (put_run xs i (byte ∷ []))))
unfolding store_byte
comes_store_byte {m} n class i byte xs there = record { to = λ c s log e. go (is_some (part_at m.heap (Ref n) (λ b. option_and_then (λ (bytes : List ℕ). slice_get bytes i) (bytes_of b)))) c s log e }
  where
    after : Option Object → Heap
    after x = option_map_or (λ (o : Object). put_object m.heap n (record { class = o.class; body = with_bytes o.body i (byte ∷ []) })) x m.heap

    go : (b : Bool) (c : Unit {0}) (s : Machine) (log : List LogRow) → changed m (Ref n) (λ b. with_bytes b i (byte ∷ [])) b ≡ Go c s log → s.heap.at n ≡ Some (with_class class (put_run xs i (byte ∷ [])))
    go true c s log e =
        let left : record m { heap = with_body m.heap (Ref n) (λ b. with_bytes b i (byte ∷ [])) } ≡ s = cc in
        let here : (after (m.heap.at n)).at n ≡ Some (with_class class (put_run xs i (byte ∷ []))) =
        ap (λ x. (after x).at n) there
        ∙ ap (λ b. if b then Some (with_class class (put_run xs i (byte ∷ []))) else m.heap.at n) (eq-eqb n n refl) in
        subst (λ (t : Machine). t.heap.at n ≡ Some (with_class class (put_run xs i (byte ∷ [])))) left here
    go false c s log e = let no : ◌≡◌ {A = Outcome (Unit {0})} (Halt Shape (rows_at m (Ref n))) (Go c s log) = e in absurd (cc)

-- the object has as many bytes, and the first k of them
abbrev IsPut : Machine → ℕ → ℕ → List ℕ → ℕ → Type 0
IsPut m n class bytes k = (xs : List ℕ) × (m.heap.at n ≡ Some (with_class class xs)) × (length xs ≡ length bytes) × (take k xs ≡ take k bytes)

comes_each : {m : Machine} (n class : ℕ) (bytes : List ℕ) (k : ℕ) → k ≤ length bytes → IsPut m n class bytes 0 → Comes m (each (λ i. store_byte (Ref n) i (get_or bytes i 0)) k) (λ _ s. IsPut s n class bytes k)
unfolding each
comes_each n class bytes zero low put = comes_done tt put
comes_each {m} n class bytes (suc k) low put =
    comes_then (λ _. store_byte (Ref n) k (get_or bytes k 0)) (comes_each {m = m} n class bytes k (omega arith) put) (λ a s was.
    comes_weaker (comes_store_byte n class k (get_or bytes k 0) was.0 was.1) (λ a t there.
    (put_run was.0 k (get_or bytes k 0 ∷ []), there, length-put was.0 k (get_or bytes k 0) (let same = was.2 in omega arith) ∙ was.2, subst (λ j. take j (put_run was.0 k (get_or bytes k 0 ∷ [])) ≡ take j bytes) (add-one k) (front-put was.0 bytes k (omega arith) was.2 was.3))))
  where
    add-one : (k : ℕ) → k + 1 ≡ suc k
    add-one k = omega arith

comes_put_bytes : {m : Machine} (n class : ℕ) (bytes xs : List ℕ) → m.heap.at n ≡ Some (with_class class xs) → length xs ≡ length bytes → Comes m (put_bytes (Ref n) bytes) (λ _ s. s.heap.at n ≡ Some (with_class class bytes))
unfolding put_bytes
comes_put_bytes {m} n class bytes xs there same =
    comes_weaker (comes_each n class bytes (length bytes) (omega arith) (xs, there, same, refl)) (λ a s put.
    let whole : put.0 ≡ bytes = sym (take_all (length bytes) put.0 (let same = put.2 in omega arith)) ∙ put.3 ∙ take_all (length bytes) bytes (omega arith) in
    put.1 ∙ ap (λ (ys : List ℕ). Some (with_class class ys)) whole)

-- ---- answers

comes_make : {m : Machine} (class : Value) (what : Making) → Comes m (make class what) (λ v s. (v ≡ Ref m.heap.next) × (s.heap.at m.heap.next ≡ Some (object_made class what)))
unfolding make
comes_make {m} class what = record { to = λ v s log e. go (nat_lt m.heap.next LAST_NAME) v s log e }
  where
    o : Object
    o = object_made class what

    there : (add_object m.heap o).at m.heap.next ≡ Some o
    there = ap (λ b. if b then Some o else m.heap.at m.heap.next) (eq-eqb m.heap.next m.heap.next refl)

    end : (b : Bool) (v : Value) (s : Machine) (log : List LogRow) → added m o b ≡ Go v s log → (v ≡ Ref m.heap.next) × (s.heap.at m.heap.next ≡ Some o)
    end true v s log e =
        let left : with_object m o ≡ s = cc in
        let name : Ref m.heap.next ≡ v = cc in
        (sym name, subst (λ (t : Machine). t.heap.at m.heap.next ≡ Some o) left there)
    end false v s log e = let no : ◌≡◌ {A = Outcome Value} (Halt Shape (making_row m o ∷ [])) (Go v s log) = e in absurd (cc)

    go : (a : Bool) (v : Value) (s : Machine) (log : List LogRow) → made m o a ≡ Go v s log → (v ≡ Ref m.heap.next) × (s.heap.at m.heap.next ≡ Some o)
    go true v s log e = end (is_there m.heap (Ref o.class) && is_there m.heap (Ref NIL)) v s log e
    go false v s log e = let no : ◌≡◌ {A = Outcome Value} (Spent []) (Go v s log) = e in absurd (cc)

-- the answer names an object of the number's class and bytes
abbrev NamesObject : ℤ → Value → Machine → Type 0
NamesObject z v s = (n : ℕ) × (v ≡ Ref n) × (s.heap.at n ≡ Some (object_for z))

comes_object : {m : Machine} (z : ℤ) → Comes m (make_large_integer z) (NamesObject z)
unfolding make_large_integer
comes_object {m} z =
    let bytes = fewest_bytes (unsigned_abs z) in
    known_then _ (class_of_sign z)
    (comes_then _ (comes_make (Ref (class_of_sign z)) (OfBytes (length bytes))) (λ v s both.
    subst (λ x. Comes s (put_bytes x bytes >> done x) (NamesObject z)) (sym both.0)
    (comes_then _ (comes_put_bytes m.heap.next (class_of_sign z) bytes (replicate (length bytes) 0) both.1 (length-replicate (length bytes) 0)) (λ a t there.
    comes_done (Ref m.heap.next) (m.heap.next, refl, there)))))

abbrev IsAnswer : ℤ → Bool → Value → Machine → Type 0
IsAnswer z true v s = v ≡ Int z
IsAnswer z false v s = NamesObject z v s

comes_answer : {m : Machine} (z : ℤ) → Comes m (large_answer z) (IsAnswer z (is_some (stated z)))
unfolding large_answer
comes_answer {m} z = comes_pick _ _ _
    (λ e. comes_done (Int z) (subst (λ b. IsAnswer z b (Int z) m) (sym e) refl))
    (λ e. comes_weaker (comes_object z) (λ v s named. subst (λ b. IsAnswer z b v s) (sym e) named))

-- what answers a number reads as it
pub answer_value : (z : ℤ) (m s : Machine) (v : Value) (log : List LogRow) → in_range z ≡ Some z → large_answer z m ≡ Go v s log → number_at s.heap v ≡ Some z
answer_value z m s v log fits e = go (is_some (stated z)) ((comes_answer z).to v s log e)
  where
    go : (b : Bool) → IsAnswer z b v s → number_at s.heap v ≡ Some z
    go true is = ap (number_at s.heap) is
    go false named = ap (number_at s.heap) named.1 ∙ ap (λ x. option_and_then large_value x) named.2 ∙ object_value z fits

-- and two answers of one number are the same
pub answers_alike : (z : ℤ) (m n s t : Machine) (v w : Value) (log rows : List LogRow) → large_answer z m ≡ Go v s log → large_answer z n ≡ Go w t rows → (int_of v ≡ int_of w) × (object_at s.heap v ≡ object_at t.heap w)
answers_alike z m n s t v w log rows e f = go (is_some (stated z)) ((comes_answer z).to v s log e) ((comes_answer z).to w t rows f)
  where
    go : (b : Bool) → IsAnswer z b v s → IsAnswer z b w t → (int_of v ≡ int_of w) × (object_at s.heap v ≡ object_at t.heap w)
    go true is also = (ap int_of (is ∙ sym also), ap (object_at s.heap) is ∙ sym (ap (object_at t.heap) also))
    go false named also = (ap int_of named.1 ∙ sym (ap int_of also.1), ap (object_at s.heap) named.1 ∙ named.2 ∙ sym also.2 ∙ sym (ap (object_at t.heap) also.1))

-- ---- operands

pub operand_reads : (m s : Machine) (v : Value) (found : Option ℤ) (log : List LogRow) → large_operand v m ≡ Go found s log → (s ≡ m) × (found ≡ number_at m.heap v)
unfolding large_operand peek
operand_reads m s (Int z) found log e = (answers_done {m = m} {Q = λ found. found ≡ Some z} (Some z) refl).told found s log e
operand_reads m s (Ref n) found log e = (answers_then {m = m} {R = λ found. found ≡ option_and_then large_value (m.heap.at n)} (λ o. done (large_value o)) (answers_look (Ref n)) (λ o there. answers_done (large_value o) (sym (ap (λ x. option_and_then large_value x) there)))).told found s log e
