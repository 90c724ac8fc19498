-- What classes and numbers that are passed by value say of new objects.
use Rattle.std.proofs.Common.{◌≡◌, ℕ, ℤ, ◌+◌, ◌<◌, ◌≤◌, Bool, true, false, nat_lt, Result, sym, ◌∙◌, ap, subst, arith}
use Rattle.std.specs.Prelude.{if◌then◌else◌}
use borrow.Author.Tests.{lt-ltb, le-ltb}
use Rattle.long_names.specs.declared.limits.TheConstants.{MOST_FIELDS}
use Rattle.long_names.specs.declared.value.Value.{Value}
use Rattle.long_names.specs.Objects.{Making, OfPointers, OfWords, OfBytes}
use Rattle.object_memory.specs.Told.{Told}
use Rattle.blue_model.specs.declared.cpu.Cpu.{Cpu}
use Rattle.blue_model.specs.Machine.{make}
use Rattle.blue_model.specs.Elements.{has_pointers, has_words, fixed_fields}
use Rattle.blue_model.specs.Storage.{is_made_by_new, fields_making, sized_making}
use Rattle.contexts.specs.declared.stop.Stop.{Stop}
use Rattle.contexts.specs.Serves.{Serves}

-- ---- what is made

if_true : {A : Type 0} (b : Bool) (x y : A) → b ≡ true → (if b then x else y) ≡ x
if_true b x y e = ap (λ (t : Bool). if t then x else y) e

if_false : {A : Type 0} (b : Bool) (x y : A) → b ≡ false → (if b then x else y) ≡ y
if_false b x y e = ap (λ (t : Bool). if t then x else y) e

-- by a specification that is passed by value
pub fields_pointers : (y z : ℤ) (b : Bool) (n : ℕ) → y ≡ z → b ≡ has_pointers y → b ≡ true → n ≡ fixed_fields y → OfPointers n ≡ fields_making z
fields_pointers y z b n e is so count =
    ap (λ k. OfPointers k) (count ∙ ap (λ z. fixed_fields z) e)
    ∙ sym (if_true (has_pointers z) (OfPointers (fixed_fields z)) (OfWords (fixed_fields z)) (sym (ap (λ z. has_pointers z) e) ∙ sym is ∙ so))

pub fields_words : (y z : ℤ) (b : Bool) (n : ℕ) → y ≡ z → b ≡ has_pointers y → b ≡ false → n ≡ fixed_fields y → OfWords n ≡ fields_making z
fields_words y z b n e is not count =
    ap (λ k. OfWords k) (count ∙ ap (λ z. fixed_fields z) e)
    ∙ sym (if_false (has_pointers z) (OfPointers (fixed_fields z)) (OfWords (fixed_fields z)) (sym (ap (λ z. has_pointers z) e) ∙ sym is ∙ not))

pub sized_pointers : (y z : ℤ) (b : Bool) (n : ℕ) → y ≡ z → b ≡ has_pointers y → b ≡ true → OfPointers n ≡ sized_making z n
sized_pointers y z b n e is so = sym (if_true (has_pointers z) (OfPointers n) (if has_words z then OfWords n else OfBytes n) (sym (ap (λ z. has_pointers z) e) ∙ sym is ∙ so))

pub sized_words : (y z : ℤ) (b w : Bool) (n : ℕ) → y ≡ z → b ≡ has_pointers y → b ≡ false → w ≡ has_words y → w ≡ true → OfWords n ≡ sized_making z n
sized_words y z b w n e is not words so =
    sym (if_false (has_pointers z) (OfPointers n) (if has_words z then OfWords n else OfBytes n) (sym (ap (λ z. has_pointers z) e) ∙ sym is ∙ not)
    ∙ if_true (has_words z) (OfWords n) (OfBytes n) (sym (ap (λ z. has_words z) e) ∙ sym words ∙ so))

pub sized_bytes : (y z : ℤ) (b w : Bool) (n : ℕ) → y ≡ z → b ≡ has_pointers y → b ≡ false → w ≡ has_words y → w ≡ false → OfBytes n ≡ sized_making z n
sized_bytes y z b w n e is not words neither =
    sym (if_false (has_pointers z) (OfPointers n) (if has_words z then OfWords n else OfBytes n) (sym (ap (λ z. has_pointers z) e) ∙ sym is ∙ not)
    ∙ if_false (has_words z) (OfWords n) (OfBytes n) (sym (ap (λ z. has_words z) e) ∙ sym words ∙ neither))

-- a making of what is the same
pub making_as : {old new : Told} {cpu now : Cpu} {answer : Result Value Stop} (v : Value) (a b : Making) → a ≡ b → Serves old cpu new now (make v a) answer → Serves old cpu new now (make v b) answer
making_as {old} {new} {cpu} {now} {answer} v a b e s = subst (λ x. Serves old cpu new now (make v x) answer) e s

-- ---- what a caller knows

pub by_new : (v w : Value) (y z : ℤ) (indexable found x : Bool) → v ≡ w → y ≡ z → found ≡ is_made_by_new v y indexable → found ≡ x → is_made_by_new w z indexable ≡ x
by_new v w y z indexable found x e f is found_x = ap (λ u. is_made_by_new u z indexable) (sym e) ∙ ap (λ k. is_made_by_new v k indexable) (sym f) ∙ sym is ∙ found_x

pub fields_made : {old new : Told} {cpu now : Cpu} {answer : Result Value Stop} (v w : Value) (y z : ℤ) → v ≡ w → y ≡ z → Serves old cpu new now (make v (fields_making y)) answer → Serves old cpu new now (make w (fields_making z)) answer
fields_made {old} {new} {cpu} {now} {answer} v w y z e f s =
    let here = subst (λ u. Serves old cpu new now (make u (fields_making y)) answer) e s in
    subst (λ k. Serves old cpu new now (make w (fields_making k)) answer) f here

pub sized_made : {old new : Told} {cpu now : Cpu} {answer : Result Value Stop} (v w : Value) (y z : ℤ) (elements fixed : ℕ) → v ≡ w → y ≡ z → fixed ≡ fixed_fields y → Serves old cpu new now (make v (sized_making y (elements + fixed))) answer → Serves old cpu new now (make w (sized_making z (elements + fixed_fields z))) answer
sized_made {old} {new} {cpu} {now} {answer} v w y z elements fixed e f count s =
    let here = subst (λ u. Serves old cpu new now (make u (sized_making y (elements + fixed))) answer) e s in
    let there = subst (λ k. Serves old cpu new now (make w (sized_making k (elements + fixed))) answer) f here in
    subst (λ k. Serves old cpu new now (make w (sized_making z (elements + k))) answer) (count ∙ ap (λ k. fixed_fields k) f) there

pub too_many : (y z : ℤ) (elements fixed : ℕ) → y ≡ z → fixed ≡ fixed_fields y → MOST_FIELDS < elements + fixed → nat_lt (elements + fixed_fields z) (MOST_FIELDS + 1) ≡ false
too_many y z elements fixed e count many = subst (λ k. nat_lt (elements + k) (MOST_FIELDS + 1) ≡ false) (count ∙ ap (λ k. fixed_fields k) e) (le-ltb (elements + fixed) (MOST_FIELDS + 1) many)

pub few_enough : (y z : ℤ) (elements fixed : ℕ) → y ≡ z → fixed ≡ fixed_fields y → elements + fixed ≤ MOST_FIELDS → nat_lt (elements + fixed_fields z) (MOST_FIELDS + 1) ≡ true
few_enough y z elements fixed e count few = subst (λ k. nat_lt (elements + k) (MOST_FIELDS + 1) ≡ true) (count ∙ ap (λ k. fixed_fields k) e) (lt-ltb (elements + fixed) (MOST_FIELDS + 1) (omega (arith, few)))
