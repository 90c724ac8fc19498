-- Index arguments, and numbers that are passed by value.
use Rattle.std.proofs.Common.{suc, ◌≡◌, ℕ, ℤ, pos, negsuc, ◌+◌, ◌*◌, ◌<◌, ◌^◌, ◌==◌, nat_lt, Bool, true, false, List, [], ◌∷◌, Option, Some, None, Result, Ok, ◌≤◌, refl, sym, ◌∙◌, ap, subst, arith}
use Rattle.std.specs.Prelude.{if◌then◌else◌, length}
use Rattle.std.proofs.lemmas.Grind.{common_steps}
use Rattle.std.proofs.lemmas.Bool.Decides.{nat_tests}
use Rattle.std.specs.Option.{option_and_then}
use mir.Val.{hbits, of_z, to_z}
use mir.Syntax.{w16, w32}
use lib.Signed.{mag}
use Rattle.long_names.specs.declared.limits.TheConstants.{MACHINE_REGISTERS, SMALL_INTEGERS}
use Rattle.long_names.specs.declared.value.Value.{Value}
use Rattle.long_names.specs.declared.value.Value.TheVariants.{Int, Ref}
use Rattle.long_names.specs.Words.{IsSmallInteger}
use Rattle.long_names.specs.declared.object.Body.{Body}
use Rattle.long_names.specs.declared.object.Body.TheVariants.{Pointers, Words, Bytes, Method}
use Rattle.long_names.specs.declared.object.Object.{Object}
use Rattle.long_names.specs.Names.{LARGE_POSITIVE_INTEGER}
use Rattle.long_names.specs.Objects.{int_of, is_ref, text_of}
use Rattle.long_names.specs.State.{IsRef, set_register}
use Rattle.object_memory.specs.Told.{Told, IsReady}
use Rattle.object_memory.proofs.ShapeLaws.{small_number}
use Rattle.object_memory.proofs.LooksLaws.{put_value}
use Rattle.blue_model.specs.declared.cause.Cause.TheVariants.{Shape}
use Rattle.blue_model.specs.declared.cpu.Cpu.{Cpu}
use Rattle.blue_model.specs.Machine.{Machine, Outcome, Go, Rule, row_of, after, then_do, ◌>>=◌, done, pick, part, class_of}
use Rattle.blue_model.specs.declared.spot.Spot.{Spot}
use Rattle.blue_model.specs.Trials.{peek}
use Rattle.blue_model.specs.Elements.{two_bytes, large_number, index_by, index_argument, is_positive, element_number, spot_of, spot_at, byte_of_object}
use Rattle.contexts.specs.declared.stop.Stop.{Stop}
use Rattle.contexts.specs.Serves.{Serves}
use Rattle.contexts.proofs.CodeLaws.{kept}
use Rattle.contexts.proofs.RegisterLaws.{int_quiet}
use Rattle.contexts.proofs.Steps.{read_last}
use Rattle.prims_object.specs.Extents.{text_length}
use Rattle.prims_object.specs.Numbers.{IsIndex, is_pair, positive}
use Rattle.prims_object.proofs.TestLaws.{done_as}
use Rattle.prims_object.proofs.WithinLaws.{IsWithin, only_row, goes_within, halts_within, peek_goes, peek_halts, part_goes, class_goes, class_halts}

-- ---- numbers of 32 bits

pub index_kept : (z : ℤ) → IsIndex z → to_z w32 (of_z w32 z) ≡ z
index_kept z small = kept z (fits z small)
  where
    fits : (z : ℤ) → IsIndex z → mag z < 2 ^ hbits w32
    fits (pos n) low = omega arith
    fits (negsuc n) low = omega arith

pub index_as : (y z : ℤ) → y ≡ z → IsIndex z → to_z w32 (of_z w32 y) ≡ z
index_as y z e small = ap (λ (x : ℤ). to_z w32 (of_z w32 x)) e ∙ index_kept z small

pub small_index : (z : ℤ) → IsSmallInteger z → IsIndex z
small_index (pos n) low = omega arith
small_index (negsuc n) low = omega arith

-- a byte that is passed as a number of 16 bits
pub byte_kept : (y : ℤ) (b : ℕ) → y ≡ pos b → b < 256 → to_z w16 (of_z w16 y) ≡ pos b
byte_kept y b e low = ap (λ (x : ℤ). to_z w16 (of_z w16 x)) e ∙ small_number (pos b) (omega arith)

-- ---- numbers from 1 on

pub not_positive : (z : ℤ) → positive z ≡ None → is_positive z ≡ false
not_positive (negsuc n) e = refl
not_positive (pos n) e = go (nat_lt 0 n) e
  where
    go : (b : Bool) → ◌≡◌ {A = Option ℕ} (if b then Some n else None) None → b ≡ false
    go true e = let no : ◌≡◌ {A = Option ℕ} (Some n) None = e in absurd (cc)
    go false e = refl

pub is_one : (z : ℤ) (n : ℕ) → positive z ≡ Some n → is_positive z ≡ true
is_one (negsuc k) n e = let no : ◌≡◌ {A = Option ℕ} None (Some n) = e in absurd (cc)
is_one (pos k) n e = go (nat_lt 0 k) e
  where
    go : (b : Bool) → ◌≡◌ {A = Option ℕ} (if b then Some k else None) (Some n) → b ≡ true
    go true e = refl
    go false e = let no : ◌≡◌ {A = Option ℕ} None (Some n) = e in absurd (cc)

pub element_there : (z : ℤ) (n fixed : ℕ) → positive z ≡ Some n → element_number z (Some fixed) ≡ Some (n + fixed)
element_there (negsuc k) n fixed e = let no : ◌≡◌ {A = Option ℕ} None (Some n) = e in absurd (cc)
element_there (pos k) n fixed e = go (nat_lt 0 k) e
  where
    go : (b : Bool) → ◌≡◌ {A = Option ℕ} (if b then Some k else None) (Some n) → ◌≡◌ {A = Option ℕ} (if b then Some (k + fixed) else None) (Some (n + fixed))
    go true e = let same : k ≡ n = cc in ap (λ x. Some (x + fixed)) same
    go false e = let no : ◌≡◌ {A = Option ℕ} None (Some n) = e in absurd (cc)

-- the element of an object that has no fixed fields
pub element_unfixed : (z : ℤ) → element_number z (Some 0) ≡ positive z
element_unfixed (negsuc k) = refl
element_unfixed (pos k) = let same : k + 0 ≡ k = omega arith in ap (λ x. if nat_lt 0 k then Some x else None) same

pub spot_there : {old new : Told} {cpu now : Cpu} {answer : Result (Option Spot) Stop} (v : Value) (e : Option ℕ) (n : ℕ) → e ≡ Some n → Serves old cpu new now (peek (spot_of n) v) answer → Serves old cpu new now (spot_at v e) answer
spot_there {old} {new} {cpu} {now} {answer} v e n is s = subst (λ x. Serves old cpu new now (spot_at v x) answer) (sym is) s

pub spot_nowhere : {t : Told} {cpu : Cpu} (v : Value) (e : Option ℕ) → e ≡ None → IsReady t → Serves t cpu t cpu (spot_at v e) (Ok None)
spot_nowhere {t} {cpu} v e none ready = subst (λ x. Serves t cpu t cpu (spot_at v x) (Ok None)) (sym none) (done_as _ _ refl ready)

-- ---- two bytes, which are looked at one after the other

abbrev pub both_bytes : Value → Rule (Option ℤ)
both_bytes v = part Shape (byte_of_object 0) v >>= λ low. part Shape (byte_of_object 1) v >>= λ high. done (Some (pos (low + 256 * high)))

abbrev pub two_of : Object → Option ℤ
two_of o = option_and_then two_bytes (text_of o.body)

abbrev two_next : Value → Option ℕ → Rule (Option ℤ)
two_next v found = pick (is_pair found) (both_bytes v) (done None)

abbrev pub two_by_steps : Value → Rule (Option ℤ)
two_by_steps v = peek text_length v >>= two_next v

-- both bytes of an object that has them
both_go : (m : Machine) (n : ℕ) (o : Object) (a b : ℕ) → m.heap.at n ≡ Some o → byte_of_object 0 o ≡ Some a → byte_of_object 1 o ≡ Some b → both_bytes (Ref n) m ≡ Go (Some (pos (a + 256 * b))) m (row_of m n ∷ row_of m n ∷ [])
unfolding done ◌>>=◌
both_go m n o a b e f g =
    ap (λ (x : Outcome ℕ). then_do x (λ low. part Shape (byte_of_object 1) (Ref n) >>= λ high. done (Some (pos (low + 256 * high))))) (part_goes (byte_of_object 0) m n o a e f)
    ∙ ap (λ (x : Outcome ℕ). after (only_row m n) (then_do x (λ high. done (Some (pos (a + 256 * high)))))) (part_goes (byte_of_object 1) m n o b e g)

first_step : (m : Machine) (n : ℕ) (o : Object) → m.heap.at n ≡ Some o → two_by_steps (Ref n) m ≡ after (only_row m n) (two_next (Ref n) (text_length o) m)
unfolding ◌>>=◌
first_step m n o e = ap (λ (x : Outcome (Option ℕ)). then_do x (two_next (Ref n))) (peek_goes text_length m n o e)

-- where there aren't two
fewer : (m : Machine) (n : ℕ) (o : Object) → m.heap.at n ≡ Some o → is_pair (text_length o) ≡ false → two_of o ≡ None → IsWithin (two_by_steps (Ref n) m) (peek two_of (Ref n) m)
unfolding pick done
fewer m n o e f g =
    goes_within (row_of m n) _ _ None m (only_row m n)
    (first_step m n o e ∙ ap (λ b. after (only_row m n) (pick b (both_bytes (Ref n)) (done None) m)) f)
    (peek_goes two_of m n o e ∙ ap (λ x. Go x m (only_row m n)) g)
    (refl, tt)

more : (n : ℕ) → (suc (suc (suc n)) == 2) ≡ false
more n = grind (arith, common_steps, nat_tests)

pub two_within : (v : Value) (m : Machine) → IsWithin (two_by_steps v m) (peek two_of v m)
unfolding peek done pick ◌>>=◌ text_length byte_of_object
two_within (Int z) m = (refl, refl, record { needs = λ need h. h; makings = λ n h. h })
two_within (Ref n) m = go (m.heap.at n) refl
  where
    text : (class : ℕ) (bytes : List ℕ) → m.heap.at n ≡ Some (record { class = class; body = Bytes bytes }) → IsWithin (two_by_steps (Ref n) m) (peek two_of (Ref n) m)
    text class [] e = fewer m n _ e refl refl
    text class (a ∷ []) e = fewer m n _ e refl refl
    text class (a ∷ b ∷ []) e =
        goes_within (row_of m n) _ _ (Some (pos (a + 256 * b))) m (row_of m n ∷ row_of m n ∷ row_of m n ∷ [])
        (first_step m n _ e ∙ ap (λ (x : Outcome (Option ℤ)). after (only_row m n) x) (both_go m n _ a b e refl refl))
        (peek_goes two_of m n _ e)
        (refl, (refl, (refl, tt)))
    text class (a ∷ b ∷ c ∷ bs) e = fewer m n _ e (more (length bs)) refl

    body : (class : ℕ) (b : Body) → m.heap.at n ≡ Some (record { class = class; body = b }) → IsWithin (two_by_steps (Ref n) m) (peek two_of (Ref n) m)
    body class (Pointers values) e = fewer m n _ e refl refl
    body class (Words words) e = fewer m n _ e refl refl
    body class (Bytes bytes) e = text class bytes e
    body class (Method header literals code) e = fewer m n _ e refl refl

    go : (x : Option Object) → m.heap.at n ≡ x → IsWithin (two_by_steps (Ref n) m) (peek two_of (Ref n) m)
    go None e = halts_within (row_of m n) _ _ Shape (only_row m n) (ap (λ (x : Outcome (Option ℕ)). then_do x (two_next (Ref n))) (peek_halts text_length m n e)) (peek_halts two_of m n e) (refl, tt)
    go (Some o) e = body o.class o.body e

-- ---- a LargePositiveInteger, whose class is looked at before

abbrev large_next : Value → Value → Rule (Option ℤ)
large_next v class = pick (is_ref LARGE_POSITIVE_INTEGER class) (peek two_of v) (done None)

abbrev pub large_by_steps : Value → Rule (Option ℤ)
large_by_steps v = class_of v >>= large_next v

pub large_within : (v : Value) → IsRef v → (m : Machine) → IsWithin (large_by_steps v m) (peek large_number v m)
unfolding done pick ◌>>=◌ large_number
large_within (Int z) named m = absurd named
large_within (Ref n) named m = go (m.heap.at n) refl
  where
    first : (o : Object) → m.heap.at n ≡ Some o → large_by_steps (Ref n) m ≡ after (only_row m n) (large_next (Ref n) (Ref o.class) m)
    first o e = ap (λ (x : Outcome Value). then_do x (large_next (Ref n))) (class_goes m n o e)

    by : (o : Object) (b : Bool) → m.heap.at n ≡ Some o → (o.class == LARGE_POSITIVE_INTEGER) ≡ b → IsWithin (large_by_steps (Ref n) m) (peek large_number (Ref n) m)
    by o true e f =
        goes_within (row_of m n) _ _ (two_of o) m (row_of m n ∷ row_of m n ∷ [])
        (first o e ∙ ap (λ b. after (only_row m n) (pick b (peek two_of (Ref n)) (done None) m)) f ∙ ap (λ (x : Outcome (Option ℤ)). after (only_row m n) x) (peek_goes two_of m n o e))
        (peek_goes large_number m n o e ∙ ap (λ b. Go (if b then two_of o else None) m (only_row m n)) f)
        (refl, (refl, tt))
    by o false e f =
        goes_within (row_of m n) _ _ None m (only_row m n)
        (first o e ∙ ap (λ b. after (only_row m n) (pick b (peek two_of (Ref n)) (done None) m)) f)
        (peek_goes large_number m n o e ∙ ap (λ b. Go (if b then two_of o else None) m (only_row m n)) f)
        (refl, tt)

    go : (x : Option Object) → m.heap.at n ≡ x → IsWithin (large_by_steps (Ref n) m) (peek large_number (Ref n) m)
    go None e = halts_within (row_of m n) _ _ Shape (only_row m n) (ap (λ (x : Outcome Value). then_do x (large_next (Ref n))) (class_halts m n e)) (peek_halts large_number m n e) (refl, tt)
    go (Some o) e = by o (o.class == LARGE_POSITIVE_INTEGER) e refl

-- ---- index arguments

pub index_number : {t : Told} {cpu : Cpu} (v : Value) (y z : ℤ) → int_of v ≡ Some z → y ≡ z → IsReady t → Serves t cpu t cpu (index_argument v) (Ok (Some y))
unfolding index_argument
index_number {t} {cpu} v y z is same ready = subst (λ o. Serves t cpu t cpu (index_by o v) (Ok (Some y))) (sym is) (done_as _ _ (ap (λ x. Some x) (sym same)) ready)

pub index_object : {old new : Told} {cpu now : Cpu} {answer : Result (Option ℤ) Stop} (v : Value) → int_of v ≡ None → Serves old cpu new now (peek large_number v) answer → Serves old cpu new now (index_argument v) answer
unfolding index_argument
index_object {old} {new} {cpu} {now} {answer} v none s = subst (λ o. Serves old cpu new now (index_by o v) answer) (sym none) s

-- ---- numbers as answers

pub is_small : (n : ℕ) → n < SMALL_INTEGERS → nat_lt n SMALL_INTEGERS ≡ true
is_small n low = grind (arith, nat_tests)

pub is_large : (n : ℕ) → SMALL_INTEGERS ≤ n → nat_lt n SMALL_INTEGERS ≡ false
is_large n high = grind (arith, nat_tests)

-- A number came into a scratch register, and is the answer.
pub number_serves : {old new : Told} {cpu : Cpu} (to : ℕ) (y z : ℤ) → MACHINE_REGISTERS ≤ to → y ≡ z → IsReady old → IsReady new → new ≡ (record old { regs = set_register old.regs to (Int y) }) → Serves old cpu new cpu (done (Int z)) (Ok (new.regs to))
number_serves {old} {new} {cpu} to y z above same before ready put = read_last (done_as (Int z) (new.regs to) (sym (put_value old new to (Int y) put ∙ ap (λ x. Int x) same)) before) (int_quiet old new to y above before ready put)
