-- What the rules that set the pointers leave of them: what a context can state.
use Rattle.std.proofs.Common.{◌≡◌, ℕ, ℤ, pos, negsuc, ◌+◌, ◌-◌, ◌<◌, ◌≤◌, ◌&&◌, ◌+ℤ◌, ◌-ℤ◌, Bool, true, false, nat_lt, nat_le, List, [], length, slice_get, Option, Some, None, refl, sym, ap, ap₂, subst, if◌then◌else◌, arith}
use Rattle.std.proofs.lemmas.Bool.Decides.{nat_tests}
use Rattle.std.proofs.lemmas.Int.{ints}
use Rattle.std.proofs.lemmas.Option.{slice_get_within}
use Rattle.long_names.specs.declared.value.Value.{Value}
use Rattle.long_names.specs.declared.value.Value.TheVariants.{Int}
use Rattle.long_names.specs.declared.limits.TheConstants.{SMALL_INTEGERS}
use Rattle.long_names.specs.Words.{IsSmallInteger}
use Rattle.long_names.specs.State.{ACTIVE_CONTEXT, METHOD}
use Rattle.blue_model.specs.declared.cause.Cause.{Cause}
use Rattle.blue_model.specs.declared.cause.Cause.TheVariants.{Pointer, Stack, Shape}
use Rattle.blue_model.specs.declared.cpu.Cpu.{Cpu}
use Rattle.blue_model.specs.declared.indexes.TheConstants.{INSTRUCTION_POINTER_INDEX, STACK_POINTER_INDEX, TEMP_FRAME_START, EMPTY_STACK}
use Rattle.blue_model.specs.declared.limits.TheConstants.{LAST_BYTE, FULL_STACK}
use Rattle.blue_model.specs.Machine.{Machine, LogRow, Go, Rule, ◌>>=◌, ◌>>◌, then_do, after, done, given, numbers, register, set_numbers}
use Rattle.blue_model.specs.Parts.{Code, code_of, first_byte, byte_at, size}
use Rattle.blue_model.specs.ClassList.{part_in}
use Rattle.blue_model.specs.Contexts.{stated, stack_place, stack_pointer, lowered, push, pop, fetch, jump, byte_of, load, store_field, store_registers}
use Rattle.blue_model.specs.Pointers.{CanState, StatesSmall, RunsShort, store_untested}
use Rattle.blue_model.proofs.ComesLaws.{Comes, comes_then, comes_done, comes_halt, comes_weaker, looks_then, given_then, numbers_then, comes_register, comes_set_numbers, answers-part}
use Rattle.blue_model.proofs.BeginLaws.{load_comes}

-- ---- numbers

lt_true : (n k : ℕ) → n < k → nat_lt n k ≡ true
lt_true n k h = grind (arith, nat_tests)

stated_small : (z : ℤ) → IsSmallInteger z → stated z ≡ Some z
stated_small (pos n) h = ap (λ b. if b then Some (pos n) else None) (lt_true n SMALL_INTEGERS h)
stated_small (negsuc n) h = ap (λ b. if b then Some (negsuc n) else None) (lt_true n SMALL_INTEGERS h)

-- ---- the tests

pub never_untold : (m : Machine) → CanState m → store_registers m ≡ store_untested m
unfolding store_registers store_untested ◌>>=◌ numbers register given done
never_untold m can =
    ap₂ (λ x y. after [] (after [] (then_do (given Pointer x m) (λ ip. given Stack y >>= (λ depth. store_field (m.regs ACTIVE_CONTEXT) INSTRUCTION_POINTER_INDEX (Int ip) >> store_field (m.regs ACTIVE_CONTEXT) STACK_POINTER_INDEX (Int depth))))))
    (stated_small (m.cpu.ip +ℤ pos 1) can.ip) (stated_small (m.cpu.sp -ℤ pos EMPTY_STACK) can.sp)

-- ---- a byte of the method

-- a byte has a number from 0 on that isn't above the last one, and is one of the method's
record HasNumber (z : ℤ) (code : Code) : Type 0 where
  n : ℕ
  is : z ≡ pos n
  low : n ≤ LAST_BYTE
  inside : n < first_byte code + length code.bytes

numbered : (z : ℤ) (code : Code) (b : ℕ) → byte_at z code ≡ Some b → HasNumber z code
numbered (pos n) code b e = go (nat_le (first_byte code) n) (nat_le n LAST_BYTE) refl refl e
  where
    go : (x y : Bool) → nat_le (first_byte code) n ≡ x → nat_le n LAST_BYTE ≡ y → (if x && y then slice_get code.bytes (n - first_byte code) else None) ≡ Some b → HasNumber (pos n) code
    go true true f g h =
        let within : n - first_byte code < length code.bytes = slice_get_within code.bytes (n - first_byte code) b h in
        record {
          n = n;
          is = refl;
          low = (let le : nat_le n LAST_BYTE ≡ true = g in grind (arith, nat_tests, le));
          inside = (let from : first_byte code ≤ n = (let le : nat_le (first_byte code) n ≡ true = f in grind (arith, nat_tests, le)) in omega (arith, within, from));
        }
    go true false f g h = let none : ◌≡◌ {A = Option ℕ} None (Some b) = h in absurd (cc)
    go false y f g h = let none : ◌≡◌ {A = Option ℕ} None (Some b) = h in absurd (cc)
numbered (negsuc n) code b e = let none : ◌≡◌ {A = Option ℕ} None (Some b) = e in absurd (cc)

given_comes : {m : Machine} {A : Type 0} (c : Cause) (x : Option A) → Comes m (given c x) (λ a s. (s ≡ m) × (x ≡ Some a))
unfolding given
given_comes c None = comes_halt c
given_comes c (Some a) = comes_done a (refl, refl)

record HasByte (m : Machine) (z : ℤ) (method : Value) : Type 0 where
  code : Code
  is : part_in m.heap code_of method ≡ Some code
  number : HasNumber z code

byte_comes : {m : Machine} (z : ℤ) (method : Value) → Comes m (byte_of z method) (λ b s. (s ≡ m) × HasByte m z method)
unfolding byte_of
byte_comes {m} z method = looks_then _ (answers-part Shape code_of method) (λ code e. comes_weaker (given_comes Pointer (byte_at z code)) (λ b s both. (both.0, record { code = code; is = e; number = numbered z code b both.1 })))

byte_then : {m : Machine} {B : Type 0} {R : B → Machine → Type 0} (k : ℕ → Rule B) (z : ℤ) (method : Value) → ((b : ℕ) → HasByte m z method → Comes m (k b) R) → Comes m (byte_of z method >>= k) R
byte_then {m} {B} {R} k z method f = comes_then k (byte_comes z method) (λ b n both. subst (λ x. Comes x (k b) R) (sym both.0) (f b both.1))

method_then : {m : Machine} {B : Type 0} {R : B → Machine → Type 0} (k : Value → Rule B) (r : ℕ) → Comes m (k (m.regs r)) R → Comes m (register r >>= k) R
method_then {m} {B} {R} k r f = comes_then k (comes_register r) (λ v n both. subst (λ x. Comes x (k v) R) (sym both.0) (subst (λ x. Comes m (k x) R) (sym both.1) f))

-- the numbers are put, and the rest is an answer
put_comes : {m : Machine} {A : Type 0} (cpu : Cpu) (a : A) → Comes m (set_numbers cpu >>= (λ _. done a)) (λ b s. s.cpu ≡ cpu)
put_comes {m} cpu a = comes_then _ (comes_set_numbers cpu) (λ u n left. comes_done a (ap (λ (x : Machine). x.cpu) left))

number_comes : {m : Machine} (cpu : Cpu) → Comes m (set_numbers cpu) (λ b s. s.cpu ≡ cpu)
number_comes {m} cpu = comes_weaker (comes_set_numbers cpu) (λ u n left. ap (λ (x : Machine). x.cpu) left)

-- behind a byte
record IsBehind (m s : Machine) : Type 0 where
  byte : HasByte m m.cpu.ip (m.regs METHOD)
  cpu : s.cpu ≡ record m.cpu { ip = m.cpu.ip +ℤ pos 1 }

fetch_comes : {m : Machine} → Comes m fetch (λ b s. IsBehind m s)
unfolding fetch
fetch_comes {m} = numbers_then _ (method_then _ METHOD (byte_then _ m.cpu.ip (m.regs METHOD) (λ b has. comes_weaker (put_comes (record m.cpu { ip = m.cpu.ip +ℤ pos 1 }) b) (λ c s e. record { byte = has; cpu = e }))))

behind : (z : ℤ) (code : Code) → HasNumber z code → IsSmallInteger (z +ℤ pos 1 +ℤ pos 1)
behind z code has =
    let low = has.low in
    subst (λ x. IsSmallInteger (x +ℤ pos 1 +ℤ pos 1)) (sym has.is) (let it : has.n + 1 + 1 < SMALL_INTEGERS = omega (arith, low) in it)

pub fetch_states : (m s : Machine) (b : ℕ) (log : List LogRow) → CanState m → fetch m ≡ Go b s log → CanState s
fetch_states m s b log can e =
    let it = (fetch_comes {m = m}).to b s log e in
    record {
      ip = subst (λ (c : Cpu). IsSmallInteger (c.ip +ℤ pos 1)) (sym it.cpu) (behind m.cpu.ip it.byte.code it.byte.number);
      sp = subst (λ (c : Cpu). IsSmallInteger (c.sp -ℤ pos EMPTY_STACK)) (sym it.cpu) can.sp;
    }

-- the instruction pointer of a block, in a method as an image may have it
pub block_states : (m s : Machine) (b : ℕ) (log : List LogRow) → RunsShort m → fetch m ≡ Go b s log → stated (s.cpu.ip +ℤ pos 3) ≡ Some (s.cpu.ip +ℤ pos 3)
block_states m s b log short e =
    let it = (fetch_comes {m = m}).to b s log e in
    let has = it.byte.number in
    let inside = has.inside in
    let few = short.literals it.byte.code it.byte.is in
    let bytes = short.bytes it.byte.code it.byte.is in
    let small : IsSmallInteger (m.cpu.ip +ℤ pos 1 +ℤ pos 3) = subst (λ x. IsSmallInteger (x +ℤ pos 1 +ℤ pos 3)) (sym has.is) (let low : has.n + 1 + 3 < SMALL_INTEGERS = omega (arith, inside, few, bytes) in low) in
    stated_small (s.cpu.ip +ℤ pos 3) (subst (λ (c : Cpu). IsSmallInteger (c.ip +ℤ pos 3)) (sym it.cpu) small)

jump_comes : {m : Machine} (distance : ℤ) → Comes m (jump distance) (λ b s. HasByte m (m.cpu.ip +ℤ distance) (m.regs METHOD) × (s.cpu ≡ record m.cpu { ip = m.cpu.ip +ℤ distance }))
unfolding jump
jump_comes {m} distance = numbers_then _ (method_then _ METHOD (byte_then _ (m.cpu.ip +ℤ distance) (m.regs METHOD) (λ b has. comes_weaker (number_comes (record m.cpu { ip = m.cpu.ip +ℤ distance })) (λ c s e. (has, e)))))

pub jump_states : (distance : ℤ) (m s : Machine) (log : List LogRow) → CanState m → jump distance m ≡ Go tt s log → CanState s
jump_states distance m s log can e =
    let it = (jump_comes {m = m} distance).to tt s log e in
    let has = it.0.number in
    let low = has.low in
    let small : IsSmallInteger (m.cpu.ip +ℤ distance +ℤ pos 1) = subst (λ x. IsSmallInteger (x +ℤ pos 1)) (sym has.is) (let l : has.n + 1 < SMALL_INTEGERS = omega (arith, low) in l) in
    record {
      ip = subst (λ (c : Cpu). IsSmallInteger (c.ip +ℤ pos 1)) (sym it.1) small;
      sp = subst (λ (c : Cpu). IsSmallInteger (c.sp -ℤ pos EMPTY_STACK)) (sym it.1) can.sp;
    }

-- ---- the stack

-- a value on the stack
placed_small : (z : ℤ) (len place : ℕ) → stack_place z len ≡ Some place → IsSmallInteger (z -ℤ pos EMPTY_STACK)
placed_small (pos n) len place e = go (nat_le TEMP_FRAME_START n) (nat_le n FULL_STACK) refl refl e
  where
    go : (x y : Bool) → nat_le TEMP_FRAME_START n ≡ x → nat_le n FULL_STACK ≡ y → (if x && (y && nat_lt n len) then Some n else None) ≡ Some place → IsSmallInteger (pos n -ℤ pos EMPTY_STACK)
    go true true f g h =
        let from : 5 ≤ n = (let le : nat_le TEMP_FRAME_START n ≡ true = f in grind (arith, nat_tests, le)) in
        let upto : n ≤ FULL_STACK = (let le : nat_le n FULL_STACK ≡ true = g in grind (arith, nat_tests, le)) in
        let is : pos n -ℤ pos EMPTY_STACK ≡ pos (n - 5) = omega (arith, ints, from) in
        subst IsSmallInteger (sym is) (let l : n - 5 < SMALL_INTEGERS = omega (arith, upto) in l)
    go true false f g h = let none : ◌≡◌ {A = Option ℕ} None (Some place) = h in absurd (cc)
    go false y f g h = let none : ◌≡◌ {A = Option ℕ} None (Some place) = h in absurd (cc)
placed_small (negsuc n) len place e = let none : ◌≡◌ {A = Option ℕ} None (Some place) = e in absurd (cc)

push_comes : {m : Machine} (v : Value) → Comes m (push v) (λ b s. (len : ℕ) × (place : ℕ) × (stack_place (m.cpu.sp +ℤ pos 1) len ≡ Some place) × (s.cpu ≡ record m.cpu { sp = m.cpu.sp +ℤ pos 1 }))
unfolding push
push_comes {m} v =
    numbers_then _ (method_then _ ACTIVE_CONTEXT (looks_then _ (answers-part Shape (size 0) (m.regs ACTIVE_CONTEXT)) (λ len e. given_then _ Stack (stack_place (m.cpu.sp +ℤ pos 1) len) (λ place f.
    comes_then {Q = λ _ _. Unit {0}} _ (record { to = λ a s log g. tt }) (λ a n any. comes_weaker (number_comes (record m.cpu { sp = m.cpu.sp +ℤ pos 1 })) (λ c s g. (len, place, f, g)))))))

pub push_states : (v : Value) (m s : Machine) (log : List LogRow) → CanState m → push v m ≡ Go tt s log → CanState s
push_states v m s log can e =
    let it = (push_comes {m = m} v).to tt s log e in
    record {
      ip = subst (λ (c : Cpu). IsSmallInteger (c.ip +ℤ pos 1)) (sym it.3) can.ip;
      sp = subst (λ (c : Cpu). IsSmallInteger (c.sp -ℤ pos EMPTY_STACK)) (sym it.3) (placed_small (m.cpu.sp +ℤ pos 1) it.0 it.1 it.2);
    }

lowered_small : (z : ℤ) (n : ℕ) (sp : ℤ) → lowered z n ≡ Some sp → IsSmallInteger (z -ℤ pos EMPTY_STACK) → IsSmallInteger (sp -ℤ pos EMPTY_STACK)
lowered_small (pos k) n sp e small = go (nat_le (n + EMPTY_STACK) k) refl e
  where
    go : (x : Bool) → nat_le (n + EMPTY_STACK) k ≡ x → (if x then Some (pos (k - n)) else None) ≡ Some sp → IsSmallInteger (sp -ℤ pos EMPTY_STACK)
    go true f g =
        let from : n + 5 ≤ k = (let le : nat_le (n + EMPTY_STACK) k ≡ true = f in grind (arith, nat_tests, le)) in
        let same : pos (k - n) ≡ sp = cc in
        let was : pos k -ℤ pos EMPTY_STACK ≡ pos (k - 5) = omega (arith, ints, from) in
        let low : k - 5 < SMALL_INTEGERS = subst IsSmallInteger was small in
        let is : pos (k - n) -ℤ pos EMPTY_STACK ≡ pos (k - n - 5) = omega (arith, ints, from) in
        subst (λ x. IsSmallInteger (x -ℤ pos EMPTY_STACK)) same (subst IsSmallInteger (sym is) (let l : k - n - 5 < SMALL_INTEGERS = omega (arith, low) in l))
    go false f g = let none : ◌≡◌ {A = Option ℤ} None (Some sp) = g in absurd (cc)
lowered_small (negsuc k) n sp e small = let none : ◌≡◌ {A = Option ℤ} None (Some sp) = e in absurd (cc)

pop_comes : {m : Machine} (n : ℕ) → Comes m (pop n) (λ b s. (sp : ℤ) × (lowered m.cpu.sp n ≡ Some sp) × (s.cpu ≡ record m.cpu { sp = sp }))
unfolding pop
pop_comes {m} n = numbers_then _ (given_then _ Stack (lowered m.cpu.sp n) (λ sp e. comes_weaker (number_comes (record m.cpu { sp = sp })) (λ c s g. (sp, e, g))))

pub pop_states : (n : ℕ) (m s : Machine) (log : List LogRow) → CanState m → pop n m ≡ Go tt s log → CanState s
pop_states n m s log can e =
    let it = (pop_comes {m = m} n).to tt s log e in
    record {
      ip = subst (λ (c : Cpu). IsSmallInteger (c.ip +ℤ pos 1)) (sym it.2) can.ip;
      sp = subst (λ (c : Cpu). IsSmallInteger (c.sp -ℤ pos EMPTY_STACK)) (sym it.2) (lowered_small m.cpu.sp n it.0 it.1 can.sp);
    }

-- ---- a context that is loaded

back_again : (z : ℤ) → z -ℤ pos 1 +ℤ pos 1 ≡ z
back_again z = omega (arith, ints)

deep_small : (depth sp : ℤ) → stack_pointer depth ≡ Some sp → IsSmallInteger depth → IsSmallInteger (sp -ℤ pos EMPTY_STACK)
deep_small (pos n) sp e small =
    let same : pos (n + EMPTY_STACK) ≡ sp = cc in
    let is : pos (n + 5) -ℤ pos EMPTY_STACK ≡ pos n = omega (arith, ints) in
    subst (λ x. IsSmallInteger (x -ℤ pos EMPTY_STACK)) same (subst IsSmallInteger (sym is) small)
deep_small (negsuc n) sp e small = let none : ◌≡◌ {A = Option ℤ} None (Some sp) = e in absurd (cc)

pub load_states : (context : Value) (m s : Machine) (log : List LogRow) → StatesSmall m context → load context m ≡ Go tt s log → CanState s
load_states context m s log small e =
    let it = (load_comes {m = m} context).to tt s log e in
    let k = it.0 in
    subst CanState (sym it.2) (record {
      ip = subst IsSmallInteger (sym (back_again k.ip)) (small.ip k.ip k.ip_is);
      sp = deep_small k.depth k.sp k.sp_is (small.depth k.depth k.depth_is);
    })
