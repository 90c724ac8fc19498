-- Steps of blocks and performs, and what tests of registers and numbers say.
use Rattle.std.proofs.Common.{zero, suc, ◌≡◌, ℕ, ℤ, pos, ◌<◌, ◌==◌, nat_lt, ◌↔◌, Bool, true, false, Option, Some, None, Result, Ok, IsTrue, IfSome, refl, ap, subst, arith}
use Rattle.std.specs.Prelude.{if◌then◌else◌}
use borrow.Author.Tests.{lt-ltb}
use Rattle.std.proofs.lemmas.Bool.Decides.{nat_tests}
use Rattle.std.proofs.lemmas.Grind.{common_steps}
use Rattle.std.proofs.lemmas.Int.{to_z_pos}
use mir.Val.{to_z}
use mir.Syntax.{w16}
use Rattle.long_names.specs.declared.value.Value.{Value}
use Rattle.long_names.specs.declared.value.Value.TheVariants.{Int, Ref}
use Rattle.long_names.specs.State.{IsRef, set_register}
use Rattle.object_memory.specs.Told.{Told, IsReady}
use Rattle.object_memory.proofs.LooksLaws.{Looks-put, put_value}
use Rattle.blue_model.specs.declared.answer.Answer.{Answer}
use Rattle.blue_model.specs.declared.cpu.Cpu.{Cpu}
use Rattle.blue_model.specs.Machine.{done}
use Rattle.blue_model.specs.Contexts.{store_field}
use Rattle.blue_model.specs.Control.{is_name, enter_block}
use Rattle.contexts.specs.declared.stop.Stop.{Stop}
use Rattle.contexts.specs.Serves.{Serves, with_found}
use Rattle.contexts.proofs.Frames.{below}
use Rattle.contexts.proofs.Steps.{done_serves, done_same, read_first}
use Rattle.contexts.proofs.RegisterLaws.{int_quiet}

-- ---- numbers that are stored

-- A store of a register that took a number before is one of the number.
pub number_first : {t u new : Told} {cpu now : Cpu} {answer : Result (Unit {0}) Stop} (of i : ℕ) (y z : ℤ) → of < 19 → y ≡ z → IsReady t → IsReady u → u ≡ (record t { regs = set_register t.regs 19 (Int y) }) → Serves u cpu new now (store_field (u.regs of) i (u.regs 19)) answer → Serves t cpu new now (store_field (t.regs of) i (Int z)) answer
number_first {t} {u} {new} {cpu} {now} {answer} of i y z low is before ready put s =
    let same = (Looks-put t u 19 (Int y) put).regs of (below 19 of low) in
    let number = put_value t u 19 (Int y) put in
    read_first before (int_quiet t u 19 y (omega arith) before ready put) (rw (same, number, is) at s)

-- a store of a number that is passed by value, into what a register still holds
pub stored_as : {old new : Told} {cpu now : Cpu} {answer : Result (Unit {0}) Stop} (v w : Value) (i : ℕ) (y z : ℤ) → v ≡ w → y ≡ z → Serves old cpu new now (store_field v i (Int y)) answer → Serves old cpu new now (store_field w i (Int z)) answer
stored_as {old} {new} {cpu} {now} {answer} v w i y z e is s = subst (λ x. Serves old cpu new now (store_field x i (Int z)) answer) e (subst (λ k. Serves old cpu new now (store_field v i (Int k)) answer) is s)

-- the same of a block that is entered
pub entered_as : {old new : Told} {cpu now : Cpu} {answer : Result Answer Stop} (v w : Value) (n k : ℕ) (y z : ℤ) → v ≡ w → n ≡ k → y ≡ z → Serves old cpu new now (enter_block v n y) answer → Serves old cpu new now (enter_block w k z) answer
entered_as {old} {new} {cpu} {now} {answer} v w n k y z e f is s =
    let here = subst (λ x. Serves old cpu new now (enter_block x n y) answer) e s in
    let there = subst (λ x. Serves old cpu new now (enter_block w x y) answer) f here in
    subst (λ x. Serves old cpu new now (enter_block w k x) answer) is there

-- a count that is passed as a signed number is that number
pub count_kept : (n : ℕ) → n < 16384 → to_z w16 n ≡ pos n
count_kept n low = to_z_pos w16 n (omega arith)

-- ---- tests

-- what was found has what all that may be found has
pub of_some : {A : Type 0} {o : Option A} (P : A → Type 0) (a : A) → o ≡ Some a → IfSome o P → P a
of_some {A} {o} P a e p = subst (λ x. IfSome x P) e p

-- a name, as a test of a register says that holds it still
pub named : (v w : Value) (b : Bool) → v ≡ w → (IsTrue b ↔ IsRef v) → b ≡ is_name w
named v w b e test = subst (λ x. b ≡ is_name x) e (here v b test)
  where
    here : (v : Value) (b : Bool) → (IsTrue b ↔ IsRef v) → b ≡ is_name v
    here (Int z) true test = absurd (test.0 refl)
    here (Int z) false test = refl
    here (Ref n) true test = refl
    here (Ref n) false test = let no : ◌≡◌ {A = Bool} false true = test.1 tt in absurd (cc)

-- a number is another, as a third says that is both
pub is_same : (a b c : ℕ) → a ≡ b → a ≡ c → (b == c) ≡ true
is_same a b c e f = grind (arith, common_steps, nat_tests)

pub is_other : (a b c : ℕ) → a ≡ b → (a ≡ c → ⊥) → (b == c) ≡ false
is_other a b c e f = grind (arith, common_steps, nat_tests, f)

-- a number that is above 0, or isn't
pub is_more : (n : ℕ) → (n ≡ 0 → ⊥) → nat_lt 0 n ≡ true
is_more zero apart = absurd (apart refl)
is_more (suc n) apart = lt-ltb 0 (suc n) (omega arith)

pub is_none : (n : ℕ) → n ≡ 0 → nat_lt 0 n ≡ false
is_none n e = ap (nat_lt 0) e

-- ---- the method that a lookup found

pub taken : {t : Told} {cpu : Cpu} (v w : Value) (k n : ℕ) → w ≡ v → IsReady t → Serves t cpu t cpu (done (if k == n then Some v else None)) (with_found (Ok (k == n)) w)
taken {t} {cpu} v w k n e ready = go (k == n)
  where
    go : (b : Bool) → Serves t cpu t cpu (done (if b then Some v else None)) (with_found (Ok b) w)
    go true = done_same (ap (λ (x : Value). Some x) e) ready
    go false = done_serves ready
