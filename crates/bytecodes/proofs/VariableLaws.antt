-- Which rule the byte after an extended bytecode means, and the numbers that a bytecode pushes.
use Rattle.std.proofs.Common.{suc, ◌≡◌, ℕ, ℤ, pos, negsuc, ◌-ℤ◌, ◌<◌, ◌-◌, ◌/◌, ◌%◌, ◌==◌, nat_lt, Bool, true, false, cond, if◌then◌else◌, Result, refl, sym, ◌∙◌, ap, subst, arith}
use mir.Val.{of_z, to_z}
use mir.Syntax.{w16}
use Rattle.long_names.specs.Words.{IsSmallInteger}
use Rattle.object_memory.specs.Told.{Told}
use Rattle.object_memory.proofs.ShapeLaws.{small_number}
use Rattle.blue_model.specs.declared.cause.Cause.TheVariants.{Unused}
use Rattle.blue_model.specs.declared.cpu.Cpu.{Cpu}
use Rattle.blue_model.specs.Machine.{Rule, halt, pick}
use Rattle.blue_model.specs.Bytecodes.{receiver_variable, temporary, literal_constant, literal_variable, push_of, store_top, by_kind, extended_store_of}
use Rattle.contexts.specs.declared.stop.Stop.{Stop}
use Rattle.contexts.specs.Serves.{Serves}
use Rattle.bytecodes.specs.declared.variables.Variable.{Variable}
use Rattle.bytecodes.specs.declared.variables.Variable.TheVariants.{Receiver, Temporary, Literal, LiteralVariable}
use Rattle.bytecodes.specs.Variables.{loads, stores, kind_of}

-- one of four rules is that of the kind
kind_rule : {A : Type 0} (n : ℕ) (rule : Variable → Rule A) → by_kind n (rule Receiver) (rule Temporary) (rule Literal) (rule LiteralVariable) ≡ rule (kind_of n)
unfolding by_kind pick
kind_rule {A} n rule = go (n / 64 == 0) (n / 64 == 1) (n / 64 == 2)
  where
    go : (a b c : Bool) → pick a (rule Receiver) (pick b (rule Temporary) (pick c (rule Literal) (rule LiteralVariable))) ≡ rule (if a then Receiver else (if b then Temporary else (if c then Literal else LiteralVariable)))
    go true b c = refl
    go false true c = refl
    go false false true = refl
    go false false false = refl

-- the push of a variable, as its byte states it
pub kind_pushed : {old new : Told} {cpu now : Cpu} (n : ℕ) {answer : Result (Unit {0}) Stop} → Serves old cpu new now (push_of (loads (kind_of n) (n % 64))) answer → Serves old cpu new now (push_of (by_kind n (receiver_variable (n % 64)) (temporary (n % 64)) (literal_constant (n % 64)) (literal_variable (n % 64)))) answer
kind_pushed {old} {new} {cpu} {now} n {answer} s = subst (λ p. Serves old cpu new now (push_of p) answer) (sym (kind_rule n (λ v. loads v (n % 64)))) s

-- an extended store, by the kind of its variable
abbrev pub kind_stores : ℕ → Variable → Rule (Unit {0})
kind_stores i Receiver = store_top (stores Receiver i)
kind_stores i Temporary = store_top (stores Temporary i)
kind_stores i Literal = halt Unused
kind_stores i LiteralVariable = store_top (stores LiteralVariable i)

pub kind_stored : {old new : Told} {cpu now : Cpu} (n : ℕ) {answer : Result (Unit {0}) Stop} → Serves old cpu new now (kind_stores (n % 64) (kind_of n)) answer → Serves old cpu new now (extended_store_of n) answer
unfolding extended_store_of
kind_stored {old} {new} {cpu} {now} n {answer} s = subst (λ p. Serves old cpu new now p answer) (sym (kind_rule n (λ v. kind_stores (n % 64) v))) s

-- of a variable that can be stored into
pub kind_tops : {old new : Told} {cpu now : Cpu} (i : ℕ) (v : Variable) {answer : Result (Unit {0}) Stop} → (v ≡ Literal → ⊥) → Serves old cpu new now (store_top (stores v i)) answer → Serves old cpu new now (kind_stores i v) answer
kind_tops i Receiver apart s = s
kind_tops i Temporary apart s = s
kind_tops i Literal apart s = absurd (apart refl)
kind_tops i LiteralVariable apart s = s

-- the number before that of a byte is a SmallInteger
before_small : (i : ℕ) → i < 256 → IsSmallInteger (pos i -ℤ pos 1)
before_small i low = go (nat_lt i 1)
  where
    go : (b : Bool) → IsSmallInteger (cond b (negsuc (1 - suc i)) (pos (i - 1)))
    go true = omega arith
    go false = omega arith

-- and what is passed for it is that number
pub before_kept : (z : ℤ) (i : ℕ) → i < 256 → z ≡ pos i → to_z w16 (of_z w16 (to_z w16 (of_z w16 z) -ℤ pos 1)) ≡ pos i -ℤ pos 1
before_kept z i low e =
    let same : to_z w16 (of_z w16 z) ≡ pos i = ap (λ (x : ℤ). to_z w16 (of_z w16 x)) e ∙ small_number (pos i) (omega arith) in
    ap (λ (x : ℤ). to_z w16 (of_z w16 (x -ℤ pos 1))) same ∙ small_number (pos i -ℤ pos 1) (before_small i low)
