-- Which range of the table has a byte.
use Rattle.std.proofs.Common.{◌≡◌, ℕ, List, Option, ◌-◌, ◌^◌, ◌<◌, ◌≤◌, ◌&&◌, nat_lt, nat_le, true, length, Result, Ok, Err, sym, subst, arith}
use Rattle.std.proofs.lemmas.Bool.Decides.{nat_tests}
use borrow.Author.Tests.{ltb-true}
use Rattle.std.specs.List.{slice_index_or}
use Rattle.object_memory.specs.Told.{Told}
use Rattle.blue_model.specs.declared.cpu.Cpu.{Cpu}
use Rattle.blue_model.specs.declared.event.Line.{Line}
use Rattle.blue_model.specs.declared.step.Step.{Step}
use Rattle.blue_model.specs.Machine.{Rule}
use Rattle.blue_model.specs.Primitives.{then_next}
use Rattle.blue_model.specs.Bytecodes.{Range, bytecodes, bytecode}
use Rattle.blue_model.proofs.RangeLaws.{bytecode_by}
use Rattle.contexts.specs.declared.stop.Stop.{Stop}
use Rattle.contexts.specs.Serves.{ServesAs, Serves}
use Rattle.contexts.proofs.ServesLaws.{serves_then, serves_stop}
use Rattle.contexts.proofs.Steps.{done_serves}
use Rattle.bytecodes.specs.Steps.{next_by}

within : (events : List Line) (i : ℕ) → nat_lt i 45 ≡ true → i < length (bytecodes events)
unfolding bytecodes
within events i e = ltb-true i 45 e

inside : (low high byte : ℕ) → low ≤ byte → byte ≤ high → (nat_le low byte && nat_le byte high) ≡ true
inside low high byte above below = grind (arith, nat_tests)

-- What serves the rule of a range serves the bytecode that is in the range, which stands at this place of the table.
pub dispatched : {w : Option Step} {old new : Told} {cpu now : Cpu} {answer : Result Step Stop} (events : List Line) (byte i : ℕ) (r : Range) → byte < 2 ^ 8 → nat_lt i 45 ≡ true → slice_index_or (bytecodes events) i r ≡ r → r.first ≤ byte → byte ≤ r.last → ServesAs w old cpu new now (r.rule (byte - r.first)) answer → ServesAs w old cpu new now (bytecode events byte) answer
dispatched {w} {old} {new} {cpu} {now} {answer} events byte i r low place at above below s =
    subst (λ (rule : Rule Step). ServesAs w old cpu new now rule answer) (sym (bytecode_by events byte i r low (within events i place) at (inside r.first r.last byte above below))) s

-- the first range begins at 0
pub from_zero : {old new : Told} {cpu now : Cpu} {answer : Result (Unit {0}) Stop} (rule : ℕ → Rule (Unit {0})) (byte : ℕ) → Serves old cpu new now (rule byte) answer → Serves old cpu new now (rule (byte - 0)) answer
from_zero {old} {new} {cpu} {now} {answer} rule byte s = subst (λ n. Serves old cpu new now (rule n) answer) (omega arith) s

-- a call after which the next bytecode follows
pub next_serves : {w : Option Step} {old new : Told} {cpu now : Cpu} {p : Rule (Unit {0})} (r : Result (Unit {0}) Stop) → Serves old cpu new now p r → ServesAs w old cpu new now (then_next p) (next_by r)
unfolding then_next
next_serves (Ok tt) s = serves_then _ s (done_serves s.ready)
next_serves (Err e) s = serves_stop _ s
