-- Steps of an activation.
-- Arguments are copied by a loop that serves `each p n`: the calls before turn k serve `each p k` (`each_none`, `each_more`),
-- and a turn that stops stops the whole (`each_stop`).
use Rattle.std.proofs.Common.{◌≡◌, ℕ, ℤ, pos, ◌+◌, ◌<◌, ◌≤◌, Some, None, Result, refl, ◌∙◌, ap, arith}
use mir.Val.{to_z}
use mir.Syntax.{w16}
use Rattle.std.proofs.lemmas.Int.{to_z_pos}
use Rattle.std.proofs.lemmas.Grind.{common_steps}
use Rattle.long_names.specs.declared.value.Value.{Value}
use Rattle.long_names.specs.declared.value.Value.TheVariants.{Int}
use Rattle.long_names.specs.State.{set_register}
use Rattle.object_memory.specs.Told.{Told, IsReady}
use Rattle.object_memory.proofs.LooksLaws.{Looks-put, put_value}
use Rattle.blue_model.specs.declared.cpu.Cpu.{Cpu}
use Rattle.blue_model.specs.Contexts.{store_field}
use Rattle.blue_model.specs.Messages.{argument_place}
use Rattle.contexts.specs.declared.stop.Stop.{Stop}
use Rattle.contexts.specs.Serves.{Serves}
use Rattle.contexts.proofs.Steps.{read_first}
use Rattle.contexts.proofs.RegisterLaws.{int_quiet}

-- ---- the field of an argument

pub place_there : (len k : ℕ) → 5 + k < len → argument_place len k ≡ Some (5 + k)
place_there len k low = grind (arith, common_steps)

pub place_lacking : (len k : ℕ) → len ≤ 5 + k → argument_place len k ≡ None
place_lacking len k high = grind (arith, common_steps)

-- ---- a number that comes into a new context

-- A store of a register that took a number before is one of the number.
pub number_first : {t u new : Told} {cpu now : Cpu} {answer : Result (Unit {0}) Stop} (i : ℕ) (v : Value) (y z : ℤ) → t.regs 16 ≡ v → y ≡ z → IsReady t → IsReady u → u ≡ (record t { regs = set_register t.regs 15 (Int y) }) → Serves u cpu new now (store_field (u.regs 16) i (u.regs 15)) answer → Serves t cpu new now (store_field v i (Int z)) answer
number_first {t} {u} {new} {cpu} {now} {answer} i v y z is e before ready put s =
    let context = (Looks-put t u 15 (Int y) put).regs 16 refl in
    let number = put_value t u 15 (Int y) put in
    read_first before (int_quiet t u 15 y (omega arith) before ready put) (rw (context, is, number, e) at s)

-- a small count that is passed as a signed number is that number
pub count_kept : (n k : ℕ) → n < 32 → n ≡ k → to_z w16 n ≡ pos k
count_kept n k low e = to_z_pos w16 n (omega arith) ∙ ap (λ x. pos x) e

-- ---- the end of a rule
