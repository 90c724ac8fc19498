-- A number that comes into a new object.
use Rattle.std.proofs.Common.{◌≡◌, ℕ, ℤ, refl, Result, arith}
use Rattle.long_names.specs.declared.value.Value.{Value}
use Rattle.long_names.specs.declared.value.Value.TheVariants.{Int}
use Rattle.long_names.specs.State.{set_register}
use Rattle.object_memory.specs.Told.{Told, IsReady}
use Rattle.object_memory.proofs.LooksLaws.{Looks-put, put_value}
use Rattle.blue_model.specs.declared.cpu.Cpu.{Cpu}
use Rattle.blue_model.specs.Contexts.{store_field}
use Rattle.contexts.specs.declared.stop.Stop.{Stop}
use Rattle.contexts.specs.Serves.{Serves}
use Rattle.contexts.proofs.Steps.{read_first}
use Rattle.contexts.proofs.RegisterLaws.{int_quiet}

-- A store of the register that took a number before is one of the number.
pub number_stored : {t u new : Told} {cpu now : Cpu} {answer : Result (Unit {0}) Stop} (i : ℕ) (v : Value) (y z : ℤ) → t.regs 11 ≡ v → y ≡ z → IsReady t → IsReady u → u ≡ (record t { regs = set_register t.regs 10 (Int y) }) → Serves u cpu new now (store_field (u.regs 11) i (u.regs 10)) answer → Serves t cpu new now (store_field v i (Int z)) answer
number_stored {t} {u} {new} {cpu} {now} {answer} i v y z is e before ready put s =
    let object = (Looks-put t u 10 (Int y) put).regs 11 refl in
    let number = put_value t u 10 (Int y) put in
    read_first before (int_quiet t u 10 y (omega arith) before ready put) (rw (object, is, number, e) at s)
