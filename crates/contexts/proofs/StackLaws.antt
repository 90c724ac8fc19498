-- A number on the stack that is at hand.
use Rattle.std.proofs.Common.{◌≡◌, ◌≤◌, ℕ, ℤ, pos, ◌-ℤ◌, Option, Some, None, Ok, IsTrue, IfSome, refl, ◌∙◌, arith}
use Rattle.long_names.specs.State.{ACTIVE_CONTEXT}
use Rattle.long_names.specs.declared.value.Value.TheVariants.{Int}
use Rattle.object_memory.specs.Told.{Told, IsReady}
use Rattle.object_memory.specs.Shape.{IsPartAt, field_count, number_in}
use Rattle.blue_model.specs.declared.cause.Cause.TheVariants.{Shape}
use Rattle.blue_model.specs.declared.cpu.Cpu.{Cpu}
use Rattle.blue_model.specs.Parts.{size, field}
use Rattle.blue_model.specs.Contexts.{stack, stack_place}
use Rattle.contexts.specs.Serves.{Serves}
use Rattle.contexts.proofs.ServesLaws.{serves_then}
use Rattle.contexts.proofs.Steps.{register_then, numbers_then, given_then}
use Rattle.contexts.proofs.ReadLaws.{part_serves}
use Rattle.contexts.proofs.PartLaws.{size_is, number_is, number_held}

pub stack_at_hand : {t : Told} {cpu : Cpu} (depth n place : ℕ) (z : ℤ) → IsReady t → IsPartAt t ACTIVE_CONTEXT field_count (Some n) → (IsTrue t.tells → stack_place (cpu.sp -ℤ pos depth) n ≡ Some place) → IsPartAt t ACTIVE_CONTEXT (number_in place) (Some z) → Serves t cpu t cpu (stack depth) (Ok (Int z))
unfolding stack
stack_at_hand {t} {cpu} depth n place z ready fields placed number =
    let low : 0 ≤ n = omega arith in
    numbers_then _ (register_then _ _ refl (serves_then _ (part_serves Shape (size 0) ACTIVE_CONTEXT n ready (size_is 0 n fields refl low))
    (given_then _ _ _ place placed
    (part_serves Shape (field 0 place) ACTIVE_CONTEXT (Int z) ready (λ told. number_held 0 place z _ (number_is 0 place n fields refl low told ∙ number.there told))))))

-- where it was asked for
pub stack_asked : (t : Told) (cpu : Cpu) (depth n place : ℕ) (x : Option ℤ) → IsPartAt t ACTIVE_CONTEXT field_count (Some n) → (IsTrue t.tells → stack_place (cpu.sp -ℤ pos depth) n ≡ Some place) → IfSome x (λ z. IsPartAt t ACTIVE_CONTEXT (number_in place) (Some z)) → IfSome x (λ z. IsReady t → Serves t cpu t cpu (stack depth) (Ok (Int z)))
stack_asked t cpu depth n place None fields placed number = tt
stack_asked t cpu depth n place (Some z) fields placed number = λ ready. stack_at_hand depth n place z ready fields placed number
