-- What the callers do that are worked out.
use Rattle.std.specs.Prelude.{◌≡◌, ℕ, ℤ, pos, ◌+ℤ◌, Some}
use Rattle.long_names.specs.declared.value.Value.TheVariants.{Int}
use Rattle.long_names.specs.Objects.{field_of, with_field}
use Rattle.long_names.specs.State.{part_at}
use Rattle.long_names.specs.Access.{with_body}
use Rattle.long_names.specs.Thin.{IsThinner}
use Rattle.object_memory.specs.Told.{Told}

-- field 1 of the object in a register was a number, and is the next number
pub record IsBumped (old new : Told) (of : ℕ) : Type 0 where
  pub number : ℤ
  pub was : part_at old.heap (old.regs of) (λ b. field_of b 1) ≡ Some (Int number)
  pub heap : IsThinner (with_body old.heap (old.regs of) (λ b. with_field b 1 (Int (number +ℤ pos 1)))) new.heap
