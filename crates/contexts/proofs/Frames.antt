-- Registers that calls leave as they are.
use Rattle.std.proofs.Common.{◌≡◌, ℕ, ◌<◌, Bool, true, false, ◌||◌, eqb, [], ◌∷◌, IsTrue, refl, arith}
use Rattle.std.proofs.lemmas.Grind.{common_steps}
use Rattle.long_names.specs.State.{RECEIVER, SELECTOR, NEW_METHOD}
use Rattle.object_memory.specs.Shape.{is_among}
use Rattle.object_memory.proofs.LooksLaws.{not_among}
use Rattle.long_names.specs.declared.limits.TheConstants.{MACHINE_REGISTERS}
use Rattle.blue_model.specs.Cycle.{is_message}

-- a register below another is not it
pub below : (k r : ℕ) → r < k → is_among (k ∷ []) r ≡ false
below k r low = not_among k r (λ e. absurd (omega arith))

-- the registers of a message are behind those of a context, and no scratch registers
pub message_low : (r : ℕ) → IsTrue (is_message r) → (RECEIVER < r) × (r < MACHINE_REGISTERS)
message_low r is = go (eqb r SELECTOR) refl is
  where
    second : (b : Bool) → eqb r NEW_METHOD ≡ b → IsTrue b → (RECEIVER < r) × (r < MACHINE_REGISTERS)
    second true e is = let same : r ≡ NEW_METHOD = grind (arith, common_steps, e) in (omega arith, omega arith)
    second false e is = absurd (let no : ◌≡◌ {A = Bool} false true = is in cc)

    go : (b : Bool) → eqb r SELECTOR ≡ b → IsTrue (b || eqb r NEW_METHOD) → (RECEIVER < r) × (r < MACHINE_REGISTERS)
    go true e is = let same : r ≡ SELECTOR = grind (arith, common_steps, e) in (omega arith, omega arith)
    go false e is = second (eqb r NEW_METHOD) refl is
