-- What is told where nothing is named from outside.
use Rattle.std.specs.Prelude.{◌≡◌, ℕ, ℤ, ◌<◌}
use Rattle.long_names.specs.declared.value.Value.{Value}
use Rattle.long_names.specs.declared.value.Value.TheVariants.{Int}
use Rattle.long_names.specs.declared.limits.TheConstants.{REGISTERS}

-- each of these registers has a number
abbrev pub AreNumbersBelow : ℕ → (ℕ → Value) → Type 0
AreNumbersBelow n regs = (r : ℕ) → r < n → (z : ℤ) × (regs r ≡ Int z)

abbrev pub AreNumbers : (ℕ → Value) → Type 0
AreNumbers regs = AreNumbersBelow REGISTERS regs
