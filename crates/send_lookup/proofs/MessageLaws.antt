-- Steps of a message that is made.
use Rattle.std.proofs.Common.{◌≡◌, ℕ, false, eqb, arith}
use Rattle.std.proofs.lemmas.Grind.{common_steps}

-- two registers that a test tells apart
pub unequal : (a b : ℕ) → eqb a b ≡ false → a ≡ b → ⊥
unequal a b is e = grind (arith, common_steps)
