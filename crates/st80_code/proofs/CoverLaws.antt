-- One line more covers its bytes too.
use Rattle.std.proofs.Common.{◌≡◌, ℕ, ◌+◌, ◌<◌, List, [], ◌∷◌, ◌++◌, arith}
use Rattle.st80_code.specs.declared.instruction.Line.{Line}
use Rattle.st80_code.specs.Decoding.{Covers}

pub cover_more : (start : ℕ) (ls : List Line) (at : ℕ) (l : Line) → Covers start ls at → l.at ≡ at → 0 < l.len → Covers start (ls ++ l ∷ []) (at + l.len)
cover_more start [] at l same begins some = (record { begins = omega (arith, same, begins); some = some }, omega (arith, same))
cover_more start (x ∷ ls) at l covers begins some = (covers.0, cover_more (start + x.len) ls at l covers.1 begins some)
