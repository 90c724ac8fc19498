-- The lines of a count, of a list whose counts never fall.
use Rattle.std.specs.Prelude.{◌==◌}
use Rattle.std.proofs.Common.{◌≡◌, ℕ, ◌<◌, Bool, true, false, List, [], ◌∷◌, refl, sym, ap, subst, cond, arith}
use Rattle.std.proofs.lemmas.Grind.{common_steps}
use Rattle.blue_model.specs.declared.event.Line.{Line}
use Rattle.blue_model.specs.Machine.{Rule, ◌>>◌, done, pick}
use Rattle.blue_model.specs.Devices.{take_line, take_lines, take_all, lines_at, AreRising}

differs : (x y : ℕ) → y < x → (x == y) ≡ false
differs x y low = grind (arith, common_steps)

-- a list of later lines has none
none_at : (count from : ℕ) (lines : List Line) → count < from → AreRising from lines → lines_at count lines ≡ []
none_at count from [] low rising = refl
none_at count from (line ∷ lines) low rising = let above : count < line.count = (let first = rising.0 in omega arith) in go (line.count == count) (differs line.count count above) (none_at count line.count lines above rising.1)
  where
    go : (b : Bool) → b ≡ false → lines_at count lines ≡ [] → cond b (line ∷ lines_at count lines) (lines_at count lines) ≡ []
    go true e f = absurd (cc)
    go false e f = f

pub takes_its_lines : (count : ℕ) (lines : List Line) → AreRising count lines → take_lines count lines ≡ take_all (lines_at count lines)
unfolding pick
takes_its_lines count [] rising = refl
takes_its_lines count (line ∷ lines) rising = go (line.count == count) refl (λ rest. takes_its_lines count lines rest)
  where
    go : (b : Bool) → (line.count == count) ≡ b → (AreRising count lines → take_lines count lines ≡ take_all (lines_at count lines)) → pick b (take_line line >> take_lines count lines) (done tt) ≡ take_all (cond b (line ∷ lines_at count lines) (lines_at count lines))
    go true e next = let same : line.count ≡ count = grind (arith, common_steps) in ap (λ (p : Rule (Unit {0})). take_line line >> p) (next (subst (λ n. AreRising n lines) same rising.1))
    go false e next = let above : count < line.count = (let first = rising.0 in grind (arith, common_steps)) in sym (ap take_all (none_at count line.count lines above rising.1))
