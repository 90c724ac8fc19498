-- A primitive that never answers that the machine is to be kept does so only where the vault is open.
use Rattle.std.proofs.Common.{◌≡◌, Bool, true, false, Result, Ok, Err, IsTrue, sym, ◌∙◌}
use Rattle.blue_model.specs.declared.answer.Answer.{Answer}
use Rattle.contexts.specs.declared.stop.Stop.{Stop}
use Rattle.contexts.specs.Keeping.{NeverKeeps, KeepsBy}

pub shut : (b : Bool) → IsTrue false → IsTrue b
shut b e = let no : ◌≡◌ {A = Bool} false true = e in absurd (cc)

pub keeps_never : (b : Bool) (r : Result Answer Stop) → NeverKeeps r → KeepsBy b r
keeps_never b (Ok a) h = λ k. shut b (sym h ∙ k)
keeps_never b (Err e) h = tt
