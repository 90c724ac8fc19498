-- What serves the rule of a row serves the table's.
use Rattle.std.proofs.Common.{◌≡◌, ℕ, true, false, eqb, Result, Ok, ap, subst, arith}
use Rattle.std.proofs.lemmas.Grind.{common_steps}
use Rattle.object_memory.specs.Told.{Told, IsReady}
use Rattle.blue_model.specs.declared.answer.Answer.{Answer}
use Rattle.blue_model.specs.declared.answer.Answer.TheVariants.{Failed}
use Rattle.blue_model.specs.declared.cpu.Cpu.{Cpu}
use Rattle.blue_model.specs.Machine.{Rule}
use Rattle.blue_model.specs.Trials.{with_arguments}
use Rattle.blue_model.specs.Arithmetic.{of_one}
use Rattle.contexts.specs.declared.stop.Stop.{Stop}
use Rattle.contexts.specs.Serves.{Serves}
use Rattle.contexts.proofs.Steps.{numbers_then}
use Rattle.contexts.proofs.TrialLaws.{true_then, false_fails}

-- what serves the rule of a row serves the table's
pub tabled : {old new : Told} {cpu now : Cpu} {answer : Result Answer Stop} {row rule : Rule Answer} → row ≡ rule → Serves old cpu new now row answer → Serves old cpu new now rule answer
tabled {old} {new} {cpu} {now} {answer} {row} {rule} e s = subst (λ (r : Rule Answer). Serves old cpu new now r answer) e s

-- ---- the number of arguments

one : (n : ℕ) → n ≡ 1 → eqb n 1 ≡ true
one n e = ap (λ k. eqb k 1) e

not_one : (n : ℕ) → (n ≡ 1 → ⊥) → eqb n 1 ≡ false
not_one n e = grind (arith, common_steps)

pub with_one : {t new : Told} {cpu now : Cpu} {answer : Result Answer Stop} (index : ℕ) (rule : Rule Answer) → cpu.args ≡ 1 → Serves t cpu new now rule answer → Serves t cpu new now (with_arguments (of_one index rule)) answer
unfolding with_arguments
with_one {t} {new} {cpu} {now} {answer} index rule e s = numbers_then _ (true_then _ _ (λ told. one cpu.args e) s)

pub with_others : {t : Told} {cpu : Cpu} (index : ℕ) (rule : Rule Answer) → (cpu.args ≡ 1 → ⊥) → IsReady t → Serves t cpu t cpu (with_arguments (of_one index rule)) (Ok Failed)
unfolding with_arguments
with_others {t} {cpu} index rule e ready = numbers_then _ (false_fails _ _ ready (λ told. not_one cpu.args e))
