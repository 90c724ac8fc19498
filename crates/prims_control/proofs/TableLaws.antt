-- The table of the control primitives, row by row.
use Rattle.std.proofs.Common.{◌≡◌, ℕ, Result, Ok, sym, subst}
use borrow.Author.Tests.{eq-eqb, ne_eqb}
use Rattle.object_memory.specs.Told.{Told, IsReady}
use Rattle.blue_model.specs.declared.answer.Answer.{Answer}
use Rattle.blue_model.specs.declared.answer.Answer.TheVariants.{Failed}
use Rattle.blue_model.specs.declared.cpu.Cpu.{Cpu}
use Rattle.blue_model.specs.Machine.{Rule}
use Rattle.blue_model.specs.Trials.{Primitive, with_arguments}
use Rattle.blue_model.specs.Control.{control_primitives, control_primitive}
use Rattle.contexts.specs.declared.stop.Stop.{Stop}
use Rattle.contexts.specs.Serves.{Serves}
use Rattle.contexts.proofs.Steps.{numbers_then, pick_false}
use Rattle.contexts.proofs.TrialLaws.{true_then, false_fails, failed_serves}

-- an index that has a rule for a message of any number of arguments
pub any_serves : {old new : Told} {cpu now : Cpu} {answer : Result Answer Stop} (rule : Rule Answer) (n index : ℕ) → n ≡ index → control_primitive index ≡ rule → Serves old cpu new now rule answer → Serves old cpu new now (control_primitive n) answer
any_serves {old} {new} {cpu} {now} {answer} rule n index e is s = subst (λ k. Serves old cpu new now (control_primitive k) answer) (sym e) (subst (λ r. Serves old cpu new now r answer) (sym is) s)

-- a message of as many arguments as the row has
pub row_serves : {old new : Told} {cpu now : Cpu} {answer : Result Answer Stop} (p : Primitive) (n index : ℕ) → n ≡ index → control_primitive index ≡ with_arguments p → cpu.args ≡ p.arguments → Serves old cpu new now p.rule answer → Serves old cpu new now (control_primitive n) answer
unfolding with_arguments
row_serves p n index e row args s = any_serves (with_arguments p) n index e row (numbers_then _ (true_then _ _ (λ told. eq-eqb _ _ args) s))

-- a message of another number of arguments
pub row_fails : {t : Told} {cpu : Cpu} (p : Primitive) (n index : ℕ) → n ≡ index → control_primitive index ≡ with_arguments p → (cpu.args ≡ p.arguments → ⊥) → IsReady t → Serves t cpu t cpu (control_primitive n) (Ok Failed)
unfolding with_arguments
row_fails p n index e row others ready = any_serves (with_arguments p) n index e row (numbers_then _ (false_fails _ _ ready (λ told. ne_eqb _ _ others)))

-- an index that no row has
pub none_serves : {t : Told} {cpu : Cpu} (n : ℕ) → IsReady t → (n ≡ 80 → ⊥) → (n ≡ 81 → ⊥) → (n ≡ 82 → ⊥) → (n ≡ 83 → ⊥) → (n ≡ 84 → ⊥) → (n ≡ 89 → ⊥) → (n ≡ 113 → ⊥) → Serves t cpu t cpu (control_primitive n) (Ok Failed)
unfolding control_primitive control_primitives
none_serves n ready a b c d e f g =
    pick_false _ _ _ (ne_eqb n 81 b) (pick_false _ _ _ (ne_eqb n 83 d)
    (pick_false _ _ _ (ne_eqb 80 n (λ x. a (sym x))) (pick_false _ _ _ (ne_eqb 82 n (λ x. c (sym x))) (pick_false _ _ _ (ne_eqb 84 n (λ x. e (sym x)))
    (pick_false _ _ _ (ne_eqb 89 n (λ x. f (sym x))) (pick_false _ _ _ (ne_eqb 113 n (λ x. g (sym x))) (failed_serves ready)))))))
