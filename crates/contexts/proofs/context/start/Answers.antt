use Rattle.std.proofs.Common.{ℕ, pos, ◌<◌, ◌≡◌, Bool, true, false, IsTrue, ◌∙◌, arith}
use Rattle.std.proofs.lemmas.Grind.{common_steps}
use Rattle.long_names.specs.declared.value.Value.TheVariants.{Int}
use Rattle.long_names.specs.State.{RECEIVER}
use Rattle.long_names.specs.declared.limits.TheConstants.{MACHINE_REGISTERS}
use Rattle.blue_model.specs.Contexts.{start}
use Rattle.contexts.proofs.Frames.{below, message_low}
use Rattle.contexts.proofs.ServesLaws.{serves_then, serves_exit, exits}
use Rattle.contexts.proofs.Steps.{clear_serves, set_numbers_at, read_last}
use Rattle.contexts.proofs.RegisterLaws.{clear_quiet}
use Rattle.contexts.proofs.context.start.Goals as goal

-- numbers at rest have no vault
shut : (b : Bool) → IsTrue false → IsTrue b
shut b e = let no : ◌≡◌ {A = Bool} false true = e in absurd (cc)

pub returns-in_err-active_process-clause-serves : goal.returns-in_err-active_process-clause-serves
unfolding start
returns-in_err-active_process-clause-serves g c =
    serves_then _ (clear_serves (λ r. true) c.clear.ensures.fit.ready c.clear.ensures.rest (λ r low. c.clear.ensures.regs r ∙ grind (arith, common_steps)))
    (serves_then _ (set_numbers_at _ c.at_rest.ensures (λ may. shut _ may) c.clear.ensures.fit.ready)
    (serves_exit _ _ (c.in_err-active_process.ensures.serves _) c.from_residual.ensures.1))

pub returns-in_err-field-clause-serves : goal.returns-in_err-field-clause-serves
unfolding start
returns-in_err-field-clause-serves g c =
    serves_then _ (clear_serves (λ r. true) c.clear.ensures.fit.ready c.clear.ensures.rest (λ r low. c.clear.ensures.regs r ∙ grind (arith, common_steps)))
    (serves_then _ (set_numbers_at _ c.at_rest.ensures (λ may. shut _ may) c.clear.ensures.fit.ready)
    (serves_then _ (c.in_ok-active_process.ensures.serves _)
    (serves_exit _ _ (c.in_err-field.ensures.serves _) c.from_residual-in_err-field.ensures.1)))

pub returns-in_err-load-clause-serves : goal.returns-in_err-load-clause-serves
unfolding start
returns-in_err-load-clause-serves g c =
    serves_then _ (clear_serves (λ r. true) c.clear.ensures.fit.ready c.clear.ensures.rest (λ r low. c.clear.ensures.regs r ∙ grind (arith, common_steps)))
    (serves_then _ (set_numbers_at _ c.at_rest.ensures (λ may. shut _ may) c.clear.ensures.fit.ready)
    (serves_then _ (c.in_ok-active_process.ensures.serves _)
    (serves_then _ (c.in_ok-field.ensures.serves _)
    (exits _ c.from_residual-in_err-load.ensures.1 c.in_err-load.ensures.serves))))

pub returns-clause-serves : goal.returns-clause-serves
unfolding start
returns-clause-serves g c =
    read_last (serves_then _ (clear_serves (λ r. true) c.clear.ensures.fit.ready c.clear.ensures.rest (λ r low. c.clear.ensures.regs r ∙ grind (arith, common_steps)))
    (serves_then _ (set_numbers_at _ c.at_rest.ensures (λ may. shut _ may) c.clear.ensures.fit.ready)
    (serves_then _ (c.in_ok-active_process.ensures.serves _)
    (serves_then _ (c.in_ok-field.ensures.serves _) c.in_ok-load.ensures.serves))))
    (clear_quiet _ _ 10 24 (omega arith) c.clear-2.ensures.fit.ready c.clear-2.ensures.rest c.clear-2.ensures.regs)

pub returns-clause-rest : goal.returns-clause-rest
returns-clause-rest g c = record {
  message = λ r is. at r (message_low r is).0 (message_low r is).1;
  scratch = λ r above high. c.clear-2.ensures.regs r ∙ grind (arith, common_steps);
}
  where
    at : (r : ℕ) → RECEIVER < r → r < MACHINE_REGISTERS → (g.M.ObjectMemory.told c.clear-2.new.m).regs r ≡ Int (pos 0)
    at r above low =
        let apart = below 10 r low in
        c.clear-2.ensures.regs r ∙ grind (arith, common_steps) ∙ c.in_ok-load.ensures.others r above (omega arith) ∙ c.in_ok-field.ensures.looks.regs r apart ∙ c.in_ok-active_process.ensures.looks.regs r apart ∙ c.clear.ensures.regs r ∙ grind (arith, common_steps)
