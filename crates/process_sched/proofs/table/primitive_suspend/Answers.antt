use Rattle.std.proofs.Common.{refl, sym, ◌∙◌}
use Rattle.blue_model.specs.Processes.{primitive_suspend}
use Rattle.contexts.proofs.ServesLaws.{serves_then, serves_exit}
use Rattle.contexts.proofs.Steps.{done_serves}
use Rattle.contexts.proofs.TrialLaws.{true_then, false_fails}
use Rattle.process_sched.proofs.ValueLaws.{same_is}
use Rattle.process_sched.proofs.table.primitive_suspend.Goals as goal

pub returns-in_err-stack-clause-serves : goal.returns-in_err-stack-clause-serves
unfolding primitive_suspend
returns-in_err-stack-clause-serves g c = serves_exit _ _ c.in_err-stack.ensures.serves c.from_residual.ensures.1

pub returns-in_err-current_process-clause-serves : goal.returns-in_err-current_process-clause-serves
unfolding primitive_suspend
returns-in_err-current_process-clause-serves g c =
    serves_then _ c.in_ok-stack.ensures.serves
    (serves_exit _ _ c.in_err-current_process.ensures.serves c.from_residual-in_err-current_process.ensures.1)

pub returns-then-not-same-clause-serves : goal.returns-then-not-same-clause-serves
unfolding primitive_suspend
returns-then-not-same-clause-serves g c =
    let same = same_is _ _ _ _ (c.in_ok-current_process.ensures.looks.regs 17 refl) c.same.ensures in
    serves_then _ c.in_ok-stack.ensures.serves
    (serves_then _ c.in_ok-current_process.ensures.serves
    (false_fails _ _ c.in_ok-current_process.ensures.fit.ready (λ told. sym same ∙ c.if-not-same.true)))

pub returns-in_err-known-clause-serves : goal.returns-in_err-known-clause-serves
unfolding primitive_suspend
returns-in_err-known-clause-serves g c =
    let same = same_is _ _ _ _ (c.in_ok-current_process.ensures.looks.regs 17 refl) c.same.ensures in
    serves_then _ c.in_ok-stack.ensures.serves
    (serves_then _ c.in_ok-current_process.ensures.serves
    (true_then _ _ (λ told. sym same ∙ c.if-not-same.false)
    (serves_exit _ _ (c.in_err-known.ensures.serves _) c.from_residual-in_err-known.ensures.1)))

pub returns-in_err-put_stack-clause-serves : goal.returns-in_err-put_stack-clause-serves
unfolding primitive_suspend
returns-in_err-put_stack-clause-serves g c =
    let same = same_is _ _ _ _ (c.in_ok-current_process.ensures.looks.regs 17 refl) c.same.ensures in
    serves_then _ c.in_ok-stack.ensures.serves
    (serves_then _ c.in_ok-current_process.ensures.serves
    (true_then _ _ (λ told. sym same ∙ c.if-not-same.false)
    (serves_then _ (c.in_ok-known.ensures.serves _)
    (serves_exit _ _ c.in_err-put_stack.ensures.serves c.from_residual-in_err-put_stack.ensures.1))))

pub returns-in_err-suspend_active-clause-serves : goal.returns-in_err-suspend_active-clause-serves
unfolding primitive_suspend
returns-in_err-suspend_active-clause-serves g c =
    let same = same_is _ _ _ _ (c.in_ok-current_process.ensures.looks.regs 17 refl) c.same.ensures in
    serves_then _ c.in_ok-stack.ensures.serves
    (serves_then _ c.in_ok-current_process.ensures.serves
    (true_then _ _ (λ told. sym same ∙ c.if-not-same.false)
    (serves_then _ (c.in_ok-known.ensures.serves _)
    (serves_then _ c.in_ok-put_stack.ensures.serves
    (serves_exit _ _ c.in_err-suspend_active.ensures.serves c.from_residual-in_err-suspend_active.ensures.1)))))

pub returns-clause-serves : goal.returns-clause-serves
unfolding primitive_suspend
returns-clause-serves g c =
    let same = same_is _ _ _ _ (c.in_ok-current_process.ensures.looks.regs 17 refl) c.same.ensures in
    serves_then _ c.in_ok-stack.ensures.serves
    (serves_then _ c.in_ok-current_process.ensures.serves
    (true_then _ _ (λ told. sym same ∙ c.if-not-same.false)
    (serves_then _ (c.in_ok-known.ensures.serves _)
    (serves_then _ c.in_ok-put_stack.ensures.serves
    (serves_then _ c.in_ok-suspend_active.ensures.serves (done_serves c.in_ok-suspend_active.ensures.fit.ready))))))
