use Rattle.std.proofs.Common.{refl, sym, ◌∙◌}
use Rattle.blue_model.specs.Control.{perform_with}
use Rattle.contexts.proofs.ServesLaws.{serves_then, serves_exit}
use Rattle.contexts.proofs.TrialLaws.{true_then, false_fails, found_then, none_found, finding_exit}
use Rattle.prims_control.proofs.StepLaws.{named}
use Rattle.send_lookup.proofs.MessageLaws.{unequal}
use Rattle.prims_control.proofs.performs.perform_with.Goals as goal

pub returns-in_err-stack-clause-serves : goal.returns-in_err-stack-clause-serves
unfolding perform_with
returns-in_err-stack-clause-serves g c =
    let count = c.from-count.ensures in
    serves_exit _ _ (rw count at c.in_err-stack.ensures.serves) c.from_residual.ensures.1

pub returns-in_err-stack-2-clause-serves : goal.returns-in_err-stack-2-clause-serves
unfolding perform_with
returns-in_err-stack-2-clause-serves g c =
    let count = c.from-count.ensures in
    serves_then _ (rw count at c.in_ok-stack.ensures.serves)
    (serves_exit _ _ (rw count at c.in_err-stack-2.ensures.serves) c.from_residual-in_err-stack-2.ensures.1)

pub returns-then-not-is_name-clause-serves : goal.returns-then-not-is_name-clause-serves
unfolding perform_with
returns-then-not-is_name-clause-serves g c =
    let count = c.from-count.ensures in
    serves_then _ (rw count at c.in_ok-stack.ensures.serves)
    (serves_then _ (rw count at c.in_ok-stack-2.ensures.serves)
    (false_fails _ _ c.in_ok-stack-2.ensures.fit.ready (λ told. sym (named _ _ _ refl c.is_name.ensures) ∙ c.if-not-is_name.true)))

pub returns-in_err-method_for-clause-serves : goal.returns-in_err-method_for-clause-serves
unfolding perform_with
returns-in_err-method_for-clause-serves g c =
    let count = c.from-count.ensures in
    let receiver = c.in_ok-stack-2.ensures.looks.regs 10 refl in
    serves_then _ (rw count at c.in_ok-stack.ensures.serves)
    (serves_then _ (rw count at c.in_ok-stack-2.ensures.serves)
    (true_then _ _ (λ told. sym (named _ _ _ refl c.is_name.ensures) ∙ c.if-not-is_name.false)
    (finding_exit _ _ (rw (receiver, count) at (c.in_err-method_for.ensures.serves c.args.cpu.now)) c.from_residual-in_err-method_for.ensures.1)))

pub returns-then-not-branch-clause-serves : goal.returns-then-not-branch-clause-serves
unfolding perform_with
returns-then-not-branch-clause-serves g c =
    let count = c.from-count.ensures in
    let receiver = c.in_ok-stack-2.ensures.looks.regs 10 refl in
    serves_then _ (rw count at c.in_ok-stack.ensures.serves)
    (serves_then _ (rw count at c.in_ok-stack-2.ensures.serves)
    (true_then _ _ (λ told. sym (named _ _ _ refl c.is_name.ensures) ∙ c.if-not-is_name.false)
    (none_found _ refl (rw (receiver, count, c.if-not-branch.true) at (c.in_ok-method_for.ensures.serves c.args.cpu.now)))))

pub returns-in_err-move_arguments-clause-serves : goal.returns-in_err-move_arguments-clause-serves
unfolding perform_with
returns-in_err-move_arguments-clause-serves g c =
    let count = c.from-count.ensures in
    let receiver = c.in_ok-stack-2.ensures.looks.regs 10 refl in
    serves_then _ (rw count at c.in_ok-stack.ensures.serves)
    (serves_then _ (rw count at c.in_ok-stack-2.ensures.serves)
    (true_then _ _ (λ told. sym (named _ _ _ refl c.is_name.ensures) ∙ c.if-not-is_name.false)
    (found_then _ refl (rw (receiver, count, c.if-not-branch.false) at (c.in_ok-method_for.ensures.serves c.args.cpu.now))
    (serves_exit _ _ (rw count at c.in_err-move_arguments.ensures.serves) c.from_residual-in_err-move_arguments.ensures.1))))

pub returns-in_err-pop-clause-serves : goal.returns-in_err-pop-clause-serves
unfolding perform_with
returns-in_err-pop-clause-serves g c =
    let count = c.from-count.ensures in
    let receiver = c.in_ok-stack-2.ensures.looks.regs 10 refl in
    serves_then _ (rw count at c.in_ok-stack.ensures.serves)
    (serves_then _ (rw count at c.in_ok-stack-2.ensures.serves)
    (true_then _ _ (λ told. sym (named _ _ _ refl c.is_name.ensures) ∙ c.if-not-is_name.false)
    (found_then _ refl (rw (receiver, count, c.if-not-branch.false) at (c.in_ok-method_for.ensures.serves c.args.cpu.now))
    (serves_then _ (rw count at c.in_ok-move_arguments.ensures.serves)
    (serves_exit _ _ (c.in_err-pop.ensures.serves _ c.in_ok-move_arguments.ensures.fit.ready) c.from_residual-in_err-pop.ensures.1)))))

pub returns-clause-serves : goal.returns-clause-serves
unfolding perform_with
returns-clause-serves g c =
    let count = c.from-count.ensures in
    let receiver = c.in_ok-stack-2.ensures.looks.regs 10 refl in
    let method = c.in_ok-move_arguments.ensures.regs 22 (unequal 22 19 refl) in
    serves_then _ (rw count at c.in_ok-stack.ensures.serves)
    (serves_then _ (rw count at c.in_ok-stack-2.ensures.serves)
    (true_then _ _ (λ told. sym (named _ _ _ refl c.is_name.ensures) ∙ c.if-not-is_name.false)
    (found_then _ refl (rw (receiver, count, c.if-not-branch.false) at (c.in_ok-method_for.ensures.serves c.args.cpu.now))
    (serves_then _ (rw count at c.in_ok-move_arguments.ensures.serves)
    (serves_then _ (c.in_ok-pop.ensures.serves _ c.in_ok-move_arguments.ensures.fit.ready)
    (rw method at c.execute_found.ensures.serves))))))
