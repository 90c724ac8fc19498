use Rattle.std.proofs.Common.{refl, sym, ◌∙◌, arith}
use Rattle.blue_model.specs.Control.{perform_with_arguments}
use Rattle.contexts.proofs.ServesLaws.{serves_then, serves_exit}
use Rattle.contexts.proofs.TrialLaws.{true_then, false_fails, found_then, none_found, finding_exit}
use Rattle.prims_control.proofs.StepLaws.{named}
use Rattle.send_lookup.proofs.MessageLaws.{unequal}
use Rattle.prims_control.proofs.performs.perform_with_arguments.Goals as goal

pub returns-in_err-stack-clause-serves : goal.returns-in_err-stack-clause-serves
unfolding perform_with_arguments
returns-in_err-stack-clause-serves g c = serves_exit _ _ c.in_err-stack.ensures.serves c.from_residual.ensures.1

pub returns-in_err-stack-2-clause-serves : goal.returns-in_err-stack-2-clause-serves
unfolding perform_with_arguments
returns-in_err-stack-2-clause-serves g c = serves_then _ c.in_ok-stack.ensures.serves
    (serves_exit _ _ c.in_err-stack-2.ensures.serves c.from_residual-in_err-stack-2.ensures.1)

pub returns-in_err-stack-3-clause-serves : goal.returns-in_err-stack-3-clause-serves
unfolding perform_with_arguments
returns-in_err-stack-3-clause-serves g c = serves_then _ c.in_ok-stack.ensures.serves
    (serves_then _ c.in_ok-stack-2.ensures.serves
    (serves_exit _ _ c.in_err-stack-3.ensures.serves c.from_residual-in_err-stack-3.ensures.1))

pub returns-then-not-is_name-clause-serves : goal.returns-then-not-is_name-clause-serves
unfolding perform_with_arguments
returns-then-not-is_name-clause-serves g c =
    let selector = c.in_ok-stack-3.ensures.looks.regs 11 refl in
    serves_then _ c.in_ok-stack.ensures.serves
    (serves_then _ c.in_ok-stack-2.ensures.serves
    (serves_then _ c.in_ok-stack-3.ensures.serves
    (false_fails _ _ c.in_ok-stack-3.ensures.fit.ready (λ told. sym (named _ _ _ selector c.is_name.ensures) ∙ c.if-not-is_name.true))))

pub returns-in_err-n-clause-serves : goal.returns-in_err-n-clause-serves
unfolding perform_with_arguments
returns-in_err-n-clause-serves g c =
    let selector = c.in_ok-stack-3.ensures.looks.regs 11 refl in
    serves_then _ c.in_ok-stack.ensures.serves
    (serves_then _ c.in_ok-stack-2.ensures.serves
    (serves_then _ c.in_ok-stack-3.ensures.serves
    (true_then _ _ (λ told. sym (named _ _ _ selector c.is_name.ensures) ∙ c.if-not-is_name.false)
    (finding_exit _ _ (c.in_err-n.ensures.serves c.args.cpu.now) c.from_residual-in_err-n.ensures.1))))

pub returns-in_default-clause-serves : goal.returns-in_default-clause-serves
unfolding perform_with_arguments
returns-in_default-clause-serves g c =
    let selector = c.in_ok-stack-3.ensures.looks.regs 11 refl in
    serves_then _ c.in_ok-stack.ensures.serves
    (serves_then _ c.in_ok-stack-2.ensures.serves
    (serves_then _ c.in_ok-stack-3.ensures.serves
    (true_then _ _ (λ told. sym (named _ _ _ selector c.is_name.ensures) ∙ c.if-not-is_name.false)
    (none_found _ c.in_default.is (c.in_ok-n.ensures.serves c.args.cpu.now)))))

pub returns-in_err-method_for-clause-serves : goal.returns-in_err-method_for-clause-serves
unfolding perform_with_arguments
returns-in_err-method_for-clause-serves g c =
    let selector = c.in_ok-stack-3.ensures.looks.regs 11 refl in
    let again = c.in_ok-n.ensures.looks.regs 11 refl ∙ selector in
    let receiver = c.in_ok-n.ensures.looks.regs 10 refl ∙ c.in_ok-stack-3.ensures.looks.regs 10 refl ∙ c.in_ok-stack-2.ensures.looks.regs 10 refl in
    serves_then _ c.in_ok-stack.ensures.serves
    (serves_then _ c.in_ok-stack-2.ensures.serves
    (serves_then _ c.in_ok-stack-3.ensures.serves
    (true_then _ _ (λ told. sym (named _ _ _ selector c.is_name.ensures) ∙ c.if-not-is_name.false)
    (found_then _ c.in-Some.is (c.in_ok-n.ensures.serves c.args.cpu.now)
    (finding_exit _ _ (rw (receiver, again) at (c.in_err-method_for.ensures.serves c.args.cpu.now)) c.from_residual-in_err-method_for.ensures.1)))))

pub returns-then-not-branch-clause-serves : goal.returns-then-not-branch-clause-serves
unfolding perform_with_arguments
returns-then-not-branch-clause-serves g c =
    let selector = c.in_ok-stack-3.ensures.looks.regs 11 refl in
    let again = c.in_ok-n.ensures.looks.regs 11 refl ∙ selector in
    let receiver = c.in_ok-n.ensures.looks.regs 10 refl ∙ c.in_ok-stack-3.ensures.looks.regs 10 refl ∙ c.in_ok-stack-2.ensures.looks.regs 10 refl in
    serves_then _ c.in_ok-stack.ensures.serves
    (serves_then _ c.in_ok-stack-2.ensures.serves
    (serves_then _ c.in_ok-stack-3.ensures.serves
    (true_then _ _ (λ told. sym (named _ _ _ selector c.is_name.ensures) ∙ c.if-not-is_name.false)
    (found_then _ c.in-Some.is (c.in_ok-n.ensures.serves c.args.cpu.now)
    (none_found _ refl (rw (receiver, again, c.if-not-branch.true) at (c.in_ok-method_for.ensures.serves c.args.cpu.now)))))))

pub returns-in_err-has_room-clause-serves : goal.returns-in_err-has_room-clause-serves
unfolding perform_with_arguments
returns-in_err-has_room-clause-serves g c =
    let selector = c.in_ok-stack-3.ensures.looks.regs 11 refl in
    let again = c.in_ok-n.ensures.looks.regs 11 refl ∙ selector in
    let receiver = c.in_ok-n.ensures.looks.regs 10 refl ∙ c.in_ok-stack-3.ensures.looks.regs 10 refl ∙ c.in_ok-stack-2.ensures.looks.regs 10 refl in
    serves_then _ c.in_ok-stack.ensures.serves
    (serves_then _ c.in_ok-stack-2.ensures.serves
    (serves_then _ c.in_ok-stack-3.ensures.serves
    (true_then _ _ (λ told. sym (named _ _ _ selector c.is_name.ensures) ∙ c.if-not-is_name.false)
    (found_then _ c.in-Some.is (c.in_ok-n.ensures.serves c.args.cpu.now)
    (found_then _ refl (rw (receiver, again, c.if-not-branch.false) at (c.in_ok-method_for.ensures.serves c.args.cpu.now))
    (serves_exit _ _ c.in_err-has_room.ensures.serves c.from_residual-in_err-has_room.ensures.1))))))

pub returns-then-not-branch-2-clause-serves : goal.returns-then-not-branch-2-clause-serves
unfolding perform_with_arguments
returns-then-not-branch-2-clause-serves g c =
    let selector = c.in_ok-stack-3.ensures.looks.regs 11 refl in
    let again = c.in_ok-n.ensures.looks.regs 11 refl ∙ selector in
    let receiver = c.in_ok-n.ensures.looks.regs 10 refl ∙ c.in_ok-stack-3.ensures.looks.regs 10 refl ∙ c.in_ok-stack-2.ensures.looks.regs 10 refl in
    serves_then _ c.in_ok-stack.ensures.serves
    (serves_then _ c.in_ok-stack-2.ensures.serves
    (serves_then _ c.in_ok-stack-3.ensures.serves
    (true_then _ _ (λ told. sym (named _ _ _ selector c.is_name.ensures) ∙ c.if-not-is_name.false)
    (found_then _ c.in-Some.is (c.in_ok-n.ensures.serves c.args.cpu.now)
    (found_then _ refl (rw (receiver, again, c.if-not-branch.false) at (c.in_ok-method_for.ensures.serves c.args.cpu.now))
    (serves_then _ c.in_ok-has_room.ensures.serves
    (false_fails _ _ c.in_ok-has_room.ensures.fit.ready (λ told. c.if-not-branch-2.true))))))))

pub returns-in_err-pop-clause-serves : goal.returns-in_err-pop-clause-serves
unfolding perform_with_arguments
returns-in_err-pop-clause-serves g c =
    let selector = c.in_ok-stack-3.ensures.looks.regs 11 refl in
    let again = c.in_ok-n.ensures.looks.regs 11 refl ∙ selector in
    let receiver = c.in_ok-n.ensures.looks.regs 10 refl ∙ c.in_ok-stack-3.ensures.looks.regs 10 refl ∙ c.in_ok-stack-2.ensures.looks.regs 10 refl in
    serves_then _ c.in_ok-stack.ensures.serves
    (serves_then _ c.in_ok-stack-2.ensures.serves
    (serves_then _ c.in_ok-stack-3.ensures.serves
    (true_then _ _ (λ told. sym (named _ _ _ selector c.is_name.ensures) ∙ c.if-not-is_name.false)
    (found_then _ c.in-Some.is (c.in_ok-n.ensures.serves c.args.cpu.now)
    (found_then _ refl (rw (receiver, again, c.if-not-branch.false) at (c.in_ok-method_for.ensures.serves c.args.cpu.now))
    (serves_then _ c.in_ok-has_room.ensures.serves
    (true_then _ _ (λ told. c.if-not-branch-2.false)
    (serves_exit _ _ (c.in_err-pop.ensures.serves _ c.in_ok-has_room.ensures.fit.ready) c.from_residual-in_err-pop.ensures.1))))))))

pub returns-in_err-push_elements-clause-serves : goal.returns-in_err-push_elements-clause-serves
unfolding perform_with_arguments
returns-in_err-push_elements-clause-serves g c =
    let selector = c.in_ok-stack-3.ensures.looks.regs 11 refl in
    let again = c.in_ok-n.ensures.looks.regs 11 refl ∙ selector in
    let receiver = c.in_ok-n.ensures.looks.regs 10 refl ∙ c.in_ok-stack-3.ensures.looks.regs 10 refl ∙ c.in_ok-stack-2.ensures.looks.regs 10 refl in
    let array = c.in_ok-has_room.ensures.looks.regs 12 refl ∙ c.in_ok-method_for.ensures.regs 12 (omega arith) ∙ c.in_ok-n.ensures.looks.regs 12 refl in
    serves_then _ c.in_ok-stack.ensures.serves
    (serves_then _ c.in_ok-stack-2.ensures.serves
    (serves_then _ c.in_ok-stack-3.ensures.serves
    (true_then _ _ (λ told. sym (named _ _ _ selector c.is_name.ensures) ∙ c.if-not-is_name.false)
    (found_then _ c.in-Some.is (c.in_ok-n.ensures.serves c.args.cpu.now)
    (found_then _ refl (rw (receiver, again, c.if-not-branch.false) at (c.in_ok-method_for.ensures.serves c.args.cpu.now))
    (serves_then _ c.in_ok-has_room.ensures.serves
    (true_then _ _ (λ told. c.if-not-branch-2.false)
    (serves_then _ (c.in_ok-pop.ensures.serves _ c.in_ok-has_room.ensures.fit.ready)
    (serves_exit _ _ (rw array at c.in_err-push_elements.ensures.serves) c.from_residual-in_err-push_elements.ensures.1)))))))))

pub returns-clause-serves : goal.returns-clause-serves
unfolding perform_with_arguments
returns-clause-serves g c =
    let selector = c.in_ok-stack-3.ensures.looks.regs 11 refl in
    let again = c.in_ok-n.ensures.looks.regs 11 refl ∙ selector in
    let receiver = c.in_ok-n.ensures.looks.regs 10 refl ∙ c.in_ok-stack-3.ensures.looks.regs 10 refl ∙ c.in_ok-stack-2.ensures.looks.regs 10 refl in
    let array = c.in_ok-has_room.ensures.looks.regs 12 refl ∙ c.in_ok-method_for.ensures.regs 12 (omega arith) ∙ c.in_ok-n.ensures.looks.regs 12 refl in
    let method = c.in_ok-push_elements.ensures.regs 22 (unequal 22 19 refl) ∙ c.in_ok-has_room.ensures.looks.regs 22 refl in
    serves_then _ c.in_ok-stack.ensures.serves
    (serves_then _ c.in_ok-stack-2.ensures.serves
    (serves_then _ c.in_ok-stack-3.ensures.serves
    (true_then _ _ (λ told. sym (named _ _ _ selector c.is_name.ensures) ∙ c.if-not-is_name.false)
    (found_then _ c.in-Some.is (c.in_ok-n.ensures.serves c.args.cpu.now)
    (found_then _ refl (rw (receiver, again, c.if-not-branch.false) at (c.in_ok-method_for.ensures.serves c.args.cpu.now))
    (serves_then _ c.in_ok-has_room.ensures.serves
    (true_then _ _ (λ told. c.if-not-branch-2.false)
    (serves_then _ (c.in_ok-pop.ensures.serves _ c.in_ok-has_room.ensures.fit.ready)
    (serves_then _ (rw array at c.in_ok-push_elements.ensures.serves)
    (rw method at c.execute_found.ensures.serves))))))))))
