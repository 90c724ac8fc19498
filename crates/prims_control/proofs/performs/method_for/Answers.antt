use Rattle.std.proofs.Common.{◌+◌, refl, arith}
use borrow.Author.Tests.{lt-ltb, le-ltb}
use Rattle.blue_model.specs.declared.limits.TheConstants.{MOST_ARGUMENTS}
use Rattle.blue_model.specs.Control.{method_for, taking}
use Rattle.contexts.proofs.ServesLaws.{serves_then, serves_stop}
use Rattle.contexts.proofs.Steps.{pick_true, pick_false, done_serves}
use Rattle.contexts.proofs.PeekLaws.{exits_found}
use Rattle.prims_control.proofs.StepLaws.{taken}
use Rattle.prims_control.proofs.performs.method_for.Goals as goal

pub returns-in_err-class_of-clause-serves : goal.returns-in_err-class_of-clause-serves
unfolding method_for
returns-in_err-class_of-clause-serves g c = λ cpu. exits_found _ _ c.from_residual.ensures.1 (serves_stop _ (c.in_err-class_of.ensures.serves cpu))

pub returns-in_err-look_up-clause-serves : goal.returns-in_err-look_up-clause-serves
unfolding method_for
returns-in_err-look_up-clause-serves g c = λ cpu.
    let selector = c.in_ok-class_of.ensures.looks.regs 11 refl in
    exits_found _ _ c.from_residual-in_err-look_up.ensures.1 (serves_then _ (c.in_ok-class_of.ensures.serves cpu) (serves_stop _ (rw selector at (c.in_err-look_up.ensures.serves cpu))))

pub returns-then-not-branch-clause-serves : goal.returns-then-not-branch-clause-serves
unfolding method_for taking
returns-then-not-branch-clause-serves g c = λ cpu.
    let selector = c.in_ok-class_of.ensures.looks.regs 11 refl in
    serves_then _ (c.in_ok-class_of.ensures.serves cpu)
    (serves_then _ (rw (selector, c.if-not-branch.true) at (c.in_ok-look_up.ensures.serves cpu)) (done_serves c.in_ok-look_up.ensures.fit.ready))

pub returns-in_err-count-clause-serves : goal.returns-in_err-count-clause-serves
unfolding method_for taking
returns-in_err-count-clause-serves g c = λ cpu.
    let selector = c.in_ok-class_of.ensures.looks.regs 11 refl in
    exits_found _ _ c.from_residual-in_err-count.ensures.1 (serves_then _ (c.in_ok-class_of.ensures.serves cpu)
    (serves_then _ (rw (selector, c.if-not-branch.false) at (c.in_ok-look_up.ensures.serves cpu)) (pick_true _ _ _ (lt-ltb _ (MOST_ARGUMENTS + 1) (omega (arith, c.if-n-gt-MOST_ARGUMENTS.false))) (serves_stop _ (c.in_err-count.ensures.serves cpu)))))

pub returns-clause-serves : goal.returns-clause-serves
unfolding method_for taking
returns-clause-serves g c = λ cpu.
    let selector = c.in_ok-class_of.ensures.looks.regs 11 refl in
    let method = c.in_ok-count.ensures.looks.regs 22 refl in
    serves_then _ (c.in_ok-class_of.ensures.serves cpu)
    (serves_then _ (rw (selector, c.if-not-branch.false) at (c.in_ok-look_up.ensures.serves cpu))
    (pick_true _ _ _ (lt-ltb _ (MOST_ARGUMENTS + 1) (omega (arith, c.if-n-gt-MOST_ARGUMENTS.false))) (serves_then _ (c.in_ok-count.ensures.serves cpu) (taken _ _ _ _ method c.in_ok-count.ensures.fit.ready))))

pub returns-then-n-gt-MOST_ARGUMENTS-clause-serves : goal.returns-then-n-gt-MOST_ARGUMENTS-clause-serves
unfolding method_for taking
returns-then-n-gt-MOST_ARGUMENTS-clause-serves g c = λ cpu.
    let selector = c.in_ok-class_of.ensures.looks.regs 11 refl in
    serves_then _ (c.in_ok-class_of.ensures.serves cpu)
    (serves_then _ (rw (selector, c.if-not-branch.false) at (c.in_ok-look_up.ensures.serves cpu))
    (pick_false _ _ _ (le-ltb _ (MOST_ARGUMENTS + 1) (omega (arith, c.if-n-gt-MOST_ARGUMENTS.true))) (done_serves c.in_ok-look_up.ensures.fit.ready)))
