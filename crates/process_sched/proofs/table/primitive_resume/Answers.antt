use Rattle.std.proofs.Common.{refl, ◌∙◌}
use Rattle.long_names.specs.Words.{IsSmallInteger}
use Rattle.object_memory.proofs.ShapeLaws.{small_number}
use Rattle.blue_model.specs.Processes.{primitive_resume}
use Rattle.contexts.proofs.ServesLaws.{serves_then, serves_exit}
use Rattle.contexts.proofs.Steps.{done_serves}
use Rattle.contexts.proofs.TrialLaws.{true_then, false_fails, found_then, none_found, finding_exit}
use Rattle.process_sched.proofs.ValueLaws.{of_some}
use Rattle.process_sched.proofs.table.primitive_resume.Goals as goal

pub returns-in_err-stack-clause-serves : goal.returns-in_err-stack-clause-serves
unfolding primitive_resume
returns-in_err-stack-clause-serves g c = serves_exit _ _ c.in_err-stack.ensures.serves c.from_residual.ensures.1

pub returns-in_err-priority-clause-serves : goal.returns-in_err-priority-clause-serves
unfolding primitive_resume
returns-in_err-priority-clause-serves g c =
    serves_then _ c.in_ok-stack.ensures.serves
    (finding_exit _ _ (c.in_err-priority.ensures.serves _) c.from_residual-in_err-priority.ensures.1)

pub returns-in_default-clause-serves : goal.returns-in_default-clause-serves
unfolding primitive_resume
returns-in_default-clause-serves g c =
    serves_then _ c.in_ok-stack.ensures.serves
    (none_found _ c.in_default.is (c.in_ok-priority.ensures.serves _))

pub returns-in_err-has_list-clause-serves : goal.returns-in_err-has_list-clause-serves
unfolding primitive_resume
returns-in_err-has_list-clause-serves g c =
    let z = small_number _ (of_some IsSmallInteger _ c.in-Some.is c.in_ok-priority.ensures.range) in
    serves_then _ c.in_ok-stack.ensures.serves
    (found_then _ c.in-Some.is (c.in_ok-priority.ensures.serves _)
    (serves_exit _ _ (rw z at c.in_err-has_list.ensures.serves c.args.cpu.now) c.from_residual-in_err-has_list.ensures.1))

pub returns-then-not-branch-clause-serves : goal.returns-then-not-branch-clause-serves
unfolding primitive_resume
returns-then-not-branch-clause-serves g c =
    let z = small_number _ (of_some IsSmallInteger _ c.in-Some.is c.in_ok-priority.ensures.range) in
    serves_then _ c.in_ok-stack.ensures.serves
    (found_then _ c.in-Some.is (c.in_ok-priority.ensures.serves _)
    (serves_then _ (rw z at c.in_ok-has_list.ensures.serves c.args.cpu.now)
    (false_fails _ _ c.in_ok-has_list.ensures.fit.ready (λ told. c.if-not-branch.true))))

pub returns-in_err-resume-clause-serves : goal.returns-in_err-resume-clause-serves
unfolding primitive_resume
returns-in_err-resume-clause-serves g c =
    let z = small_number _ (of_some IsSmallInteger _ c.in-Some.is c.in_ok-priority.ensures.range) in
    let process = c.in_ok-has_list.ensures.looks.regs 17 refl ∙ c.in_ok-priority.ensures.looks.regs 17 refl in
    serves_then _ c.in_ok-stack.ensures.serves
    (found_then _ c.in-Some.is (c.in_ok-priority.ensures.serves _)
    (serves_then _ (rw z at c.in_ok-has_list.ensures.serves c.args.cpu.now)
    (true_then _ _ (λ told. c.if-not-branch.false)
    (serves_exit _ _ (rw process at c.in_err-resume.ensures.serves) c.from_residual-in_err-resume.ensures.1))))

pub returns-clause-serves : goal.returns-clause-serves
unfolding primitive_resume
returns-clause-serves g c =
    let z = small_number _ (of_some IsSmallInteger _ c.in-Some.is c.in_ok-priority.ensures.range) in
    let process = c.in_ok-has_list.ensures.looks.regs 17 refl ∙ c.in_ok-priority.ensures.looks.regs 17 refl in
    serves_then _ c.in_ok-stack.ensures.serves
    (found_then _ c.in-Some.is (c.in_ok-priority.ensures.serves _)
    (serves_then _ (rw z at c.in_ok-has_list.ensures.serves c.args.cpu.now)
    (true_then _ _ (λ told. c.if-not-branch.false)
    (serves_then _ (rw process at c.in_ok-resume.ensures.serves) (done_serves c.in_ok-resume.ensures.fit.ready)))))
