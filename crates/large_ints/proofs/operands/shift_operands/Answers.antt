use Rattle.std.proofs.Common.{refl, sym, ap, ◌∙◌}
use mir.Syntax.{w128}
use Rattle.std.specs.Int.RustNames.{FitsSigned}
use Rattle.std.proofs.lemmas.Int.{to_z-of_z}
use Rattle.long_names.specs.Objects.{int_of}
use Rattle.object_memory.proofs.ShapeLaws.{small_number}
use Rattle.contexts.proofs.PeekPairs.{of_some}
use Rattle.blue_model.specs.LargeInts.{of_shift}
use Rattle.contexts.proofs.ServesLaws.{serves_then, serves_stop}
use Rattle.contexts.proofs.TrialLaws.{found_then, none_found, finding_stopped, some_then, none_fails}
use Rattle.large_ints.proofs.OperandLaws.{finds_exit}
use Rattle.large_ints.proofs.operands.shift_operands.Goals as goal

pub returns-in_err-stack-clause-finds : goal.returns-in_err-stack-clause-finds
unfolding of_shift
returns-in_err-stack-clause-finds g c = finds_exit of_shift _ c.from_residual.ensures.1 (λ rest. serves_stop _ c.in_err-stack.ensures.serves)

pub returns-in_err-stack-2-clause-finds : goal.returns-in_err-stack-2-clause-finds
unfolding of_shift
returns-in_err-stack-2-clause-finds g c = finds_exit of_shift _ c.from_residual-in_err-stack-2.ensures.1 (λ rest. serves_then _ c.in_ok-stack.ensures.serves (serves_stop _ c.in_err-stack-2.ensures.serves))

pub returns-in_err-receiver-clause-finds : goal.returns-in_err-receiver-clause-finds
unfolding of_shift
returns-in_err-receiver-clause-finds g c = finds_exit of_shift _ c.from_residual-in_err-receiver.ensures.1 (λ rest.
    let receiver = c.in_ok-stack-2.ensures.looks.regs 10 refl in
    serves_then _ c.in_ok-stack.ensures.serves (serves_then _ c.in_ok-stack-2.ensures.serves (finding_stopped _ (rw receiver at c.in_err-receiver.ensures.serves c.args.cpu.now))))

pub returns-in_default-clause-finds : goal.returns-in_default-clause-finds
unfolding of_shift
returns-in_default-clause-finds g c = λ rest.
    let receiver = c.in_ok-stack-2.ensures.looks.regs 10 refl in
    serves_then _ c.in_ok-stack.ensures.serves (serves_then _ c.in_ok-stack-2.ensures.serves (none_found _ c.in_default.is (rw receiver at c.in_ok-receiver.ensures.serves c.args.cpu.now)))

pub returns-in_default-as_int-clause-finds : goal.returns-in_default-as_int-clause-finds
unfolding of_shift
returns-in_default-as_int-clause-finds g c = λ rest.
    let receiver = c.in_ok-stack-2.ensures.looks.regs 10 refl in
    let argument = c.in_ok-receiver.ensures.looks.regs 11 refl in
    serves_then _ c.in_ok-stack.ensures.serves (serves_then _ c.in_ok-stack-2.ensures.serves
    (found_then _ c.in-Some.is (rw receiver at c.in_ok-receiver.ensures.serves c.args.cpu.now)
    (none_fails _ _ c.in_ok-receiver.ensures.fit.ready (λ told. sym (c.in_default-as_int.ensures.number ∙ ap int_of argument)))))

pub returns-clause-finds : goal.returns-clause-finds
unfolding of_shift
returns-clause-finds g c = λ rest later now answer s.
    let receiver = c.in_ok-stack-2.ensures.looks.regs 10 refl in
    let argument = c.in_ok-receiver.ensures.looks.regs 11 refl in
    let a = of_some (FitsSigned w128) _ _ c.in-Some.is c.in_ok-receiver.ensures.range in
    serves_then _ c.in_ok-stack.ensures.serves (serves_then _ c.in_ok-stack-2.ensures.serves
    (found_then _ c.in-Some.is (rw receiver at c.in_ok-receiver.ensures.serves c.args.cpu.now)
    (some_then _ _ _ (λ told. sym (c.in-Some-as_int.ensures.number ∙ ap int_of argument))
    (rw (to_z-of_z w128 _ a, small_number _ c.in-Some-as_int.ensures.range) at s))))
