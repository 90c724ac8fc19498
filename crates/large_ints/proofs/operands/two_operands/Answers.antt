use Rattle.std.proofs.Common.{refl}
use mir.Syntax.{w128}
use Rattle.std.specs.Int.RustNames.{FitsSigned}
use Rattle.std.proofs.lemmas.Int.{to_z-of_z}
use Rattle.blue_model.specs.LargeInts.{of_large}
use Rattle.contexts.proofs.PeekPairs.{of_some}
use Rattle.contexts.proofs.ServesLaws.{serves_then, serves_stop}
use Rattle.contexts.proofs.TrialLaws.{found_then, none_found, finding_stopped}
use Rattle.large_ints.proofs.OperandLaws.{finds_exit}
use Rattle.large_ints.proofs.operands.two_operands.Goals as goal

pub returns-in_err-stack-clause-finds : goal.returns-in_err-stack-clause-finds
unfolding of_large
returns-in_err-stack-clause-finds g c = finds_exit of_large _ c.from_residual.ensures.1 (λ rest. serves_stop _ c.in_err-stack.ensures.serves)

pub returns-in_err-stack-2-clause-finds : goal.returns-in_err-stack-2-clause-finds
unfolding of_large
returns-in_err-stack-2-clause-finds g c = finds_exit of_large _ c.from_residual-in_err-stack-2.ensures.1 (λ rest. serves_then _ c.in_ok-stack.ensures.serves (serves_stop _ c.in_err-stack-2.ensures.serves))

pub returns-in_err-receiver-clause-finds : goal.returns-in_err-receiver-clause-finds
unfolding of_large
returns-in_err-receiver-clause-finds g c = finds_exit of_large _ c.from_residual-in_err-receiver.ensures.1 (λ rest.
    let receiver = c.in_ok-stack-2.ensures.looks.regs 10 refl in
    serves_then _ c.in_ok-stack.ensures.serves (serves_then _ c.in_ok-stack-2.ensures.serves (finding_stopped _ (rw receiver at c.in_err-receiver.ensures.serves c.args.cpu.now))))

pub returns-in_default-clause-finds : goal.returns-in_default-clause-finds
unfolding of_large
returns-in_default-clause-finds g c = λ rest.
    let receiver = c.in_ok-stack-2.ensures.looks.regs 10 refl in
    serves_then _ c.in_ok-stack.ensures.serves (serves_then _ c.in_ok-stack-2.ensures.serves (none_found _ c.in_default.is (rw receiver at c.in_ok-receiver.ensures.serves c.args.cpu.now)))

pub returns-in_err-argument-clause-finds : goal.returns-in_err-argument-clause-finds
unfolding of_large
returns-in_err-argument-clause-finds g c = finds_exit of_large _ c.from_residual-in_err-argument.ensures.1 (λ rest.
    let receiver = c.in_ok-stack-2.ensures.looks.regs 10 refl in
    let argument = c.in_ok-receiver.ensures.looks.regs 11 refl in
    serves_then _ c.in_ok-stack.ensures.serves (serves_then _ c.in_ok-stack-2.ensures.serves
    (found_then _ c.in-Some.is (rw receiver at c.in_ok-receiver.ensures.serves c.args.cpu.now)
    (finding_stopped _ (rw argument at c.in_err-argument.ensures.serves c.args.cpu.now)))))

pub returns-in_default-2-clause-finds : goal.returns-in_default-2-clause-finds
unfolding of_large
returns-in_default-2-clause-finds g c = λ rest.
    let receiver = c.in_ok-stack-2.ensures.looks.regs 10 refl in
    let argument = c.in_ok-receiver.ensures.looks.regs 11 refl in
    serves_then _ c.in_ok-stack.ensures.serves (serves_then _ c.in_ok-stack-2.ensures.serves
    (found_then _ c.in-Some.is (rw receiver at c.in_ok-receiver.ensures.serves c.args.cpu.now)
    (none_found _ c.in_default-2.is (rw argument at c.in_ok-argument.ensures.serves c.args.cpu.now))))

pub returns-clause-finds : goal.returns-clause-finds
unfolding of_large
returns-clause-finds g c = λ rest later now answer s.
    let receiver = c.in_ok-stack-2.ensures.looks.regs 10 refl in
    let argument = c.in_ok-receiver.ensures.looks.regs 11 refl in
    let a = of_some (FitsSigned w128) _ _ c.in-Some.is c.in_ok-receiver.ensures.range in
    let b = of_some (FitsSigned w128) _ _ c.in-Some-2.is c.in_ok-argument.ensures.range in
    serves_then _ c.in_ok-stack.ensures.serves (serves_then _ c.in_ok-stack-2.ensures.serves
    (found_then _ c.in-Some.is (rw receiver at c.in_ok-receiver.ensures.serves c.args.cpu.now)
    (found_then _ c.in-Some-2.is (rw argument at c.in_ok-argument.ensures.serves c.args.cpu.now)
    (rw (to_z-of_z w128 _ a, to_z-of_z w128 _ b) at s))))
