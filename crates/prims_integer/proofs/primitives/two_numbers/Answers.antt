use Rattle.std.proofs.Common.{refl}
use Rattle.object_memory.proofs.ShapeLaws.{small_number}
use Rattle.contexts.proofs.ServesLaws.{serves_then, serves_exit}
use Rattle.contexts.proofs.Steps.{done_serves, done_same}
use Rattle.prims_integer.specs.Operations.{two_numbers}
use Rattle.prims_integer.proofs.OperandLaws.{no_receiver, no_argument, has_both}
use Rattle.prims_integer.proofs.primitives.two_numbers.Goals as goal

pub returns-in-Some-peek_stack-clause-serves : goal.returns-in-Some-peek_stack-clause-serves
unfolding two_numbers
returns-in-Some-peek_stack-clause-serves g c =
    let ready = c.requires.fit.ready in
    rw (small_number c.in-Some.receiver c.in-Some.ensures.range, small_number c.in-Some-peek_stack.argument c.in-Some-peek_stack.ensures.range)
    (serves_then _ (c.in-Some.ensures.serves ready) (serves_then _ (c.in-Some-peek_stack.ensures.serves ready) (done_serves ready)))

pub returns-in_err-stack-clause-serves : goal.returns-in_err-stack-clause-serves
unfolding two_numbers
returns-in_err-stack-clause-serves g c = serves_exit _ _ c.in_err-stack.ensures.serves c.from_residual.ensures.1

pub returns-in_err-stack-2-clause-serves : goal.returns-in_err-stack-2-clause-serves
unfolding two_numbers
returns-in_err-stack-2-clause-serves g c = serves_then _ c.in_ok-stack.ensures.serves (serves_exit _ _ c.in_err-stack-2.ensures.serves c.from_residual-in_err-stack-2.ensures.1)

pub returns-in_default-as_int-clause-serves : goal.returns-in_default-as_int-clause-serves
unfolding two_numbers
returns-in_default-as_int-clause-serves g c =
    let receiver = c.in_ok-stack-2.ensures.looks.regs 10 refl in
    serves_then _ c.in_ok-stack.ensures.serves (serves_then _ c.in_ok-stack-2.ensures.serves
    (done_same (no_receiver _ _ _ receiver c.in_default-as_int.ensures.number) c.in_ok-stack-2.ensures.fit.ready))

pub returns-in_default-as_int-2-clause-serves : goal.returns-in_default-as_int-2-clause-serves
unfolding two_numbers
returns-in_default-as_int-2-clause-serves g c =
    serves_then _ c.in_ok-stack.ensures.serves (serves_then _ c.in_ok-stack-2.ensures.serves
    (done_same (no_argument _ _ c.in_default-as_int-2.ensures.number) c.in_ok-stack-2.ensures.fit.ready))

pub returns-clause-serves : goal.returns-clause-serves
unfolding two_numbers
returns-clause-serves g c =
    let receiver = c.in_ok-stack-2.ensures.looks.regs 10 refl in
    serves_then _ c.in_ok-stack.ensures.serves (serves_then _ c.in_ok-stack-2.ensures.serves
    (done_same (has_both _ _ _ _ _ _ _ receiver c.in-Some-as_int.ensures.number c.in-Some-as_int-2.ensures.number (small_number _ c.in-Some-as_int.ensures.range) (small_number _ c.in-Some-as_int-2.ensures.range)) c.in_ok-stack-2.ensures.fit.ready))
