use Rattle.std.proofs.Common.{refl}
use Rattle.blue_model.specs.Storage.{equivalent}
use Rattle.contexts.proofs.ServesLaws.{serves_then, serves_exit}
use Rattle.prims_object.proofs.ValueLaws.{same_is}
use Rattle.prims_object.proofs.names.equivalent.Goals as goal

pub returns-in_err-stack-clause-serves : goal.returns-in_err-stack-clause-serves
unfolding equivalent
returns-in_err-stack-clause-serves g c = serves_exit _ _ c.in_err-stack.ensures.serves c.from_residual.ensures.1

pub returns-in_err-stack-2-clause-serves : goal.returns-in_err-stack-2-clause-serves
unfolding equivalent
returns-in_err-stack-2-clause-serves g c = serves_then _ c.in_ok-stack.ensures.serves (serves_exit _ _ c.in_err-stack-2.ensures.serves c.from_residual-in_err-stack-2.ensures.1)

pub returns-in_err-boolean-clause-serves : goal.returns-in_err-boolean-clause-serves
unfolding equivalent
returns-in_err-boolean-clause-serves g c =
    let same = same_is _ _ _ _ (c.in_ok-stack-2.ensures.looks.regs 10 refl) c.same-same.ensures in
    serves_then _ c.in_ok-stack.ensures.serves (serves_then _ c.in_ok-stack-2.ensures.serves
    (serves_exit _ _ (rw same at (c.in_err-boolean.ensures.serves c.args.cpu.now)) c.from_residual-in_err-boolean.ensures.1))

pub returns-clause-serves : goal.returns-clause-serves
unfolding equivalent
returns-clause-serves g c =
    let same = same_is _ _ _ _ (c.in_ok-stack-2.ensures.looks.regs 10 refl) c.same-same.ensures in
    serves_then _ c.in_ok-stack.ensures.serves (serves_then _ c.in_ok-stack-2.ensures.serves
    (serves_then _ (rw same at (c.in_ok-boolean.ensures.serves c.args.cpu.now)) c.answer.ensures.serves))
