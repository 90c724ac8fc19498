use Rattle.std.proofs.Common.{arith}
use Rattle.blue_model.specs.Contexts.{back_with}
use Rattle.contexts.proofs.ServesLaws.{serves_then, serves_exit, exits}
use Rattle.bytecodes.proofs.returns.back_with.Goals as goal

pub returns-in_err-back-clause-serves : goal.returns-in_err-back-clause-serves
unfolding back_with
returns-in_err-back-clause-serves g c = serves_exit _ _ c.in_err-back.ensures.serves c.from_residual.ensures.1

pub returns-in_err-push-clause-serves : goal.returns-in_err-push-clause-serves
unfolding back_with
returns-in_err-push-clause-serves g c =
    let value = c.in_ok-back.ensures.others 10 (omega arith) (omega arith) in
    serves_then _ c.in_ok-back.ensures.serves (exits _ c.from_residual-in_err-push.ensures.1 (rw value at c.in_err-push.ensures.serves))

pub returns-clause-serves : goal.returns-clause-serves
unfolding back_with
returns-clause-serves g c =
    let value = c.in_ok-back.ensures.others 10 (omega arith) (omega arith) in
    serves_then _ c.in_ok-back.ensures.serves (rw value at c.in_ok-push.ensures.serves)
