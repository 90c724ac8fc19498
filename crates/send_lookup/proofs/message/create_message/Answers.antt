use Rattle.std.proofs.Common.{arith}
use Rattle.blue_model.specs.Messages.{create_message}
use Rattle.contexts.proofs.ServesLaws.{serves_then, serves_exit, exits}
use Rattle.send_lookup.proofs.message.create_message.Goals as goal

pub returns-in_err-make_arguments-clause-serves : goal.returns-in_err-make_arguments-clause-serves
unfolding create_message
returns-in_err-make_arguments-clause-serves g c = serves_exit _ _ (rw c.from-n.ensures at c.in_err-make_arguments.ensures.serves) c.from_residual.ensures.1

pub returns-in_err-make_message-clause-serves : goal.returns-in_err-make_message-clause-serves
unfolding create_message
returns-in_err-make_message-clause-serves g c =
    let selector = c.in_ok-make_arguments.ensures.regs 4 (omega arith) in
    serves_then _ (rw c.from-n.ensures at c.in_ok-make_arguments.ensures.serves)
    (serves_exit _ _ (rw selector at c.in_err-make_message.ensures.serves _) c.from_residual-in_err-make_message.ensures.1)

pub returns-in_err-pop-clause-serves : goal.returns-in_err-pop-clause-serves
unfolding create_message
returns-in_err-pop-clause-serves g c =
    let selector = c.in_ok-make_arguments.ensures.regs 4 (omega arith) in
    let ready = c.in_ok-make_message.ensures.fit.ready in
    serves_then _ (rw c.from-n.ensures at c.in_ok-make_arguments.ensures.serves)
    (serves_then _ (rw selector at c.in_ok-make_message.ensures.serves _)
    (serves_exit _ _ (rw c.from-n.ensures at c.in_err-pop.ensures.serves _ ready) c.from_residual-in_err-pop.ensures.1))

pub returns-in_err-push-clause-serves : goal.returns-in_err-push-clause-serves
unfolding create_message
returns-in_err-push-clause-serves g c =
    let selector = c.in_ok-make_arguments.ensures.regs 4 (omega arith) in
    let ready = c.in_ok-make_message.ensures.fit.ready in
    serves_then _ (rw c.from-n.ensures at c.in_ok-make_arguments.ensures.serves)
    (serves_then _ (rw selector at c.in_ok-make_message.ensures.serves _)
    (serves_then _ (rw c.from-n.ensures at c.in_ok-pop.ensures.serves _ ready)
    (exits _ c.from_residual-in_err-push.ensures.1 c.in_err-push.ensures.serves)))

pub returns-clause-serves : goal.returns-clause-serves
unfolding create_message
returns-clause-serves g c =
    let selector = c.in_ok-make_arguments.ensures.regs 4 (omega arith) in
    let ready = c.in_ok-make_message.ensures.fit.ready in
    serves_then _ (rw c.from-n.ensures at c.in_ok-make_arguments.ensures.serves)
    (serves_then _ (rw selector at c.in_ok-make_message.ensures.serves _)
    (serves_then _ (rw c.from-n.ensures at c.in_ok-pop.ensures.serves _ ready)
    c.in_ok-push.ensures.serves))
