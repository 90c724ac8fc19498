use Rattle.blue_model.specs.Cycle.{is_message, step}
use Rattle.contexts.proofs.ServesLaws.{serves_then, serves_exit}
use Rattle.contexts.proofs.Steps.{done_serves}
use Rattle.contexts.proofs.SpeaksLaws.{speaks_then, speaks_exit, speaks_stop, goes_done, goes_clear, goes_then}
use Rattle.bytecodes.proofs.KeepLaws.{goes_next}
use Rattle.bytecodes.proofs.dispatch.step.Goals as goal

pub returns-in_err-byte-clause-serves : goal.returns-in_err-byte-clause-serves
unfolding step
returns-in_err-byte-clause-serves g c = serves_exit _ _ c.in_err-byte.ensures.serves c.from_residual.ensures.1

pub returns-in_err-plain_bytecode-clause-serves : goal.returns-in_err-plain_bytecode-clause-serves
unfolding step
returns-in_err-plain_bytecode-clause-serves g c =
    serves_then _ c.in_ok-byte.ensures.serves
    (speaks_exit _ _ (c.in_err-plain_bytecode.ensures.serves c.args.events.now) (goes_then _ (goes_clear is_message) goes_done) c.from_residual-in_err-plain_bytecode.ensures.1)

pub returns-then-is_plain-clause-serves : goal.returns-then-is_plain-clause-serves
unfolding step
returns-then-is_plain-clause-serves g c =
    serves_then _ c.in_ok-byte.ensures.serves
    (speaks_then _ (c.in_ok-plain_bytecode.ensures.serves c.args.events.now) (serves_then _ (c.rest.ensures.serves _) (done_serves c.rest.ensures.fit.ready)) (λ e. e))

pub returns-then-is_plain-clause-keeps : goal.returns-then-is_plain-clause-keeps
returns-then-is_plain-clause-keeps g c = goes_next

pub returns-in-Err-clause-serves : goal.returns-in-Err-clause-serves
unfolding step
returns-in-Err-clause-serves g c = serves_then _ c.in_ok-byte.ensures.serves (rw c.again.ensures (speaks_stop _ c.in-Err.ensures.serves (goes_then _ (goes_clear is_message) goes_done)))

pub returns-in-Ok-clause-serves : goal.returns-in-Ok-clause-serves
unfolding step
returns-in-Ok-clause-serves g c =
    serves_then _ c.in_ok-byte.ensures.serves (speaks_then _ c.in-Ok.ensures.serves (serves_then _ (c.rest-in-Ok.ensures.serves _) (done_serves c.rest-in-Ok.ensures.fit.ready)) (λ e. e))

pub returns-in-Ok-clause-keeps : goal.returns-in-Ok-clause-keeps
returns-in-Ok-clause-keeps g c = λ k. c.in_ok-byte.ensures.serves.vault (c.in-Ok.ensures.keeps k)
