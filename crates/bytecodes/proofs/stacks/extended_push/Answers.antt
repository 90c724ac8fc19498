use Rattle.blue_model.specs.Bytecodes.{extended_push}
use Rattle.contexts.proofs.ServesLaws.{serves_then, serves_exit, exits}
use Rattle.bytecodes.proofs.VariableLaws.{kind_pushed}
use Rattle.bytecodes.proofs.stacks.extended_push.Goals as goal

pub returns-in_err-byte-clause-serves : goal.returns-in_err-byte-clause-serves
unfolding extended_push
returns-in_err-byte-clause-serves g c = serves_exit _ _ c.in_err-byte.ensures.serves c.from_residual.ensures.1

pub returns-in_err-push_variable-clause-serves : goal.returns-in_err-push_variable-clause-serves
unfolding extended_push
returns-in_err-push_variable-clause-serves g c = serves_then _ c.in_ok-byte.ensures.serves (kind_pushed c.in_ok-byte.byte (exits _ c.from_residual-in_err-push_variable.ensures.1 (rw (c.extended.ensures, c.from.ensures) at c.in_err-push_variable.ensures.serves)))

pub returns-clause-serves : goal.returns-clause-serves
unfolding extended_push
returns-clause-serves g c = serves_then _ c.in_ok-byte.ensures.serves (kind_pushed c.in_ok-byte.byte (rw (c.extended.ensures, c.from.ensures) at c.in_ok-push_variable.ensures.serves))
