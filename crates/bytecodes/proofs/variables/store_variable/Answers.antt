use Rattle.contexts.proofs.Steps.{halt_serves}
use Rattle.bytecodes.proofs.variables.store_variable.Goals as goal

pub returns-in-Receiver-clause-serves : goal.returns-in-Receiver-clause-serves
returns-in-Receiver-clause-serves g c = λ cpu. rw c.in-Receiver.is (c.store_receiver_variable.ensures.serves cpu)

pub returns-in-Temporary-clause-serves : goal.returns-in-Temporary-clause-serves
returns-in-Temporary-clause-serves g c = λ cpu. rw c.in-Temporary.is (c.store_temporary.ensures.serves cpu)

pub returns-in-Literal-clause-serves : goal.returns-in-Literal-clause-serves
returns-in-Literal-clause-serves g c = λ cpu. rw c.in-Literal.is halt_serves

pub returns-in-LiteralVariable-clause-serves : goal.returns-in-LiteralVariable-clause-serves
returns-in-LiteralVariable-clause-serves g c = λ cpu. rw c.in-LiteralVariable.is (c.store_literal_variable.ensures.serves cpu)
