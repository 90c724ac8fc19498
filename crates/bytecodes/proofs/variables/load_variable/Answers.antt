use Rattle.bytecodes.proofs.variables.load_variable.Goals as goal

pub returns-in-Receiver-clause-serves : goal.returns-in-Receiver-clause-serves
returns-in-Receiver-clause-serves g c = λ cpu. rw c.in-Receiver.is (c.receiver_variable.ensures.serves cpu)

pub returns-in-Temporary-clause-serves : goal.returns-in-Temporary-clause-serves
returns-in-Temporary-clause-serves g c = λ cpu. rw c.in-Temporary.is (c.temporary.ensures.serves cpu)

pub returns-in-Literal-clause-serves : goal.returns-in-Literal-clause-serves
returns-in-Literal-clause-serves g c = λ cpu. rw c.in-Literal.is (c.literal_constant.ensures.serves cpu)

pub returns-in-LiteralVariable-clause-serves : goal.returns-in-LiteralVariable-clause-serves
returns-in-LiteralVariable-clause-serves g c = λ cpu. rw c.in-LiteralVariable.is (c.literal_variable.ensures.serves cpu)
