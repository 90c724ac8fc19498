use Rattle.std.proofs.Common.{arith}
use Rattle.contexts.proofs.RegisterLaws.{context_serves}
use Rattle.contexts.proofs.registers.put_context.Goals as goal

pub returns-clause-serves : goal.returns-clause-serves
returns-clause-serves g c = λ cpu.
    let one = c.copy.ensures.fit.ready c.requires.fit.ready in
    let two = c.copy-2.ensures.fit.ready one in
    let three = c.copy-3.ensures.fit.ready two in
    context_serves c.args.context 21 22 23 (omega arith) (omega arith) (omega arith) c.requires.fit.ready one two three (c.copy-4.ensures.fit.ready three) c.copy.ensures.told c.copy-2.ensures.told c.copy-3.ensures.told c.copy-4.ensures.told
