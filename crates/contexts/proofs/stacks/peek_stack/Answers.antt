use Rattle.std.proofs.Common.{sym}
use Rattle.contexts.proofs.StackLaws.{stack_asked}
use Rattle.contexts.proofs.stacks.peek_stack.Goals as goal

pub returns-clause-serves : goal.returns-clause-serves
returns-clause-serves g c = stack_asked (g.M.ObjectMemory.told c.args.m.now) c.args.cpu.now c.args.depth c.in_ok-len.len c.in_ok-place.place c.number_at.result c.in_ok-len.ensures.fields (λ told. sym c.in_ok-place.ensures.place) c.number_at.ensures.number
