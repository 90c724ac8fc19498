use Rattle.std.proofs.Common.{arith}
use Rattle.devices.proofs.DueLaws.{due_here}
use Rattle.devices.proofs.events.is_due.Goals as goal

pub returns-then-place-len-clause-due : goal.returns-then-place-len-clause-due
returns-then-place-len-clause-due c = let len = c.len.ensures.value in due_here c.args.events.now c.args.place c.args.count c.item.result.now (omega (arith, c.if-place-len.true)) c.item.ensures
