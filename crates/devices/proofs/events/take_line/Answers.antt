use Rattle.std.proofs.Common.{ap}
use Rattle.blue_model.specs.Devices.{take_line}
use Rattle.contexts.proofs.ServesLaws.{serves_then}
use Rattle.contexts.proofs.Steps.{numbers_then, set_numbers_at}
use Rattle.devices.proofs.events.take_line.Goals as goal

pub returns-clause-serves : goal.returns-clause-serves
unfolding take_line
returns-clause-serves g c = numbers_then _ (serves_then _ (set_numbers_at _ (ap (λ n. record c.args.cpu.now { line = n }) c.raised-cpu.ensures) (λ may. may) c.requires.fit.ready) c.take_event.ensures.serves)
