use Rattle.std.proofs.Common.{refl, arith}
use Rattle.blue_model.specs.Processes.{current_process}
use Rattle.contexts.proofs.Steps.{numbers_then, pick_true, pick_false}
use Rattle.process_sched.proofs.RegisterLaws.{register_copied}
use Rattle.process_sched.proofs.switches.current_process.Goals as goal

pub returns-then-cpu-clause-serves : goal.returns-then-cpu-clause-serves
unfolding current_process
returns-then-cpu-clause-serves g c = numbers_then _ (pick_true _ _ _ c.if-cpu.true (register_copied 6 10 refl (omega arith) c.requires.fit.ready (c.copy.ensures.fit.ready c.requires.fit.ready) c.copy.ensures.told))

pub returns-clause-serves : goal.returns-clause-serves
unfolding current_process
returns-clause-serves g c = numbers_then _ (pick_false _ _ _ c.if-cpu.false (c.active_process.ensures.serves _))
