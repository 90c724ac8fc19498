use Rattle.blue_model.specs.Cycle.{turn}
use Rattle.blue_model.specs.Processes.{check_switch}
use Rattle.contexts.proofs.ServesLaws.{serves_then}
use Rattle.contexts.proofs.Steps.{numbers_then, pick_false, done_serves}
use Rattle.machine_run.proofs.running.turn.Goals as goal

pub returns-clause-serves : goal.returns-clause-serves
unfolding turn check_switch
returns-clause-serves g c =
    let ready = c.requires.fit.ready in
    serves_then _ (c.is_idle.ensures c.if-not-is_idle.false _ ready) (serves_then _ (numbers_then _ (pick_false _ _ _ c.if-cpu.false (done_serves ready))) c.step.ensures.serves)
