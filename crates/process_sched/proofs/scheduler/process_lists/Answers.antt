use Rattle.blue_model.specs.Processes.{process_lists}
use Rattle.contexts.proofs.ServesLaws.{serves_then, serves_stop}
use Rattle.contexts.proofs.ReadLaws.{exits_with, looks_again}
use Rattle.process_sched.proofs.scheduler.process_lists.Goals as goal

pub returns-in_err-scheduler-clause-serves : goal.returns-in_err-scheduler-clause-serves
unfolding process_lists
returns-in_err-scheduler-clause-serves g c = λ cpu. exits_with _ _ c.from_residual.ensures.1 (serves_stop _ (c.in_err-scheduler.ensures.serves cpu))

pub returns-in_err-field-clause-serves : goal.returns-in_err-field-clause-serves
unfolding process_lists
returns-in_err-field-clause-serves g c = λ cpu. exits_with _ _ c.from_residual-in_err-field.ensures.1 (serves_then _ (c.in_ok-scheduler.ensures.serves cpu) (c.in_err-field.ensures.serves cpu))

pub returns-clause-serves : goal.returns-clause-serves
unfolding process_lists
returns-clause-serves g c = λ cpu. serves_then _ (c.in_ok-scheduler.ensures.serves cpu) (c.in_ok-field.ensures.serves cpu)

pub returns-clause-looks : goal.returns-clause-looks
returns-clause-looks g c = looks_again _ _ _ _ c.in_ok-scheduler.ensures.fit.ready c.in_ok-scheduler.ensures.looks c.in_ok-field.ensures.looks
