use Rattle.std.proofs.Common.{refl}
use Rattle.blue_model.specs.Machine.{pick}
use Rattle.blue_model.specs.Storage.{row}
use Rattle.blue_model.specs.Processes.{process_primitives}
use Rattle.blue_model.specs.Processes as model
use Rattle.contexts.proofs.TableLaws.{row_serves, row_fails, none_serves}
use Rattle.process_sched.proofs.table.run.Goals as goal

pub returns-in-85-eq0-clause-serves : goal.returns-in-85-eq0-clause-serves
unfolding pick process_primitives
returns-in-85-eq0-clause-serves g c = row_serves process_primitives (row 85 0 model.primitive_signal) _ 85 c.in-85-eq0.is-0 refl c.in-85-eq0.is-1 c.primitive_signal.ensures.serves

pub returns-in-86-eq0-clause-serves : goal.returns-in-86-eq0-clause-serves
unfolding pick process_primitives
returns-in-86-eq0-clause-serves g c = row_serves process_primitives (row 86 0 model.primitive_wait) _ 86 c.in-86-eq0.is-0 refl c.in-86-eq0.is-1 c.primitive_wait.ensures.serves

pub returns-in-87-eq0-clause-serves : goal.returns-in-87-eq0-clause-serves
unfolding pick process_primitives
returns-in-87-eq0-clause-serves g c = row_serves process_primitives (row 87 0 model.primitive_resume) _ 87 c.in-87-eq0.is-0 refl c.in-87-eq0.is-1 c.primitive_resume.ensures.serves

pub returns-in-88-eq0-clause-serves : goal.returns-in-88-eq0-clause-serves
unfolding pick process_primitives
returns-in-88-eq0-clause-serves g c = row_serves process_primitives (row 88 0 model.primitive_suspend) _ 88 c.in-88-eq0.is-0 refl c.in-88-eq0.is-1 c.primitive_suspend.ensures.serves

pub returns-in_default-clause-serves : goal.returns-in_default-clause-serves
unfolding pick process_primitives
returns-in_default-clause-serves g c = row_fails process_primitives (row 85 0 model.primitive_signal) _ 85 c.in_default.is-0 refl c.in_default.is-1.1 c.requires.fit.ready

pub returns-in_default-2-clause-serves : goal.returns-in_default-2-clause-serves
unfolding pick process_primitives
returns-in_default-2-clause-serves g c = row_fails process_primitives (row 86 0 model.primitive_wait) _ 86 c.in_default.is-0 refl c.in_default.is-1.1 c.requires.fit.ready

pub returns-in_default-3-clause-serves : goal.returns-in_default-3-clause-serves
unfolding pick process_primitives
returns-in_default-3-clause-serves g c = row_fails process_primitives (row 87 0 model.primitive_resume) _ 87 c.in_default.is-0 refl c.in_default.is-1.1 c.requires.fit.ready

pub returns-in_default-4-clause-serves : goal.returns-in_default-4-clause-serves
unfolding pick process_primitives
returns-in_default-4-clause-serves g c = row_fails process_primitives (row 88 0 model.primitive_suspend) _ 88 c.in_default.is-0 refl c.in_default.is-1.1 c.requires.fit.ready

pub returns-in_default-5-clause-serves : goal.returns-in_default-5-clause-serves
unfolding pick process_primitives
returns-in_default-5-clause-serves g c = none_serves process_primitives _ c.requires.fit.ready c.in_default.is-0
