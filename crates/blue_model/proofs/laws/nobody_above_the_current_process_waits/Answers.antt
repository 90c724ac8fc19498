use Rattle.blue_model.proofs.ScheduleLaws.{current_is, resume_goes_on, suspend_goes_on, signal_goes_on, wait_goes_on}
use Rattle.blue_model.proofs.laws.nobody_above_the_current_process_waits.Goals as goal

pub returns-clause-current : goal.returns-clause-current
returns-clause-current c = current_is

pub returns-clause-resume : goal.returns-clause-resume
returns-clause-resume c = resume_goes_on

pub returns-clause-suspend : goal.returns-clause-suspend
returns-clause-suspend c = suspend_goes_on

pub returns-clause-signal : goal.returns-clause-signal
returns-clause-signal c = signal_goes_on

pub returns-clause-wait : goal.returns-clause-wait
returns-clause-wait c = wait_goes_on
