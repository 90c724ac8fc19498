use Rattle.loom_run.proofs.SavedLaws.{saved-course, saved-heap, saved-image, saved-registers, saved-start, saved-state}
use Rattle.loom_run.proofs.laws.a_run_goes_on_from_what_was_saved.Goals as goal

pub returns-clause-image : goal.returns-clause-image
returns-clause-image c = saved-image

pub returns-clause-heap : goal.returns-clause-heap
returns-clause-heap c = saved-heap

pub returns-clause-state : goal.returns-clause-state
returns-clause-state c = saved-state

pub returns-clause-starts : goal.returns-clause-starts
returns-clause-starts c = saved-start

pub returns-clause-registers : goal.returns-clause-registers
returns-clause-registers c = saved-registers

pub returns-clause-course : goal.returns-clause-course
returns-clause-course c = saved-course
