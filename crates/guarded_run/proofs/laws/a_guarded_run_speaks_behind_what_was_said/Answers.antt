use Rattle.guarded_run.proofs.EarlierLaws.{guarded_course_after}
use Rattle.guarded_run.proofs.laws.a_guarded_run_speaks_behind_what_was_said.Goals as goal

pub returns : goal.returns
returns c = guarded_course_after
