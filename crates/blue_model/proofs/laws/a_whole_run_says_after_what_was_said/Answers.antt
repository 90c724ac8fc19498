use Rattle.blue_model.proofs.EarlierLaws.{earlier_course, course_at_rest, course_after, said_earlier}
use Rattle.blue_model.proofs.laws.a_whole_run_says_after_what_was_said.Goals as goal

pub returns-clause-machine : goal.returns-clause-machine
returns-clause-machine c = earlier_course

pub returns-clause-rest : goal.returns-clause-rest
returns-clause-rest c = course_at_rest

pub returns-clause-after : goal.returns-clause-after
returns-clause-after c = course_after

pub returns-clause-said : goal.returns-clause-said
returns-clause-said c = said_earlier
