use Rattle.guarded_run.proofs.WholeLaws.{whole_first, kept_stands, state_stands, kept_at_end}
use Rattle.guarded_run.proofs.laws.a_memory_keeps_what_the_machine_keeps.Goals as goal

pub returns-clause-starts : goal.returns-clause-starts
returns-clause-starts c = whole_first

pub returns-clause-kept : goal.returns-clause-kept
returns-clause-kept c = kept_stands

pub returns-clause-ends : goal.returns-clause-ends
returns-clause-ends c = kept_at_end

pub returns-clause-state : goal.returns-clause-state
returns-clause-state c = λ events g serial t cpu parked keep. state_stands t cpu parked keep.stands
