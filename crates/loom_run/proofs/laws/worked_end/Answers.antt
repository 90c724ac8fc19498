use Rattle.std.proofs.Common.{[]}
use Rattle.loom_run.proofs.WorkedLaws.{base-can-end, no-events, room-of}
use Rattle.loom_run.proofs.laws.worked_end.Goals as goal

pub returns-clause-can_end : goal.returns-clause-can_end
returns-clause-can_end c = base-can-end

pub returns-clause-roomy : goal.returns-clause-roomy
returns-clause-roomy c = λ head heap is. room-of head heap [] is no-events
