use Rattle.checkpoint.proofs.LayoutLaws.{bad-by_gates, found-by_gates}
use Rattle.checkpoint.proofs.laws.gates_alone_tell.Goals as goal

pub returns-clause-found : goal.returns-clause-found
returns-clause-found c v w same = found-by_gates v w same

pub returns-clause-bad : goal.returns-clause-bad
returns-clause-bad c v w same = bad-by_gates v w same
