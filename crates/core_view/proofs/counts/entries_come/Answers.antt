use Rattle.core_view.proofs.CameLaws.{came-sound, leaf-sound, counted-quiet, known-quiet}
use Rattle.core_view.proofs.counts.entries_come.Goals as goal

pub returns-clause-used : goal.returns-clause-used
returns-clause-used c = came-sound

pub returns-clause-leaf : goal.returns-clause-leaf
returns-clause-leaf c = leaf-sound

pub returns-clause-counted : goal.returns-clause-counted
returns-clause-counted c = counted-quiet

pub returns-clause-known : goal.returns-clause-known
returns-clause-known c = known-quiet
