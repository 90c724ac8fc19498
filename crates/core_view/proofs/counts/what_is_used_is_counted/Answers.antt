use Rattle.core_view.proofs.DeadLaws.{used-counted, used-has, uncounted-unused}
use Rattle.core_view.proofs.counts.what_is_used_is_counted.Goals as goal

pub returns-clause-counted : goal.returns-clause-counted
returns-clause-counted c = used-counted

pub returns-clause-there : goal.returns-clause-there
returns-clause-there c = used-has

pub returns-clause-unused : goal.returns-clause-unused
returns-clause-unused c = uncounted-unused
