use Rattle.std.proofs.Common.{sym, ap}
use Rattle.core_view.specs.Levels.{count_in}
use Rattle.purger.proofs.dying.count_behind.Goals as goal

pub returns-then-fresh-clause-count : goal.returns-then-fresh-clause-count
returns-then-fresh-clause-count g c = λ told stored pending at none. sym (ap count_in (none c.if-fresh.true))

pub returns-clause-count : goal.returns-clause-count
returns-clause-count g c = λ told stored pending at none. c.count_of.ensures.count told stored pending at
