use Rattle.long_names.proofs.KeptLaws.{kept-known, kept-root, kept-part, kept-closed}
use Rattle.long_names.proofs.laws.known_stay.Goals as goal

pub returns-clause-known : goal.returns-clause-known
returns-clause-known c = kept-known

pub returns-clause-roots : goal.returns-clause-roots
returns-clause-roots c = kept-root

pub returns-clause-of_the_heap : goal.returns-clause-of_the_heap
returns-clause-of_the_heap c = λ h root n o e. (kept-part h root).same n o e

pub returns-clause-closed : goal.returns-clause-closed
returns-clause-closed c = kept-closed
