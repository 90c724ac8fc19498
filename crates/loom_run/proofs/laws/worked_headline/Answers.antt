use Rattle.std.proofs.Common.{refl}
use Rattle.loom_run.proofs.WorkedLaws.{base-headline, base-promise}
use Rattle.loom_run.proofs.laws.worked_headline.Goals as goal

pub returns-clause-wrote : goal.returns-clause-wrote
returns-clause-wrote c = λ before now row result h done steps image events. base-headline before now row steps image events result done h

pub returns-clause-tells : goal.returns-clause-tells
returns-clause-tells c = record { image = refl; events = refl; work = refl; transcript = refl; saved = refl; display = refl }

pub returns-clause-asks : goal.returns-clause-asks
returns-clause-asks c = (refl, refl, refl)

pub returns-clause-promised : goal.returns-clause-promised
returns-clause-promised c = base-promise

pub returns-clause-files : goal.returns-clause-files
returns-clause-files c = (refl, refl)
