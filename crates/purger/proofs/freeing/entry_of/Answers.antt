use Rattle.purger.proofs.DrainLaws.{found-used}
use Rattle.purger.proofs.freeing.entry_of.Goals as goal

pub returns-in-Some-name : goal.returns-in-Some-name
returns-in-Some-name c = record { used = found-used c.args.p.now c.in-Some-name.name c.find.result c.requires.parts c.find.ensures }
