use Rattle.std.proofs.Common.{arith}
use Rattle.work_directory.proofs.slot.spell.Goals as goal

pub returns-clause-fits : goal.returns-clause-fits
returns-clause-fits c = record { name = omega arith; count = omega arith; place = omega arith }
