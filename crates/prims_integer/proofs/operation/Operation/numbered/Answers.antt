use Rattle.std.proofs.Common.{arith}
use Rattle.prims_integer.proofs.TableLaws.{no_row}
use Rattle.prims_integer.proofs.operation.Operation.numbered.Goals as goal

pub returns-in_default : goal.returns-in_default
returns-in_default c = no_row c.args.index (λ some. omega arith)
