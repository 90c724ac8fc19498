use Rattle.st80_outside.specs.Right.{Makes}
use Rattle.st80.proofs.converting.make.Goals as goal

pub convert-requires : goal.convert-requires
convert-requires c = record { right = Makes _ c.in_ok-row.ensures }
