use Rattle.std.proofs.Common.{All, take}
use Rattle.st80_program.specs.Understood.{HasSelector}
use Rattle.st80_program.proofs.trees.first_lost.Given as goal

abbrev pub invariant-each : goal.invariant-each
invariant-each l = All (λ sending. HasSelector l.trees.methods.items sending.selector) (take l.sending-index l.trees.sendings.items)
