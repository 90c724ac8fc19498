use Rattle.std.proofs.Common.{◌∙◌}
use Rattle.object_memory.proofs.LeftLaws.{heap_over}
use Rattle.object_memory.proofs.RefusedLaws.{refused_after}
use Rattle.object_memory.proofs.laws.access_after_reads.Goals as goal

pub returns-clause-answered : goal.returns-clause-answered
returns-clause-answered c = λ xs first old new a looks ready follows told. heap_over first.heap old new a (looks.heap told) ready follows (looks.later.tells ∙ told)

pub returns-clause-refused : goal.returns-clause-refused
returns-clause-refused c = refused_after
