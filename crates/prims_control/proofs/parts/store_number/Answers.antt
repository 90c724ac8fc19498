use Rattle.object_memory.proofs.ShapeLaws.{small_number}
use Rattle.prims_control.proofs.StepLaws.{number_first}
use Rattle.prims_control.proofs.parts.store_number.Goals as goal

pub returns-clause-serves : goal.returns-clause-serves
returns-clause-serves g c = λ cpu. number_first c.args.of c.args.i _ _ c.requires.low (small_number _ c.requires.range) c.requires.fit.ready (c.int.ensures.fit.ready c.requires.fit.ready) c.int.ensures.told (c.store_field.ensures.serves cpu)
