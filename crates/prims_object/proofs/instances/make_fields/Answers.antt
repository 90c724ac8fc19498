use Rattle.object_memory.proofs.ShapeLaws.{small_number}
use Rattle.prims_object.proofs.InstanceLaws.{fields_pointers, fields_words, making_as}
use Rattle.prims_object.proofs.instances.make_fields.Goals as goal

pub returns-then-has_pointers-clause-serves : goal.returns-then-has_pointers-clause-serves
returns-then-has_pointers-clause-serves g c = λ cpu.
    making_as _ _ _ (fields_pointers _ _ _ _ (small_number _ c.requires.range) c.has_pointers.ensures c.if-has_pointers.true c.fixed_fields-n.ensures.fixed) (c.make_pointers.ensures.serves cpu)

pub returns-else-has_pointers-clause-serves : goal.returns-else-has_pointers-clause-serves
returns-else-has_pointers-clause-serves g c = λ cpu.
    making_as _ _ _ (fields_words _ _ _ _ (small_number _ c.requires.range) c.has_pointers.ensures c.if-has_pointers.false c.fixed_fields-n.ensures.fixed) (c.make_words.ensures.serves cpu)
