use Rattle.object_memory.proofs.ShapeLaws.{small_number}
use Rattle.prims_object.proofs.InstanceLaws.{sized_pointers, sized_words, sized_bytes, making_as}
use Rattle.prims_object.proofs.instances.make_sized.Goals as goal

pub returns-then-has_pointers-clause-serves : goal.returns-then-has_pointers-clause-serves
returns-then-has_pointers-clause-serves g c = λ cpu.
    making_as _ _ _ (sized_pointers _ _ _ _ (small_number _ c.requires.range) c.has_pointers.ensures c.if-has_pointers.true) (c.make_pointers.ensures.serves cpu)

pub returns-then-has_words-clause-serves : goal.returns-then-has_words-clause-serves
returns-then-has_words-clause-serves g c = λ cpu.
    making_as _ _ _ (sized_words _ _ _ _ _ (small_number _ c.requires.range) c.has_pointers.ensures c.if-has_pointers.false c.has_words.ensures c.if-has_words.true) (c.make_words.ensures.serves cpu)

pub returns-else-has_words-clause-serves : goal.returns-else-has_words-clause-serves
returns-else-has_words-clause-serves g c = λ cpu.
    making_as _ _ _ (sized_bytes _ _ _ _ _ (small_number _ c.requires.range) c.has_pointers.ensures c.if-has_pointers.false c.has_words.ensures c.if-has_words.false) (c.make_bytes.ensures.serves cpu)
