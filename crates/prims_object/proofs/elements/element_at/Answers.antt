use Rattle.object_memory.proofs.LooksLaws.{not_among}
use Rattle.prims_object.proofs.TestLaws.{on_ok}
use Rattle.prims_object.proofs.elements.element_at.Goals as goal

pub returns-in-Field-clause-serves : goal.returns-in-Field-clause-serves
returns-in-Field-clause-serves g c = λ cpu. rw c.in-Field.is (c.field.ensures.serves cpu)

pub returns-in-Field-clause-regs : goal.returns-in-Field-clause-regs
returns-in-Field-clause-regs g c = on_ok c.field.result (λ looks r apart other. looks.regs r (not_among 12 r apart)) c.field.ensures.looks

pub returns-in-Word-clause-serves : goal.returns-in-Word-clause-serves
returns-in-Word-clause-serves g c = λ cpu. rw c.in-Word.is (c.word_object.ensures.serves cpu)

pub returns-in-Byte-clause-serves : goal.returns-in-Byte-clause-serves
returns-in-Byte-clause-serves g c = λ cpu. rw c.in-Byte.is (c.byte_object.ensures.serves cpu)
