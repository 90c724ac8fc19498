use Rattle.prims_object.proofs.elements.store_element.Goals as goal

pub returns-in-Field-clause-leads : goal.returns-in-Field-clause-leads
returns-in-Field-clause-leads g c = λ cpu. rw c.in-Field.is (c.store_in_field.ensures.leads cpu)

pub returns-in-Word-clause-leads : goal.returns-in-Word-clause-leads
returns-in-Word-clause-leads g c = λ cpu. rw c.in-Word.is (c.store_in_word.ensures.leads cpu)

pub returns-in-Byte-clause-leads : goal.returns-in-Byte-clause-leads
returns-in-Byte-clause-leads g c = λ cpu. rw c.in-Byte.is (c.store_in_byte.ensures.leads cpu)
