use Rattle.std.proofs.Common.{None}
use Rattle.blue_model.specs.Elements.{text_at}
use Rattle.blue_model.specs.declared.spot.Spot.TheVariants.{Field, Word}
use Rattle.contexts.proofs.PeekLaws.{peek_here}
use Rattle.prims_object.proofs.TextLaws.{no_field, no_word}
use Rattle.prims_object.proofs.characters.text_at.Goals as goal

pub returns-in-Field-clause-serves : goal.returns-in-Field-clause-serves
returns-in-Field-clause-serves g c = λ cpu. rw c.in-Field.is (peek_here (text_at (Field c.in-Field.field-0)) c.args.of None c.requires.fit.ready (λ told. no_field c.in-Field.field-0 _))

pub returns-in-Word-clause-serves : goal.returns-in-Word-clause-serves
returns-in-Word-clause-serves g c = λ cpu. rw c.in-Word.is (peek_here (text_at (Word c.in-Word.field-0)) c.args.of None c.requires.fit.ready (λ told. no_word c.in-Word.field-0 _))

pub returns-in-Byte-clause-serves : goal.returns-in-Byte-clause-serves
returns-in-Byte-clause-serves g c = λ cpu. rw c.in-Byte.is (c.text_byte.ensures.serves cpu)
