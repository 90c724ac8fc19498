use Rattle.blue_model.specs.Elements.{specification_of}
use Rattle.prims_object.proofs.TestLaws.{differs, unnamed_serves}
use Rattle.prims_object.proofs.specifications.specification_of.Goals as goal

pub returns-then-not-is_name-clause-serves : goal.returns-then-not-is_name-clause-serves
unfolding specification_of
returns-then-not-is_name-clause-serves g c = λ cpu. unnamed_serves _ _ (differs _ _ c.is_name.ensures c.if-not-is_name.true) c.requires.fit.ready

pub returns-clause-serves : goal.returns-clause-serves
unfolding specification_of
returns-clause-serves g c = λ cpu. c.peek_number.ensures.serves cpu
