use Rattle.std.proofs.Common.{Some, None, sym}
use Rattle.contexts.proofs.ServesLaws.{exits}
use Rattle.prims_object.specs.Extents.{extent_of, text_by, text_length}
use Rattle.prims_object.proofs.ExtentLaws.{text_same, part_gives, part_stops}
use Rattle.prims_object.proofs.extents.text_length.Goals as goal

pub returns-in_err-extent-clause-serves : goal.returns-in_err-extent-clause-serves
returns-in_err-extent-clause-serves g c = λ cpu. exits _ c.from_residual.ensures.1 (part_stops extent_of text_length text_by _ text_same (c.in_err-extent.ensures.serves cpu))

pub returns-in_default-clause-serves : goal.returns-in_default-clause-serves
returns-in_default-clause-serves g c = λ cpu. part_gives extent_of text_length text_by _ None text_same c.in_ok-extent.ensures.fit.ready (rw c.in_default.is at (c.in_ok-extent.ensures.serves cpu))

pub returns-clause-serves : goal.returns-clause-serves
returns-clause-serves g c = λ cpu. rw (sym c.text.ensures) at (part_gives extent_of text_length text_by _ (Some c.in-Some.extent) text_same c.in_ok-extent.ensures.fit.ready (rw c.in-Some.is at (c.in_ok-extent.ensures.serves cpu)))
