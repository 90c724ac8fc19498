use Rattle.std.proofs.Common.{Some, None}
use Rattle.blue_model.specs.Storage.{is_text}
use Rattle.contexts.proofs.ServesLaws.{exits}
use Rattle.prims_object.specs.Extents.{text_length}
use Rattle.prims_object.proofs.ExtentLaws.{yes, is_text_same, part_gives, part_stops}
use Rattle.prims_object.proofs.extents.peek_text.Goals as goal

pub returns-in_err-text_length-clause-serves : goal.returns-in_err-text_length-clause-serves
returns-in_err-text_length-clause-serves g c = λ cpu. exits _ c.from_residual.ensures.1 (part_stops text_length is_text yes _ is_text_same (c.in_err-text_length.ensures.serves cpu))

pub returns-in_default-clause-serves : goal.returns-in_default-clause-serves
returns-in_default-clause-serves g c = λ cpu. part_gives text_length is_text yes _ None is_text_same c.in_ok-text_length.ensures.fit.ready (rw c.in_default.is at (c.in_ok-text_length.ensures.serves cpu))

pub returns-clause-serves : goal.returns-clause-serves
returns-clause-serves g c = λ cpu. part_gives text_length is_text yes _ (Some c.in-Some.field-0) is_text_same c.in_ok-text_length.ensures.fit.ready (rw c.in-Some.is at (c.in_ok-text_length.ensures.serves cpu))
