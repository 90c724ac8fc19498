use Rattle.std.proofs.Common.{Some, None}
use Rattle.blue_model.specs.Parts.{size}
use Rattle.blue_model.specs.Storage.{is_array}
use Rattle.contexts.proofs.ServesLaws.{exits}
use Rattle.prims_object.proofs.ExtentLaws.{no, is_array_same, part_gives, part_stops}
use Rattle.prims_object.proofs.extents.peek_array.Goals as goal

pub returns-in_err-peek_size-clause-serves : goal.returns-in_err-peek_size-clause-serves
returns-in_err-peek_size-clause-serves g c = λ cpu. exits _ c.from_residual.ensures.1 (part_stops (size 0) is_array no _ is_array_same (c.in_err-peek_size.ensures.serves cpu))

pub returns-in_default-clause-serves : goal.returns-in_default-clause-serves
returns-in_default-clause-serves g c = λ cpu. part_gives (size 0) is_array no _ None is_array_same c.in_ok-peek_size.ensures.fit.ready (rw c.in_default.is at (c.in_ok-peek_size.ensures.serves cpu))

pub returns-clause-serves : goal.returns-clause-serves
returns-clause-serves g c = λ cpu. part_gives (size 0) is_array no _ (Some c.in-Some.field-0) is_array_same c.in_ok-peek_size.ensures.fit.ready (rw c.in-Some.is at (c.in_ok-peek_size.ensures.serves cpu))
