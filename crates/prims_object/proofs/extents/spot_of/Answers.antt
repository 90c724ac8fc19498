use Rattle.std.proofs.Common.{Some, None, sym}
use Rattle.blue_model.specs.Elements.{spot_of}
use Rattle.contexts.proofs.ServesLaws.{exits}
use Rattle.prims_object.specs.Extents.{extent_of, spot_by}
use Rattle.prims_object.proofs.ExtentLaws.{spot_same, part_gives, part_stops}
use Rattle.prims_object.proofs.extents.spot_of.Goals as goal

pub returns-in_err-extent-clause-serves : goal.returns-in_err-extent-clause-serves
returns-in_err-extent-clause-serves g c = λ cpu. exits _ c.from_residual.ensures.1 (part_stops extent_of (spot_of c.args.e) (spot_by c.args.e) _ (spot_same c.args.e c.requires.first) (c.in_err-extent.ensures.serves cpu))

pub returns-in_default-clause-serves : goal.returns-in_default-clause-serves
returns-in_default-clause-serves g c = λ cpu. part_gives extent_of (spot_of c.args.e) (spot_by c.args.e) _ None (spot_same c.args.e c.requires.first) c.in_ok-extent.ensures.fit.ready (rw c.in_default.is at (c.in_ok-extent.ensures.serves cpu))

pub returns-clause-serves : goal.returns-clause-serves
returns-clause-serves g c = λ cpu. rw (sym c.spot.ensures) at (part_gives extent_of (spot_of c.args.e) (spot_by c.args.e) _ (Some c.in-Some.extent) (spot_same c.args.e c.requires.first) c.in_ok-extent.ensures.fit.ready (rw c.in-Some.is at (c.in_ok-extent.ensures.serves cpu)))
