use Rattle.std.proofs.Common.{Some, None, sym}
use Rattle.blue_model.specs.Storage.{size_behind}
use Rattle.contexts.proofs.ServesLaws.{exits}
use Rattle.prims_object.specs.Extents.{extent_of, behind}
use Rattle.prims_object.proofs.ExtentLaws.{behind_same, part_gives, part_stops}
use Rattle.prims_object.proofs.extents.size_behind.Goals as goal

pub returns-in_err-extent-clause-serves : goal.returns-in_err-extent-clause-serves
returns-in_err-extent-clause-serves g c = λ cpu. exits _ c.from_residual.ensures.1 (part_stops extent_of (size_behind c.args.fixed) (behind c.args.fixed) _ (behind_same c.args.fixed) (c.in_err-extent.ensures.serves cpu))

pub returns-in_default-clause-serves : goal.returns-in_default-clause-serves
returns-in_default-clause-serves g c = λ cpu. part_gives extent_of (size_behind c.args.fixed) (behind c.args.fixed) _ None (behind_same c.args.fixed) c.in_ok-extent.ensures.fit.ready (rw c.in_default.is at (c.in_ok-extent.ensures.serves cpu))

pub returns-clause-serves : goal.returns-clause-serves
returns-clause-serves g c = λ cpu. rw (sym c.behind.ensures.behind) at (part_gives extent_of (size_behind c.args.fixed) (behind c.args.fixed) _ (Some c.in-Some.extent) (behind_same c.args.fixed) c.in_ok-extent.ensures.fit.ready (rw c.in-Some.is at (c.in_ok-extent.ensures.serves cpu)))
