use Rattle.std.proofs.Common.{[], refl, ◌∙◌, arith}
use Rattle.disk_objects.proofs.FoundLaws.{disk-begun}
use Rattle.disk_objects.proofs.rest.DiskRest.new.Goals as goal

pub returns-clause-disk : goal.returns-clause-disk
returns-clause-disk c = disk-begun _ refl c.new-directory.ensures.stands c.new-directory.ensures.none
    (c.new-space.ensures.space [] (omega arith)) (c.new-space.ensures.from ∙ c.end.ensures.value)
