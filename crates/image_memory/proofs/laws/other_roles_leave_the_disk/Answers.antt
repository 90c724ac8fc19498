use Rattle.image_memory.proofs.EndLaws.{ended-stays}
use Rattle.image_memory.proofs.ImageLaws.{image-stays}
use Rattle.image_memory.proofs.laws.other_roles_leave_the_disk.Goals as goal

pub returns-clause-image : goal.returns-clause-image
returns-clause-image g c = image-stays g.H.Host

pub returns-clause-ended : goal.returns-clause-ended
returns-clause-ended g c = ended-stays g.H.Host
