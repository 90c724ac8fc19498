use Rattle.file_roles.specs.Open.{whatever}
use Rattle.file_roles.proofs.OpenLaws.{leaves-read}
use Rattle.file_roles.proofs.files.take_some.Goals as goal

pub returns-clause-leaves : goal.returns-clause-leaves
returns-clause-leaves g c told way used = leaves-read whatever c.args.used.now _ _ c.read.result way used (c.read.ensures.read told) (c.read.ensures.failed told)
