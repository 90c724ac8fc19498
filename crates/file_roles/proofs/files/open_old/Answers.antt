use Rattle.file_roles.specs.Open.{whatever}
use Rattle.file_roles.proofs.OpenLaws.{leaves-found, leaves-same, takes-opened}
use Rattle.file_roles.proofs.files.open_old.Goals as goal

pub returns-in_err-opened-clause-leaves : goal.returns-in_err-opened-clause-leaves
returns-in_err-opened-clause-leaves g c told = leaves-same whatever _ _ (c.in_err-opened.ensures.failed told)

pub returns-clause-leaves : goal.returns-clause-leaves
returns-clause-leaves g c told = leaves-found whatever _ _ _ _ _ (c.in_ok-opened.ensures.opened told)

pub returns-clause-opened : goal.returns-clause-opened
returns-clause-opened g c told = takes-opened _ _ _ (c.in_ok-opened.ensures.opened told).does.takes
