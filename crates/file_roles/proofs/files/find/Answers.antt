use Rattle.file_roles.specs.Open.{whatever}
use Rattle.file_roles.proofs.OpenLaws.{leaves-then, opened-earlier-ok}
use Rattle.file_roles.proofs.files.find.Goals as goal

pub returns-in-Err-Missing-clause-leaves : goal.returns-in-Err-Missing-clause-leaves
returns-in-Err-Missing-clause-leaves g c told = leaves-then whatever _ _ _ (c.open_old.ensures.leaves told) (c.create.ensures.leaves told)

pub returns-in-Err-Missing-clause-opened : goal.returns-in-Err-Missing-clause-opened
returns-in-Err-Missing-clause-opened g c told = opened-earlier-ok _ _ _ c.create.result (c.open_old.ensures.leaves told).puts (c.create.ensures.opened told)
