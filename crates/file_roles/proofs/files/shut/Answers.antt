use Rattle.file_roles.proofs.OpenLaws.{leaves-closed}
use Rattle.file_roles.proofs.files.shut.Goals as goal

pub returns : goal.returns
returns g c told = leaves-closed _ _ _ (c.close.ensures told)
