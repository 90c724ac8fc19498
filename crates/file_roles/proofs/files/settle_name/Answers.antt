use Rattle.file_roles.specs.Open.{whatever}
use Rattle.file_roles.proofs.OpenLaws.{leaves-folder, leaves-same}
use Rattle.file_roles.proofs.files.settle_name.Goals as goal

pub returns-in_err-folder : goal.returns-in_err-folder
returns-in_err-folder g c told = leaves-same whatever _ _ (c.in_err-folder.ensures.failed told)

pub returns : goal.returns
returns g c told = leaves-folder whatever _ _ _ _ _ _ c.sync-settled.result (c.in_ok-folder.ensures.opened told) (c.sync-settled.ensures.synced told) (c.sync-settled.ensures.failed told) (c.close.ensures told)
