use Rattle.std.proofs.Common.{refl}
use Rattle.file_roles.specs.Open.{not_of}
use Rattle.file_roles.proofs.OpenLaws.{leaves-same, leaves-synced}
use Rattle.file_roles.proofs.files.settle.Goals as goal

pub returns : goal.returns
returns g c told used = leaves-synced c.args.used.now _ _ c.sync.result used (c.sync.ensures.synced told) (c.sync.ensures.failed told)

pub returns-then-ne : goal.returns-then-ne
returns-then-ne g c told used = leaves-same (not_of _) _ _ refl
