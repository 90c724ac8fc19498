use Rattle.std.proofs.Common.{refl}
use Rattle.file_roles.specs.Open.{not_of}
use Rattle.file_roles.proofs.OpenLaws.{leaves-same, writes-leaves, writes-put}
use Rattle.file_roles.proofs.files.put_some.Goals as goal

pub returns-then-is_empty-clause-writes : goal.returns-then-is_empty-clause-writes
returns-then-is_empty-clause-writes g c told order used = writes-leaves _ _ _ _ (leaves-same (not_of _) _ _ refl)

pub returns-clause-writes : goal.returns-clause-writes
returns-clause-writes g c told order used = writes-put _ _ c.args.buf.now _ _ c.put.result (c.put.ensures.put told order used) (c.put.ensures.failed told order used)
