use Rattle.file_roles.proofs.OpenLaws.{put-fails, put-puts}
use Rattle.file_roles.proofs.files.put.Goals as goal

pub returns-clause-put : goal.returns-clause-put
returns-clause-put g c told order used = put-puts c.args.used.now c.args.buf.now _ _ c.append.result order used (c.append.ensures.put told)

pub returns-clause-failed : goal.returns-clause-failed
returns-clause-failed g c told order used = put-fails c.args.used.now _ _ c.append.result order used (c.append.ensures.failed told)
