use Rattle.st80_picture.proofs.RowLaws.{stored_put}
use Rattle.st80_picture.proofs.chunks.put_stored.Goals as goal

pub returns : goal.returns
returns c = stored_put c.args.last c.args.bytes.now _ _ _ _ _ _ _ c.in_ok-push.ensures.ok c.in_ok-extend.ensures.ok c.to_le_bytes.ensures c.in_ok-extend-2.ensures.ok c.to_le_bytes-2.ensures c.in_ok-extend-3.ensures.ok
