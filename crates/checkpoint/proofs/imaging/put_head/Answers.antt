use Rattle.checkpoint.proofs.SparesLaws.{apart-then}
use Rattle.checkpoint.proofs.imaging.put_head.Goals as goal

pub returns-clause-spares : goal.returns-clause-spares
returns-clause-spares g c told = apart-then _ _ _ _ _ c.in_ok-put.ensures.parity (c.in_ok-put.ensures.spares told) (c.put-2.ensures.spares told)
