use Rattle.checkpoint.proofs.GateLaws.{byte-spares, byte-written}
use Rattle.checkpoint.proofs.gates.mark.Goals as goal

pub returns-clause-byte : goal.returns-clause-byte
returns-clause-byte g c told = byte-written _ _ _ _ _ (c.write.ensures.written told)

pub returns-clause-spares : goal.returns-clause-spares
returns-clause-spares g c told = byte-spares _ _ _ _ _ (c.write.ensures.written told)
