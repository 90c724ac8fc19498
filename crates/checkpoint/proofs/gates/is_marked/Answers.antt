use Rattle.std.proofs.Common.{ℕ, ap, ◌==◌}
use Rattle.checkpoint.proofs.GateLaws.{byte-read}
use Rattle.checkpoint.proofs.gates.is_marked.Goals as goal

pub returns-clause-byte : goal.returns-clause-byte
returns-clause-byte g c told = ap (λ (b : ℕ). b == 1) (byte-read _ _ _ (c.in_ok-read.ensures.bytes told))
