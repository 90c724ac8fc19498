use Rattle.std.proofs.Common.{◌≡◌, ℕ}
use Rattle.checkpoint.proofs.GateLaws.{byte-kept, spares-sync}
use Rattle.checkpoint.proofs.SureLaws.{unsynced-synced}
use Rattle.checkpoint.proofs.gates.open_gate.Goals as goal

pub returns-clause-spares : goal.returns-clause-spares
returns-clause-spares g c told = spares-sync _ _ _ _ _ (c.in_ok-mark.ensures.spares told) (c.sync.ensures.synced told)

pub returns-clause-open : goal.returns-clause-open
returns-clause-open g c told = byte-kept _ _ (λ (b : ℕ). b ≡ 1) _ _ (c.sync.ensures.synced told) (c.in_ok-mark.ensures.byte told)

pub returns-clause-synced : goal.returns-clause-synced
returns-clause-synced g c told = unsynced-synced _ _ _ (c.sync.ensures.synced told)
