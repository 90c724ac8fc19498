use Rattle.std.proofs.Common.{◌≢◌, ℕ, ◌*◌, sym, ap, subst, ◌∙◌}
use Rattle.checkpoint.specs.declared.layout.TheConstants.{GATE_GAP}
use Rattle.checkpoint.proofs.GateLaws.{byte-kept, byte-same, marked-is, marked-is_not, spares-sync, zero-is_not}
use Rattle.checkpoint.proofs.SparesLaws.{spares-same, spares-still}
use Rattle.checkpoint.proofs.SureLaws.{unsynced-synced}
use Rattle.checkpoint.proofs.gates.close_gate.Goals.{then-branch+in_ok-mark, else-branch}
use Rattle.checkpoint.proofs.gates.close_gate.Goals as goal

pub returns-clause-spares : goal.returns-clause-spares
returns-clause-spares g c told = elim c.if-branch.branch [
  | then-branch+in_ok-mark w ↦
      spares-sync _ _ _ _ _
      (spares-same _ _ _ _ _ (sym c.in_ok-is_marked.ensures.still) (ap g.V.Vault.state w.vault-is) (w.in_ok-mark.ensures.spares told))
      (c.sync.ensures.synced told)
  | else-branch w ↦
      spares-sync _ _ _ _ _ (spares-still _ _ _ (ap g.V.Vault.state w.vault-is ∙ c.in_ok-is_marked.ensures.still)) (c.sync.ensures.synced told)
]

pub returns-clause-left : goal.returns-clause-left
returns-clause-left g c told other = elim c.if-branch.branch [
  | then-branch+in_ok-mark w ↦ absurd (other (marked-is _ _ (c.in_ok-is_marked.ensures.byte told) w.if-branch.true))
  | else-branch w ↦
      spares-sync _ _ _ _ _ (spares-still _ _ _ (ap g.V.Vault.state w.vault-is ∙ c.in_ok-is_marked.ensures.still)) (c.sync.ensures.synced told)
]

pub returns-clause-closed : goal.returns-clause-closed
returns-clause-closed g c told = byte-kept _ _ (λ (b : ℕ). b ≢ 1) _ _ (c.sync.ensures.synced told) (elim c.if-branch.branch [
  | then-branch+in_ok-mark w ↦ zero-is_not _ (byte-same _ _ (GATE_GAP * c.args.parity) (ap g.V.Vault.state w.vault-is) ∙ w.in_ok-mark.ensures.byte told)
  | else-branch w ↦
      subst (λ (b : ℕ). b ≢ 1) (sym (byte-same _ _ (GATE_GAP * c.args.parity) (ap g.V.Vault.state w.vault-is ∙ c.in_ok-is_marked.ensures.still)))
      (marked-is_not _ _ (c.in_ok-is_marked.ensures.byte told) w.if-branch.false)
])

pub returns-clause-synced : goal.returns-clause-synced
returns-clause-synced g c told = unsynced-synced _ _ _ (c.sync.ensures.synced told)
