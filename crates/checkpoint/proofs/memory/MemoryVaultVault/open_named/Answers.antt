use Rattle.std.proofs.Common.{ap, ◌∙◌}
use Rattle.checkpoint.specs.Memory.{HasRoom, faults_of, fuse_of, with_opening}
use Rattle.checkpoint.proofs.MemoryLaws.{fail-cause, no-refusal, not-due, when-ok}
use Rattle.checkpoint.proofs.memory.MemoryVaultVault.open_named.Goals as goal
use Rattle.checkpoint.proofs.memory.MemoryVaultVault.open_named.Goals.{then-is_due-via-then-is_due, then-is_due-via-else-is_due+then-is_err}

pub returns-then-is_due-clause-cause : goal.returns-then-is_due-clause-cause
unfolding faults_of
returns-then-is_due-clause-cause c =
    fail-cause _ _ _ _ (elim c.then-is_due.branch [
      | then-is_due-via-then-is_due w ↦ ap faults_of w.self-is ∙ c.is_due.ensures.faults
      | then-is_due-via-else-is_due+then-is_err w ↦ ap faults_of w.self-is ∙ w.renew.ensures.faults ∙ c.is_due.ensures.faults
    ]) c.fail.ensures.cause

pub returns-then-is_due-clause-succeeds : goal.returns-then-is_due-clause-succeeds
unfolding HasRoom fuse_of
returns-then-is_due-clause-succeeds c = λ name_bytes calls bytes end room fits unset. elim c.then-is_due.branch [
  | then-is_due-via-then-is_due w ↦ not-due c.is_due.result (c.is_due.ensures.passes unset) w.if-is_due.true
  | then-is_due-via-else-is_due+then-is_err w ↦ no-refusal w.renew.result w.is_err.result
      (w.renew.ensures.succeeds name_bytes calls bytes end (c.is_due.ensures.room name_bytes (with_opening c.args.fresh calls) bytes end room) fits) w.is_err.ensures.value w.if-is_err.true
]

pub returns-clause-room : goal.returns-clause-room
unfolding HasRoom
returns-clause-room c = λ name_bytes calls bytes end room.
    when-ok c.renew.result c.is_err.result c.is_err.ensures.value c.if-is_err.false c.renew.ensures.room name_bytes calls bytes end
    (c.is_due.ensures.room name_bytes (with_opening c.args.fresh calls) bytes end room)
