use Rattle.std.proofs.Common.{◌+◌, ap, ◌∙◌}
use Rattle.checkpoint.specs.Memory.{HasRoom, faults_of, fuse_of}
use Rattle.checkpoint.proofs.MemoryLaws.{fail-cause, no-refusal, not-due, when-ok}
use Rattle.checkpoint.proofs.memory.MemoryVaultVault.sync.Goals as goal
use Rattle.checkpoint.proofs.memory.MemoryVaultVault.sync.Goals.{then-is_due-via-then-is_due, then-is_due-via-else-is_due+then-is_err}

pub returns-then-is_due-clause-cause : goal.returns-then-is_due-clause-cause
unfolding faults_of
returns-then-is_due-clause-cause c =
    fail-cause _ _ _ _ (elim c.then-is_due.branch [
      | then-is_due-via-then-is_due w ↦ ap faults_of w.self-is ∙ c.is_due.ensures.faults
      | then-is_due-via-else-is_due+then-is_err w ↦ ap faults_of w.self-is ∙ c.is_due.ensures.faults
    ]) c.fail.ensures.cause

pub returns-then-is_due-clause-succeeds : goal.returns-then-is_due-clause-succeeds
unfolding HasRoom fuse_of
returns-then-is_due-clause-succeeds c = λ name_bytes calls bytes end room unset. elim c.then-is_due.branch [
  | then-is_due-via-then-is_due w ↦ not-due c.is_due.result (c.is_due.ensures.passes unset) w.if-is_due.true
  | then-is_due-via-else-is_due+then-is_err w ↦ no-refusal w.sync.result w.is_err.result
      (w.sync.ensures.succeeds calls bytes end (c.is_due.ensures.room name_bytes (calls + 1) bytes end room).1) w.is_err.ensures.value w.if-is_err.true
]

pub returns-clause-room : goal.returns-clause-room
unfolding HasRoom
returns-clause-room c = λ name_bytes calls bytes end room.
    let begun = c.is_due.ensures.room name_bytes (calls + 1) bytes end room in
    (begun.0, when-ok c.sync.result c.is_err.result c.is_err.ensures.value c.if-is_err.false c.sync.ensures.room calls bytes end begun.1)
