use Rattle.std.proofs.Common.{◌+◌, length}
use Rattle.checkpoint.specs.Journal.{state_in}
use Rattle.checkpoint.specs.Memory.{HasRoom, faults_of, name_of, state_of}
use Rattle.checkpoint.proofs.MemoryLaws.{fail-cause, failed-written, no-refusal, when-ok}
use Rattle.checkpoint.proofs.memory.MemoryVaultVault.write_at.Goals as goal

pub returns-then-is_due-clause-written : goal.returns-then-is_due-clause-written
unfolding state_of
returns-then-is_due-clause-written c =
    let v = c.is_due.new.self in
    failed-written c.fail.result c.fail-then-is_due.result c.args.place c.args.buf.now v.openings (name_of v) (state_in v.journal) (state_in c.fail.new.self) _ _ c.fail-then-is_due.ensures.err
    c.fail.ensures.ok c.fail.ensures.err c.is_due.ensures.state c.fail-then-is_due.ensures.state

pub returns-then-is_due-clause-cause : goal.returns-then-is_due-clause-cause
unfolding faults_of
returns-then-is_due-clause-cause c = fail-cause _ _ _ _ c.is_due.ensures.faults c.fail-then-is_due.ensures.cause

pub returns-then-is_err-clause-cause : goal.returns-then-is_err-clause-cause
unfolding faults_of
returns-then-is_err-clause-cause c = fail-cause _ _ _ _ c.is_due.ensures.faults c.fail-then-is_err.ensures.cause

pub returns-then-is_err-clause-succeeds : goal.returns-then-is_err-clause-succeeds
unfolding HasRoom
returns-then-is_err-clause-succeeds c = λ name_bytes calls bytes end room fits unset.
    let begun = c.is_due.ensures.room name_bytes (calls + 1) (bytes + length c.args.buf.now) end room in
    no-refusal c.write.result c.is_err.result (c.write.ensures.succeeds calls bytes end begun.1 fits) c.is_err.ensures.value c.if-is_err.true

pub returns-clause-room : goal.returns-clause-room
unfolding HasRoom
returns-clause-room c = λ name_bytes calls bytes end room fits.
    let begun = c.is_due.ensures.room name_bytes (calls + 1) (bytes + length c.args.buf.now) end room in
    (begun.0, when-ok c.write.result c.is_err.result c.is_err.ensures.value c.if-is_err.false c.write.ensures.room calls bytes end begun.1 fits)
