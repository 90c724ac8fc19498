use Rattle.checkpoint.proofs.MemoryLaws.{fail-cause}
use Rattle.checkpoint.proofs.memory.MemoryVaultVault.read_at.Goals as goal

pub returns-then-is_due-clause-cause : goal.returns-then-is_due-clause-cause
returns-then-is_due-clause-cause c = fail-cause _ _ _ _ c.is_due.ensures.faults c.fail.ensures.cause

pub returns-then-is_due-clause-room : goal.returns-then-is_due-clause-room
returns-then-is_due-clause-room c = λ name_bytes calls bytes end room. c.fail.ensures.room name_bytes calls bytes end (c.is_due.ensures.room name_bytes calls bytes end room)
