use Rattle.std.proofs.Common.{refl}
use Rattle.loom_host.specs.declared.outside.Role.TheVariants.{Saved}
use Rattle.loom_memory.specs.Memory.{loom_outside}
use Rattle.loom_run.proofs.TraceLaws.{line-text, only-part, only-puts}
use Rattle.loom_run.proofs.tracing.put_line.Goals as goal

pub returns-in-Ok-clause-line : goal.returns-in-Ok-clause-line
returns-in-Ok-clause-line g c = λ saved. rw (line-text _ _ _ _ c.trace_line-len.ensures.line c.trace_line-len.ensures.length) at (rw c.in-Ok.is at (c.write_to.ensures.put saved))

pub returns-in-Err-clause-line : goal.returns-in-Err-clause-line
returns-in-Err-clause-line g c = λ saved. rw (line-text _ _ _ _ c.trace_line-len.ensures.line c.trace_line-len.ensures.length) at (rw c.in-Err.is at (c.write_to.ensures.failed saved))

pub returns-in-Err-clause-cause : goal.returns-in-Err-clause-cause
returns-in-Err-clause-cause g c = (c.fault_count.ensures, (rw c.in-Err.is at c.write_to.ensures.cause.rose) refl)

pub returns-in-Ok-clause-only : goal.returns-in-Ok-clause-only
returns-in-Ok-clause-only g c = λ saved. only-puts _ (loom_outside g.H.Host c.args.m.now Saved).role _ (rw c.in-Ok.is at (c.write_to.ensures.put saved))

pub returns-in-Err-clause-only : goal.returns-in-Err-clause-only
returns-in-Err-clause-only g c = λ saved. only-part _ _ _ (rw c.in-Err.is at (c.write_to.ensures.failed saved))
