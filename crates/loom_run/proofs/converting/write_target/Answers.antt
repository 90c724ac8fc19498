-- Attached and then put: a step of the host, and one of the disk.
use Rattle.loom_run.proofs.ConvertLaws.{refused-saving}
use Rattle.loom_run.proofs.ConvertSteps.{source-stays}
use Rattle.loom_host.specs.declared.outside.Role.TheVariants.{Work}
use Rattle.loom_run.proofs.converting.write_target.Goals as goal

pub returns-in-Err-clause-refused : goal.returns-in-Err-clause-refused
returns-in-Err-clause-refused g c = refused-saving c.in-Err.status c.in-Err.ensures.refused

pub put_source-requires : goal.put_source-requires
put_source-requires g c = record { source = source-stays g.H.Host c.args.disk.now.host.now c.open_saved.new.disk.host.now c.args.disk.now.rest c.open_saved.new.disk.rest c.args.loaded.now.next (c.open_saved.ensures.others Work (λ e. cc)) c.open_saved.ensures.rest c.requires.source }
