use Rattle.loom_words.specs.Command.{row_for}
use Rattle.loom_run.specs.Meanings.{meanings}
use Rattle.loom_run.proofs.EndsLaws.{ends-early}
use Rattle.loom_run.proofs.program.run_command.Goals as goal

pub returns-in-Ok : goal.returns-in-Ok
returns-in-Ok g c = record { ends = c.run_under.ensures.ends (meanings g.H.Host c.args.host.now) c.in-Ok.ensures.came }

pub returns-in-Err : goal.returns-in-Err
returns-in-Err g c = record {
  ends = ends-early g.H.Host.tells (meanings g.H.Host c.args.host.now) (row_for c.args.command.now) (meanings g.H.Host c.read_all.new.host) c.in-Err.status c.in-Err.ensures.ends;
}
