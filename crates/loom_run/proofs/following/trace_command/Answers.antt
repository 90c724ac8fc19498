use Rattle.loom_words.specs.Command.{row_for}
use Rattle.loom_run.specs.Meanings.{meanings}
use Rattle.loom_run.proofs.TracedEnds.{trace-early}
use Rattle.loom_run.proofs.following.trace_command.Goals as goal

pub returns-in-Ok : goal.returns-in-Ok
returns-in-Ok g c = record { ends = c.trace_under.ensures.ends (meanings g.H.Host c.args.host.now) c.in-Ok.ensures.came }

pub returns-in-Err : goal.returns-in-Err
returns-in-Err g c = record {
  ends = trace-early g.H.Host.tells (meanings g.H.Host c.args.host.now) (row_for c.args.command.now) (meanings g.H.Host c.read_all.new.host) c.in-Err.status c.in-Err.ensures.ends;
}
