-- A disk begins over the host as it is, and hands it back.
use Rattle.loom_words.specs.Command.{paths_for}
use Rattle.loom_run.specs.Meanings.{meanings}
use Rattle.loom_run.proofs.ConvertLaws.{conversion-opening}
use Rattle.loom_run.proofs.converting.convert.Goals as goal

pub returns-in-Err : goal.returns-in-Err
returns-in-Err g c = record {
  ends = conversion-opening g.H.Host.tells (meanings g.H.Host c.args.host.now) c.args.way (paths_for c.args.conversion.now) (meanings g.H.Host c.open_work.new.host) c.in-Err.status c.open_work.ensures.attached c.open_work.ensures.others c.in-Err.ensures.refused;
}
