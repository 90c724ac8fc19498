use Rattle.loom_run.proofs.ShowsLaws.{shows_from}
use Rattle.loom_run.proofs.laws.a_trace_shows_the_run.Goals as goal

pub returns : goal.returns
returns c = shows_from
