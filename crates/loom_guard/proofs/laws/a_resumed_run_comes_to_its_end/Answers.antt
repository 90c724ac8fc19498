use Rattle.loom_guard.proofs.CompletesKept.{resume-completes}
use Rattle.loom_guard.proofs.laws.a_resumed_run_comes_to_its_end.Goals as goal

pub returns : goal.returns
returns c = resume-completes
