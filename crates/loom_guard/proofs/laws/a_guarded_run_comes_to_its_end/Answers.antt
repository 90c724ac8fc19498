use Rattle.loom_guard.proofs.CompletesKept.{guard-completes}
use Rattle.loom_guard.proofs.laws.a_guarded_run_comes_to_its_end.Goals as goal

pub returns : goal.returns
returns c = guard-completes
