use Rattle.loom_run.proofs.RefusalLaws.{leaves_from, traced_leaves_from}
use Rattle.loom_run.proofs.laws.what_a_refusal_leaves.Goals as goal

pub returns-clause-files : goal.returns-clause-files
returns-clause-files c = leaves_from

pub returns-clause-traced : goal.returns-clause-traced
returns-clause-traced c = traced_leaves_from
