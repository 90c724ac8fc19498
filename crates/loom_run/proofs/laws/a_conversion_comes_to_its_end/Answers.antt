use Rattle.loom_run.proofs.SpellingLaws.{converted_from}
use Rattle.loom_run.proofs.laws.a_conversion_comes_to_its_end.Goals as goal

pub returns : goal.returns
returns c = converted_from
