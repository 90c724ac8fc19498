use Rattle.loom_run.proofs.HeadlineLaws.{headline-determines}
use Rattle.loom_run.proofs.laws.headline_determines_the_files.Goals as goal

pub returns : goal.returns
returns c = λ old new before now row other result status first a second b image events steps. headline-determines old new before now row other image events steps result status first second a b
