use Rattle.long_names.proofs.ThinLemmas.{IsThinning-trans}
use Rattle.long_names.proofs.laws.thinning_of_a_thinning.Goals as goal

pub returns : goal.returns
returns c = λ h s t regs slots. IsThinning-trans h s t regs regs slots slots
