use Rattle.blue_model.proofs.LawSteps.{respects}
use Rattle.blue_model.proofs.RuleLaws.{law-find_from_register}
use Rattle.blue_model.proofs.laws.lookup_respects_thinning.Goals as goal

pub returns : goal.returns
returns c r = respects (λ w. law-find_from_register {w = w} r)
