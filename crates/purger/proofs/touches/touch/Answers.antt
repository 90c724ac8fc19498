use Rattle.core_view.proofs.Steps.{Stays-refl}
use Rattle.leaf_lambda.specs.Parts.{core_of}
use Rattle.purger.proofs.TouchLaws.{Touching-refl}
use Rattle.purger.proofs.touches.touch.Goals as goal

pub returns-then-not-is_name-clause-step : goal.returns-then-not-is_name-clause-step
returns-then-not-is_name-clause-step c = Touching-refl (core_of c.args.p.now)

pub returns-then-not-is_name-clause-stays : goal.returns-then-not-is_name-clause-stays
returns-then-not-is_name-clause-stays c = Stays-refl (core_of c.args.p.now)
