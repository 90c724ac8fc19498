use Rattle.leaf_lambda.specs.Parts.{core_of}
use Rattle.leaf_lambda.proofs.TranslateLaws.{Light-later}
use Rattle.core_tests.proofs.objects.bring_in.Goals as goal

pub returns-clause-light : goal.returns-clause-light
returns-clause-light c = Light-later c.args.s.0 (core_of c.args.p.now) (core_of c.translate_in.new.p) c.translate_in.ensures.opens.1.within c.requires.light
