use Rattle.leaf_lambda.specs.Parts.{core_of}
use Rattle.leaf_lambda.proofs.WordLaws.{field-there}
use Rattle.core_tests.proofs.objects.body_with.Goals as goal

pub returns-then-i-field_total : goal.returns-then-i-field_total
returns-then-i-field_total c = field-there (core_of c.args.p.now) c.args.s.0 c.place_of_body-at.result.place c.args.i c.field_total.result c.place_of_body-at.ensures c.field_total.ensures c.if-i-field_total.true
