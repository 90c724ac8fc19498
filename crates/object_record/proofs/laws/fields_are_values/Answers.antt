use Rattle.object_record.proofs.ObjectLaws.{fields-values}
use Rattle.object_record.proofs.laws.fields_are_values.Goals as goal

pub returns : goal.returns
returns c = fields-values
