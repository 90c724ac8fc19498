use Rattle.object_record.proofs.Texts.{begun}
use Rattle.object_record.proofs.laws.begins_with.Goals as goal

pub returns : goal.returns
returns c = λ bytes rest r is e. begun bytes r rest is e
