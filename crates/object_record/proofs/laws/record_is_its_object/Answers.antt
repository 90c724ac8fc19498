use Rattle.object_record.proofs.ObjectLaws.{object-again}
use Rattle.object_record.proofs.laws.record_is_its_object.Goals as goal

-- src/laws.rt:34:1
pub returns : goal.returns
returns c = object-again
