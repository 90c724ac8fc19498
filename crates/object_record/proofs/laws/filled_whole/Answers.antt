use Rattle.object_record.proofs.Records.{whole-filled}
use Rattle.object_record.proofs.laws.filled_whole.Goals as goal

pub returns : goal.returns
returns c = whole-filled
