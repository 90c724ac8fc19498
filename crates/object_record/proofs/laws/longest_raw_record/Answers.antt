use Rattle.object_record.proofs.Records.{longest-raw}
use Rattle.object_record.proofs.laws.longest_raw_record.Goals as goal

pub returns : goal.returns
returns c = longest-raw
