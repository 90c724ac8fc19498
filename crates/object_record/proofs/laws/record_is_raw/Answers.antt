use Rattle.object_record.proofs.Records.{same-text, is-raw}
use Rattle.object_record.proofs.laws.record_is_raw.Goals as goal

pub returns-clause-text : goal.returns-clause-text
returns-clause-text c = same-text

pub returns-clause-is : goal.returns-clause-is
returns-clause-is c = is-raw
