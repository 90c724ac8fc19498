use Rattle.image_format.proofs.Records.{same_record}
use Rattle.image_format.proofs.laws.one_text.Goals as goal

pub returns : goal.returns
returns c = same_record
