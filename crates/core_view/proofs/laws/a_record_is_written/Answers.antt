use Rattle.core_view.proofs.Records.{write-keeps}
use Rattle.core_view.proofs.laws.a_record_is_written.Goals as goal

pub returns : goal.returns
returns c = write-keeps
