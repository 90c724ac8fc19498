use Rattle.event_file.proofs.OneReading.{one-bad}
use Rattle.event_file.proofs.laws.a_text_has_one_bad_line.Goals as goal

pub returns : goal.returns
returns c = one-bad
