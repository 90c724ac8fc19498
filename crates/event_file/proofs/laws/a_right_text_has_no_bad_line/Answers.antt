use Rattle.event_file.proofs.OneReading.{none-bad}
use Rattle.event_file.proofs.laws.a_right_text_has_no_bad_line.Goals as goal

pub returns : goal.returns
returns c = none-bad
