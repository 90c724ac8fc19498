use Rattle.event_file.proofs.OneReading.{one-list}
use Rattle.event_file.proofs.laws.a_text_has_one_list.Goals as goal

pub returns : goal.returns
returns c = λ a b ra rb e. one-list a b ra.lines_are rb.lines_are e
