use Rattle.text_lines.proofs.OneReading.{text_read}
use Rattle.text_lines.proofs.text_laws.one_reading.Goals as goal

pub returns : goal.returns
returns c = text_read
