use Rattle.text_lines.proofs.TextBack.{text-back}
use Rattle.text_lines.proofs.TextHeaps.{same_heap}
use Rattle.text_lines.proofs.text_laws.one_text.Goals as goal

pub returns : goal.returns
returns c = same_heap text-back
