use Rattle.text_lines.proofs.TextBack.{text-back}
use Rattle.text_lines.proofs.TextHeaps.{image_text_from, image_text_to}
use Rattle.text_lines.proofs.text_laws.no_line_breaks.Goals as goal

pub returns : goal.returns
returns c = λ text. (image_text_from text, image_text_to text-back text)
