use Rattle.text_lines.proofs.TextBack.{text-back}
use Rattle.text_lines.proofs.text_laws.text_back.Goals as goal

pub returns : goal.returns
returns c = λ head recs are. text-back head recs are
