use Rattle.blue_model.proofs.LineLaws.{takes_its_lines}
use Rattle.blue_model.proofs.laws.a_count_takes_its_lines.Goals as goal

pub returns : goal.returns
returns c = takes_its_lines
