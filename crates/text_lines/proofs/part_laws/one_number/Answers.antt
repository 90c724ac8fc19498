use Rattle.text_lines.proofs.NumberLaws.{number-again, number-spelled}
use Rattle.text_lines.proofs.part_laws.one_number.Goals as goal

pub returns-clause-again : goal.returns-clause-again
returns-clause-again c = λ n small. number-again n small

pub returns-clause-one : goal.returns-clause-one
returns-clause-one c = λ text n e small. number-spelled text n e small
