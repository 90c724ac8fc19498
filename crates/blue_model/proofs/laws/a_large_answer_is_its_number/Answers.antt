use Rattle.blue_model.proofs.LargeLaws.{digits_few, answer_value, answers_alike, operand_reads}
use Rattle.blue_model.proofs.laws.a_large_answer_is_its_number.Goals as goal

pub returns-clause-value : goal.returns-clause-value
returns-clause-value c = answer_value

pub returns-clause-read : goal.returns-clause-read
returns-clause-read c = operand_reads

pub returns-clause-one : goal.returns-clause-one
returns-clause-one c = answers_alike

pub returns-clause-fewest : goal.returns-clause-fewest
returns-clause-fewest c bytes all = digits_few 16 bytes all
